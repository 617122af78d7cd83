-- What natives make of texts.
use Rattle.native_containers.specs.Below.{ℕ, ℤ, bit_xor, Bool, eqb, length, fold, [], w64, cast_signed, flat_map, starts_with, chars, Text}
use Rattle.std.specs.Prelude.{◌*◌, ◌%◌, ◌^◌, ◌==◌, ◌||◌, if◌then◌else◌, ◌∷◌, ◌++◌}

-- how many characters it has
abbrev pub text_length : Text → ℕ
text_length x = length (chars x)

-- one byte more is in a hash of 64 bits
abbrev pub hashed_on : ℕ → ℕ → ℕ
hashed_on h b = (bit_xor h b * 1099511628211) % 2 ^ 64

-- FNV-1a, with the constants for 64 bits
abbrev pub hash_of : Text → ℕ
hash_of x = fold hashed_on 14695981039346656037 x

abbrev pub text_hash : Text → ℤ
text_hash x = cast_signed w64 (hash_of x)

-- a backslash, and this byte
abbrev pub mark : ℕ → Text
mark b = 92 ∷ b ∷ []

-- backslashes and single quotes are marked, and ends of lines and tabs have letters. All else stands as it is
unfoldable pub repr_byte : ℕ → Text
repr_byte b =
    if b == 92 then mark 92
    else (if b == 39 then mark 39
    else (if b == 10 then mark 110
    else (if b == 13 then mark 114
    else (if b == 9 then mark 116
    else b ∷ []))))

-- a text as Python writes it, between two single quotes
abbrev pub repr_text : Text → Text
repr_text x = (39 ∷ flat_map repr_byte x) ++ 39 ∷ []

-- whether a text stands somewhere in another
abbrev pub stands_in : Text → Text → Bool
stands_in x [] = starts_with eqb [] x
stands_in x (b ∷ bs) = starts_with eqb (b ∷ bs) x || stands_in x bs

-- Names and texts as they are written, each on one line.
use Rattle.plain_machine.specs.Below.{ℕ, [], nat_lt, digit_char, flat_map, Text}
use Rattle.std.specs.Prelude.{◌/◌, ◌%◌, ◌∷◌, ◌++◌, ◌==◌, if◌then◌else◌}

-- a backslash, and this byte
abbrev pub mark : ℕ → Text
mark b = 92 ∷ b ∷ []

-- a backslash, an `x` and two lower-case hexadecimal digits
abbrev pub hexadecimal : ℕ → Text
hexadecimal b = 92 ∷ 120 ∷ digit_char (b / 16) ∷ digit_char (b % 16) ∷ []

-- quotes and backslashes are marked, ends of lines and tabs have letters, and what else stands below
-- the blank has digits
unfoldable pub escaped_byte : ℕ → Text
escaped_byte b =
    if b == 34 then mark 34
    else (if b == 92 then mark 92
    else (if b == 10 then mark 110
    else (if b == 13 then mark 114
    else (if b == 9 then mark 116
    else (if nat_lt b 32 then hexadecimal b else b ∷ [])))))

-- a text as names are written
abbrev pub escaped : Text → Text
escaped text = flat_map escaped_byte text

-- a text between two quotes
abbrev pub quoted : Text → Text
quoted text = (34 ∷ escaped text) ++ 34 ∷ []

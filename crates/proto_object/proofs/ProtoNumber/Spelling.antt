-- What a text spells is what `parse` reads.
use Rattle.proto_object.proofs.Below.{◌∙◌, Bool, true, false, cond, drop, [], Ok, refl, sym, ap, arith, w128, FitsSigned, is_ascii_digit, list_all, all_ascii_digits, IsNumeral, digits_value, signed_digits_value, starts_with_minus, without_leading_sign, true≢false, numerals_by_value, tells_all_ascii_digits, IntLiteral, IntRange, Text, fault, in_range, fits-false, is_negative, is_numeral, signed, spelled, without_sign}
use Rattle.std.proofs.Common.{◌≡◌, ◌&&◌, ◌∷◌}
use Rattle.std.specs.Prelude.{◌==◌}

all-digits : (x : Text) → all_ascii_digits x ≡ list_all is_ascii_digit x
all-digits [] = refl
all-digits (b ∷ bs) = ap (λ d. is_ascii_digit b && d) (all-digits bs)

numeral-so : (x : Text) → is_numeral x ≡ true → IsNumeral 10 x
numeral-so [] e = absurd (true≢false (sym e))
numeral-so (b ∷ bs) e =
    (omega arith, (numerals_by_value (λ ds. all_ascii_digits ds ≡ true) tells_all_ascii_digits).to (b ∷ bs) (all-digits (b ∷ bs) ∙ e))

-- the sign is read as `parse` reads it
same-digits : (x : Text) → without_leading_sign x ≡ without_sign x
same-digits [] = refl
same-digits (b ∷ bs) = go (b == 45) (b == 43)
  where
    go : (c d : Bool) → cond c bs (drop (cond d 1 0) (b ∷ bs)) ≡ cond c bs (cond d bs (b ∷ bs))
    go true d = refl
    go false true = refl
    go false false = refl

same-sign : (x : Text) → starts_with_minus x ≡ is_negative x
same-sign [] = refl
same-sign (b ∷ bs) = refl

same-number : (x : Text) → signed_digits_value 10 x ≡ signed (is_negative x) (digits_value 10 (without_sign x))
same-number x = λ i. signed (same-sign x i) (digits_value 10 (same-digits x i))

-- a numeral spells its number, where that fits
numeral-spells : (x : Text) → is_numeral (without_sign x) ≡ true → spelled x ≡ in_range (signed_digits_value 10 x)
numeral-spells x e =
    ap (λ b. cond b (in_range (signed (is_negative x) (digits_value 10 (without_sign x)))) (fault IntLiteral)) e ∙ ap in_range (sym (same-number x))

pub spelled-err : (x : Text) → is_numeral (without_sign x) ≡ true → (IsNumeral 10 (without_leading_sign x) × FitsSigned w128 (signed_digits_value 10 x) → ⊥) → fault IntRange ≡ spelled x
spelled-err x e h =
    let v = signed_digits_value 10 x in
    let digits = numeral-so (without_leading_sign x) (ap is_numeral (same-digits x) ∙ e) in
    sym (numeral-spells x e ∙ ap (λ b. cond b (Ok v) (fault IntRange)) (fits-false v (λ f. h (digits, f))))

-- A numeral whose number isn't read as 64 bits is beyond the range.
use Rattle.outside.proofs.Below.{rules, arith, ℕ, true, false, List, [], length, refl, sym, ap, ◌∙◌, false_from_ne_true, common_steps, IsNumeralModel, numerals_by_value, parse_gives, Result, Ok, Err, None, is_ascii_digit, list_all, digits_value, ParsesUnsigned, is_numeral, is_in_range, number_written}
use Rattle.std.proofs.Common.{◌≡◌, ◌<◌, ◌^◌, ◌∷◌}
use Rattle.std.specs.Prelude.{Some, ◌&&◌, if◌then◌else◌}

own : IsNumeralModel (λ ds. list_all is_ascii_digit ds ≡ true) (digits_value 10)
own = numerals_by_value _ (search rules)

numeral_digits : (text : List ℕ) → is_numeral text ≡ true → list_all is_ascii_digit text ≡ true
numeral_digits [] is = refl
numeral_digits (first ∷ others) is = grind (arith, common_steps)

numeral_length : (text : List ℕ) → is_numeral text ≡ true → 0 < length text
numeral_length [] is = cc
numeral_length (first ∷ others) is = omega arith

in_range_small : (low high n : ℕ) → high < 2 ^ 64 → is_in_range low high n ≡ true → n < 2 ^ 64
in_range_small low high n fits is = grind (arith, common_steps)

pub too_large : {E : Type 0} (low high : ℕ) → high < 2 ^ 64 → (text : List ℕ) (r : Result ℕ E) (e : E) → ParsesUnsigned 64 10 text r → r ≡ Err e → is_numeral text ≡ true → None ≡ number_written low high text
too_large low high fits text r e parses err is =
    let gives : is_in_range low high (digits_value 10 text) ≡ true → r ≡ Ok (digits_value 10 text) = λ small.
    parse_gives own 64 text r parses (numeral_digits text is) (numeral_length text is) (in_range_small low high _ fits small) in
    let none : is_in_range low high (digits_value 10 text) ≡ false = false_from_ne_true _ (λ small. let ok = gives small in cc) in
    sym (ap (λ b. if b && is_in_range low high (digits_value 10 text) then Some (digits_value 10 text) else None) is
    ∙ ap (λ b. if true && b then Some (digits_value 10 text) else None) none)

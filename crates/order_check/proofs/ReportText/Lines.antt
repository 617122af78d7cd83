-- Each class with its line, as far as a loop has come.
use Rattle.order_check.proofs.Below.{ℕ, zero, suc, List, [], length, drop, min, get_or, refl, sym, ap, ◌∙◌, arith, append_assoc, append-nil, Text, Entry, Line, line_text, lines_text}
use Rattle.std.proofs.Common.{◌≡◌, ◌<◌, ◌∷◌, ◌++◌}

module _ (h : List Entry) where
  -- one line comes first, where there is a class and a line
  pub line-first : (es : List Entry) (ls : List Line) (n : ℕ) (e : Entry) (l : Line) → n < length es → n < length ls → e ≡ get_or es n e → l ≡ get_or ls n l → lines_text h (drop n es) (drop n ls) ≡ line_text h e l ++ lines_text h (drop (suc n) es) (drop (suc n) ls)
  unfolding lines_text
  line-first [] ls n e l below there p q = absurd (omega arith)
  line-first (x ∷ es) [] n e l below there p q = absurd (omega arith)
  line-first (x ∷ es) (k ∷ ls) zero e l below there p q = rw (p, q) refl
  line-first (x ∷ es) (k ∷ ls) (suc n) e l below there p q = line-first es ls n e l (omega arith) (omega arith) p q

  -- no class is left, or no line
  pub none-left : (es : List Entry) (ls : List Line) (n : ℕ) → n ≡ min (length es) (length ls) → lines_text h (drop n es) (drop n ls) ≡ []
  unfolding lines_text
  none-left [] ls zero e = refl
  none-left [] ls (suc n) e = absurd (omega arith)
  none-left (x ∷ es) [] zero e = refl
  none-left (x ∷ es) [] (suc n) e = absurd (omega arith)
  none-left (x ∷ es) (l ∷ ls) zero e = absurd (omega arith)
  none-left (x ∷ es) (l ∷ ls) (suc n) e = none-left es ls n (omega arith)

  -- one line more is written
  pub one-more : (es : List Entry) (ls : List Line) (n : ℕ) (e : Entry) (l : Line) (old new all : Text) → n < length es → n < length ls → e ≡ get_or es n e → l ≡ get_or ls n l → new ≡ old ++ line_text h e l → old ++ lines_text h (drop n es) (drop n ls) ≡ all → new ++ lines_text h (drop (suc n) es) (drop (suc n) ls) ≡ all
  one-more es ls n e l old new all below there p q written so_far =
      ap (λ t. t ++ lines_text h (drop (suc n) es) (drop (suc n) ls)) written
      ∙ append_assoc old (line_text h e l) (lines_text h (drop (suc n) es) (drop (suc n) ls))
      ∙ ap (λ t. old ++ t) (sym (line-first es ls n e l below there p q))
      ∙ so_far

  -- all are written
  pub all-there : (es : List Entry) (ls : List Line) (n : ℕ) (old all : Text) → n ≡ min (length es) (length ls) → old ++ lines_text h (drop n es) (drop n ls) ≡ all → old ≡ all
  all-there es ls n old all done so_far = sym (ap (λ t. old ++ t) (none-left es ls n done) ∙ append-nil old) ∙ so_far

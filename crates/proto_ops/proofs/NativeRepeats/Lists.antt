-- Lists that are repeated.
use Rattle.proto_ops.proofs.Below.{ℕ, zero, suc, List, [], length, All, refl, sym, ap, ◌∙◌, subst, arith, append_assoc, All-append, repeat, PyObjectRef, Held, AreNodes, Holds}
use Rattle.std.proofs.Common.{◌≡◌, ◌+◌, ◌<◌, ◌∷◌, ◌++◌}

module _ {A : Type 0} where
  pub repeat-none : (n : ℕ) (xs : List A) → length xs ≡ 0 → repeat n xs ≡ []
  repeat-none zero xs e = refl
  repeat-none (suc n) [] e = repeat-none n [] e
  repeat-none (suc n) (x ∷ xs) e = absurd (omega arith)

  append-nothing : (xs : List A) → xs ≡ xs ++ []
  append-nothing [] = refl
  append-nothing (x ∷ xs) = ap (λ ys. x ∷ ys) (append-nothing xs)

  turned : (n : ℕ) (xs : List A) → repeat n xs ++ xs ≡ xs ++ repeat n xs
  turned zero xs = append-nothing xs
  turned (suc n) xs = append_assoc xs (repeat n xs) xs ∙ ap (λ ys. xs ++ ys) (turned n xs)

  pub repeat-more : (n : ℕ) (xs : List A) → repeat n xs ++ xs ≡ repeat (n + 1) xs
  repeat-more n xs = let next : suc n ≡ n + 1 = omega arith in turned n xs ∙ ap (λ k. repeat k xs) next

  pub repeat-all : (P : A → Type 0) (n : ℕ) (xs : List A) → All P xs → All P (repeat n xs)
  repeat-all P zero xs h = λ i d l. absurd (omega arith)
  repeat-all P (suc n) xs h = All-append P xs (repeat n xs) h (repeat-all P n xs h)

-- repeated objects are there where each is
pub repeat-hold : (w : Held) (n : ℕ) (rs all : List PyObjectRef) → all ≡ repeat n rs → Holds w (AreNodes rs) → Holds w (AreNodes all)
unfolding Holds
repeat-hold w n rs all e h = subst (λ xs. Holds w (AreNodes xs)) (sym e) (repeat-all (λ r. r.0 < length w.nodes) n rs h)

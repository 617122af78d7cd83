-- The orders of bases that were gathered, or the first base that has none.
use Rattle.order_check.proofs.Below.{ℕ, List, map, Option, Some, sym, ap, subst, ◌∙◌, Vec, all_some, Lines, rows, AreLinesFor, first_without}
use Rattle.std.proofs.Common.{◌≡◌}
use Rattle.order_check.specs.declared.known.Lines.TheVariants.{All, Without}

module _ (f : ℕ → Option (List ℕ)) (bs ds : List ℕ) (o : Lines) (same : ds ≡ bs) (read : AreLinesFor f ds o) where
  pub read-all : (lines : Vec (Vec ℕ)) → o ≡ All lines → all_some (map f bs) ≡ Some (rows lines.items)
  read-all lines e = let P : Lines → Type 0 = λ w. AreLinesFor f ds w in ap (λ w. all_some (map f w)) (sym same) ∙ subst P e read

  pub read-without : (b : ℕ) → o ≡ Without b → first_without f bs ≡ Some b
  read-without b e = let P : Lines → Type 0 = λ w. AreLinesFor f ds w in ap (first_without f) (sym same) ∙ subst P e read

-- What the merge of the bases' linearisations answers, of the bases.
use Rattle.class_table.proofs.Below.{ℕ, cond, List, Result, Ok, Err, refl, sym, ap, ◌∙◌, IfOk, IfErr, Vec, PyTypeRef, Distinct, breaks_precedence, order_cause, MroFault, OutOfMemory, heads, with_heads, IsLeastMerge, AreOutOfOrder, IsConflict, AreLinesOf, IsFirstRepeat, IsBrokenPrecedence, IsOrderConflict, IsRest, HasNoOrder, OnRefusal, Tells}
use Rattle.std.proofs.Common.{◌≡◌}
use Rattle.std.specs.Prelude.{◌↔◌}
use Rattle.py_node.specs.declared.raised.Cause.TheVariants as causes
use Rattle.class_table.specs.declared.mro_merge.fault.MroFault.TheVariants.{DuplicateBase, LocalPrecedence, MroConflict}
use Rattle.class_table.specs.MroMerge.Lists.{numbers}
use Rattle.class_table.specs.MroMerge.Faults.{WithMemory}
use Rattle.class_table.proofs.MroMerge.Repeats.{repeat-differs}
use Rattle.class_table.proofs.MroMerge.Precedence.{broken-none}
use Rattle.class_table.proofs.MroMerge.Bases.{heads-bases, merge-rest, conflict-none}

module _ (bs : List ℕ) (ls : List (List ℕ)) (lines : AreLinesOf bs ls) (distinct : Distinct bs) where
  broken-heads : breaks_precedence (heads ls) ls ≡ breaks_precedence bs ls
  broken-heads = ap (λ l. breaks_precedence l ls) (heads-bases bs ls lines)

  pub order-of : (r : Result (Vec PyTypeRef) MroFault) → IfOk r (λ line. IsLeastMerge (with_heads ls) (numbers line.items)) → IfOk r (λ line. IsRest bs ls (numbers line.items))
  order-of (Ok line) m = merge-rest bs ls (numbers line.items) lines distinct m
  order-of (Err fault) m = tt

  pub duplicate-of : (r : Result (Vec PyTypeRef) MroFault) → ((b : PyTypeRef) → r ≡ Err (DuplicateBase b) → ⊥) → (b : PyTypeRef) → (r ≡ Err (DuplicateBase b)) ↔ IsFirstRepeat bs b.0
  duplicate-of r n b = (λ e. absurd (n b e), λ k. absurd (repeat-differs bs b.0 k distinct))

  pub precedence-of : (r : Result (Vec PyTypeRef) MroFault) → (r ≡ Err LocalPrecedence) ↔ AreOutOfOrder ls → (r ≡ Err LocalPrecedence) ↔ IsBrokenPrecedence bs ls
  precedence-of r p = (λ e. record { distinct = distinct; broken = sym broken-heads ∙ p.0 e }, λ k. p.1 (broken-heads ∙ k.broken))

  turned : (A : Type 0) → A ↔ IsConflict ls → A ↔ IsOrderConflict bs ls
  turned A p = (λ e. record { distinct = distinct; conflict = p.0 e }, λ k. p.1 k.conflict)

  pub conflict-of : (r : Result (Vec PyTypeRef) MroFault) → WithMemory r ((r ≡ Err MroConflict) ↔ IsConflict ls) → WithMemory r ((r ≡ Err MroConflict) ↔ IsOrderConflict bs ls)
  conflict-of (Ok line) p = turned _ p
  conflict-of (Err (DuplicateBase b)) p = turned _ p
  conflict-of (Err LocalPrecedence) p = turned _ p
  conflict-of (Err MroConflict) p = turned _ p
  conflict-of (Err OutOfMemory) p = tt

  pub none-of : (r : Result (Vec PyTypeRef) MroFault) → ((b : PyTypeRef) → r ≡ Err (DuplicateBase b) → ⊥) → (r ≡ Err LocalPrecedence) ↔ AreOutOfOrder ls → WithMemory r ((r ≡ Err MroConflict) ↔ IsConflict ls) → OnRefusal r (HasNoOrder bs ls)
  none-of (Ok line) n p q = tt
  none-of (Err (DuplicateBase b)) n p q = absurd (n b refl)
  none-of (Err LocalPrecedence) n p q = broken-none bs ls lines (sym broken-heads ∙ p.0 refl)
  none-of (Err MroConflict) n p q = let k : IsConflict ls = q.0 refl in conflict-none bs ls lines distinct k.none
  none-of (Err OutOfMemory) n p q = tt

  pub cause-of : (r : Result (Vec PyTypeRef) MroFault) → (r ≡ Err LocalPrecedence) ↔ AreOutOfOrder ls → WithMemory r ((r ≡ Err MroConflict) ↔ IsConflict ls) → IfErr r (λ fault. Tells fault (order_cause bs ls))
  cause-of (Ok line) p q = tt
  cause-of (Err (DuplicateBase b)) p q = tt
  cause-of (Err LocalPrecedence) p q = ap (λ b. cond b causes.LocalPrecedence causes.MroConflict) (sym broken-heads ∙ p.0 refl)
  cause-of (Err MroConflict) p q = let k : IsConflict ls = q.0 refl in ap (λ b. cond b causes.LocalPrecedence causes.MroConflict) (sym broken-heads ∙ k.kept)
  cause-of (Err OutOfMemory) p q = tt

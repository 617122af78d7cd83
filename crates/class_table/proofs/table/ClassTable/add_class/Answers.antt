use Rattle.class_table.proofs.Lemmas.{ℕ, List, None, length, sym, subst, arith, length-map, PyStrInterned, PyTypeRef, Classes, AreSound, numbers, classes_of, IsBelow, refused_order, there-of, one-ordered, coherent-then}
use Rattle.std.proofs.Common.{◌≡◌, ◌≤◌}
use Rattle.class_table.proofs.table.ClassTable.add_class.Goals as goal

-- at most one base has an order
one-allowed : (t : Classes PyStrInterned) → AreSound t → (n : ℕ) (bases : List PyTypeRef) → length bases ≤ 1 → IsBelow t n (numbers bases) → refused_order t (numbers bases) ≡ None
one-allowed t ok n bases one below =
    let long = length-map bases (λ (r : PyTypeRef). r.0) in
    one-ordered t (numbers bases) ok.order (omega (arith, long, one)) (there-of t n (numbers bases) below)

pub unreachable-requires : goal.unreachable-requires
unreachable-requires c =
    let bases = c.args.new.bases.items in
    let h = rw c.in-Err-Refused.field-0-is at c.in-Err-Refused.ensures.refused in
    let none = one-allowed (classes_of c.self.inside.classes) c.self.invariant.0.sound c.args.new.number.0 bases c.requires.one (subst (λ u. IsBelow u c.args.new.number.0 (numbers bases)) (sym c.self.view_is) c.requires.below) in
    cc (h, none)

pub unreachable-requires-in-Err-RefusedAt : goal.unreachable-requires-in-Err-RefusedAt
unreachable-requires-in-Err-RefusedAt c =
    let bases = c.args.new.bases.items in
    let h = rw c.in-Err-RefusedAt.field-0-is at c.in-Err-RefusedAt.ensures.refused in
    let none = one-allowed (classes_of c.self.inside.classes) c.self.invariant.0.sound c.args.new.number.0 bases c.requires.one (subst (λ u. IsBelow u c.args.new.number.0 (numbers bases)) (sym c.self.view_is) c.requires.below) in
    cc (h, none)

pub invariant_of-self : goal.invariant_of-self
invariant_of-self c = (coherent-then _ _ c.add.result c.add.ensures.coherent c.add.ensures.err c.self.invariant.0, c.raise.ensures _ _ c.self.invariant.1)

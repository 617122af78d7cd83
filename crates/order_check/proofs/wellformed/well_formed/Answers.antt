use Rattle.order_check.proofs.Lemmas.{List, sym, subst, ◌∙◌, arith, false≢true, Entry, AreThere, roots, formed-of}
use Rattle.std.proofs.Common.{◌≤◌}
use Rattle.order_check.proofs.wellformed.well_formed.Goals as goal

pub returns-then-not-are_there : goal.returns-then-not-are_there
returns-then-not-are_there c = (
  λ t. absurd (false≢true t),
  λ w.
      let P : List Entry → Type 0 = λ h. AreThere h in
      absurd (false≢true (sym c.if-not-are_there.true ∙ c.are_there.ensures.1 (subst P (sym c.as_slice-entries.ensures.value) w.there))),
)

pub are_apart-requires-clause-there : goal.are_apart-requires-clause-there
are_apart-requires-clause-there c = c.are_there.ensures.0 c.if-not-are_there.false

pub returns : goal.returns
returns c =
    let one : roots c.as_slice-entries.result.now ≤ 1 = omega (arith, c.roots.ensures, c.if-roots-gt1.false) in
    formed-of c.args.hierarchy.now.entries.items c.as_slice-entries.result.now c.as_slice-entries.ensures.value (c.are_keyed.ensures.0 c.if-not-are_keyed.false) (c.are_there.ensures.0 c.if-not-are_there.false) one c.are_apart.result c.are_apart.ensures

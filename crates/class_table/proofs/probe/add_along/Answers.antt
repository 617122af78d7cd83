use Rattle.class_table.proofs.Lemmas.{[], length, List, take, get_or, refl, subst, arith, along, numbers, classes_of, is_called, AreAdded, PyTypeRef, rise-none, rise-then, rise-within, added-none, added-class, take-more, take-whole}
use Rattle.std.proofs.Common.{◌*◌, ◌+◌}
use Rattle.class_table.proofs.probe.add_along.Goals as goal

pub loop-place-init : goal.loop-place-init
loop-place-init g c = record {
  added = added-none c.args.values.now (λ n. along (is_called n) (classes_of c.args.classes.now) []) c.requires.count (λ n. refl);
  steps = rise-within 0 0 0 (69 * 0) c.args.steps.now c.args.steps.now (rise-none c.args.steps.now) (omega arith) (omega arith);
}

pub loop-place-preserved : goal.loop-place-preserved
loop-place-preserved g c =
    let i = c.loop-place.place in
    let d : PyTypeRef = record { 0 = 0 } in
    record {
      added = added-class (classes_of c.args.classes.now) c.args.values.now c.loop-place.values c.add_of.new.values (take i c.args.line.now) (take (i + 1) c.args.line.now) (get_or c.args.line.now i d) (take-more c.args.line.now i d (omega arith)) c.loop-place.invariant.added c.add_of.ensures.added;
      steps = rise-within 0 (69 * i + 69) 0 (69 * (i + 1)) c.args.steps.now c.add_of.new.steps (rise-then 0 (69 * i) 0 69 c.args.steps.now c.loop-place.steps c.add_of.new.steps c.loop-place.invariant.steps c.add_of.ensures.steps) (omega arith) (omega arith);
    }

pub returns-clause-added : goal.returns-clause-added
returns-clause-added g c =
    let P : List PyTypeRef → Type 0 = λ xs. AreAdded (λ n. along (is_called n) (classes_of c.args.classes.now) (numbers xs)) c.args.values.now c.loop-place.values in
    subst P (take-whole c.args.line.now c.loop-place.place (omega arith)) c.loop-place.invariant.added

pub returns-clause-steps : goal.returns-clause-steps
returns-clause-steps g c =
    rise-within 0 (69 * c.loop-place.place) 0 (69 * length c.args.line.now) c.args.steps.now c.loop-place.steps c.loop-place.invariant.steps (omega arith) (omega arith)

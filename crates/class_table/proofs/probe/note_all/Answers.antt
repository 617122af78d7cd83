use Rattle.class_table.proofs.Lemmas.{[], length, List, take, refl, subst, arith, PyObjectRef, value_of, is_called, AreAdded, PyStrInterned, rise-none, rise-then, rise-within, rise-probe, added-none, added-attr, take-next, take-whole}
use Rattle.std.proofs.Common.{◌≤◌, ◌+◌}
use Rattle.class_table.proofs.probe.note_all.Goals as goal

pub loop-i-init : goal.loop-i-init
loop-i-init g c = record {
  added = added-none c.args.values.now (λ n. value_of (is_called n) []) c.requires.count (λ n. refl);
  steps = rise-none c.args.steps.now;
}

pub loop-i-preserved : goal.loop-i-preserved
loop-i-preserved g c = record {
  added = added-attr c.args.values.now c.loop-i.values c.note.new.values (take c.loop-i.i c.args.attrs.now) (take (c.loop-i.i + 1) c.args.attrs.now) c.at.result (take-next c.args.attrs.now c.loop-i.i c.at.result c.at.ensures) c.loop-i.invariant.added c.note.ensures;
  steps = rise-then 0 c.loop-i.i 0 1 c.args.steps.now c.loop-i.steps c.probe.new.self c.loop-i.invariant.steps (rise-probe c.loop-i.steps c.probe.new.self c.probe.ensures);
}

pub returns-clause-added : goal.returns-clause-added
returns-clause-added g c =
    let all : length c.args.attrs.now ≤ c.loop-i.i = omega (arith, c.loop-i-test.false, c.len-i-end.ensures.count) in
    let P : List (PyStrInterned × PyObjectRef) → Type 0 = λ xs. AreAdded (λ n. value_of (is_called n) xs) c.args.values.now c.loop-i.values in
    subst P (take-whole c.args.attrs.now c.loop-i.i all) c.loop-i.invariant.added

pub returns-clause-steps : goal.returns-clause-steps
returns-clause-steps g c =
    rise-within 0 c.loop-i.i 0 (length c.args.attrs.now) c.args.steps.now c.loop-i.steps c.loop-i.invariant.steps (omega arith) (omega (arith, c.loop-i.auto.i-end, c.len-i-end.ensures.count))

use Rattle.class_world.proofs.Lemmas.{length, sym, ◌∙◌, add-one, zip_turn, zip_end, length_push, bindings, with_value-holds, filled-step, filled-end, name-at, node-at}
use Rattle.class_world.proofs.args.filled.Goals as goal

pub loop-name-preserved : goal.loop-name-preserved
loop-name-preserved c =
    let xs = c.args.names.now in
    let vs = c.args.values.now in
    let n = length c.loop-name.yielded in
    let x = c.in-Some.name.now in
    let v = c.in-Some.value.now in
    let s = c.into_iter-name-iterator.result in
    let turn = zip_turn xs vs c.loop-name.yielded s c.loop-name.name-iterator c.next.new.self c.next.result (cc) (cc) c.loop-name.yielded_by _ c.in-Some.is c.next.ensures.steps in
    let ok = c.in_ok-insert.ensures.ok in
    let next = length_push c.loop-name.yielded (c.in-Some.name, c.in-Some.value) in
    record {
      vars = λ t. rw (next, add-one, ok) (filled-step t c.loop-name.vars xs vs n x v turn.0 turn.1 (turn.2 x) (turn.3 v) ∙ c.loop-name.invariant.vars t);
      holds = λ w h k. rw ok (with_value-holds w c.loop-name.vars x v (c.loop-name.invariant.holds w h k) (name-at w xs n x h turn.0 (turn.2 x)) (node-at w vs n v k turn.1 (turn.3 v)));
    }

pub returns-clause-vars : goal.returns-clause-vars
returns-clause-vars c = λ t.
    let xs = c.args.names.now in
    let vs = c.args.values.now in
    let n = length c.loop-name.yielded in
    let s = c.into_iter-name-iterator.result in
    let done = zip_end xs vs c.loop-name.yielded s c.loop-name.name-iterator c.next.new.self c.next.result (cc) (cc) c.loop-name.yielded_by c.in-None.is c.next.ensures.steps in
    sym (filled-end t (bindings t c.loop-name.vars) xs vs n done) ∙ c.loop-name.invariant.vars t

use Rattle.py_node.proofs.Lemmas.{sym, ◌∙◌, is_same_key, position_from-zero, passes, fails, none-left}
use Rattle.py_node.proofs.few_keys.place_among.Goals as goal

pub loop-place-preserved : goal.loop-place-preserved
loop-place-preserved c =
    c.loop-place.invariant
    ∙ fails (is_same_key c.args.key) c.args.keys.now c.loop-place.place _ c.loop-place-test.true (c.is_one.ensures ∙ c.if-is_one.false)

pub returns-then-is_one-clause-first : goal.returns-then-is_one-clause-first
returns-then-is_one-clause-first c =
    let test = is_same_key c.args.key in
    let ks = c.args.keys.now in
    sym (passes test ks c.loop-place.place _ c.loop-place-test.true (c.is_one.ensures ∙ c.if-is_one.true))
    ∙ sym c.loop-place.invariant
    ∙ sym (position_from-zero test ks)

pub returns-clause-first : goal.returns-clause-first
returns-clause-first c =
    let test = is_same_key c.args.key in
    let ks = c.args.keys.now in
    sym (none-left test ks c.loop-place.place c.loop-place-test.false)
    ∙ sym c.loop-place.invariant
    ∙ sym (position_from-zero test ks)

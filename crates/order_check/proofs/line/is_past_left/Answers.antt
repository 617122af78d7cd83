use Rattle.order_check.proofs.Lemmas.{sym, ap, ◌∙◌, not, take_rest, has, first-past-gone, first-past-kept}
use Rattle.std.proofs.Common.{◌+◌}
use Rattle.order_check.proofs.line.is_past_left.Goals as goal

pub returns-then-not-has-2 : goal.returns-then-not-has-2
returns-then-not-has-2 c =
    c.has-then-not-has-2.ensures
    ∙ ap (λ w. has w c.args.key) (take_rest c.args.list.now (c.loop-place.place + 1))
    ∙ sym (first-past-kept c.args.list.now c.args.seen.now c.loop-place.place c.args.key c.loop-place-test.true (sym c.has.ensures ∙ c.if-not-has.true) c.loop-place.invariant (sym c.has-then-not-has.ensures ∙ c.if-not-has-2.true))

pub returns-else-not-has-2 : goal.returns-else-not-has-2
returns-else-not-has-2 c =
    ap not c.if-not-has-2.false
    ∙ sym (first-past-gone c.args.list.now c.args.seen.now c.loop-place.place c.args.key c.loop-place-test.true (sym c.has.ensures ∙ c.if-not-has.true) c.loop-place.invariant (sym c.has-then-not-has.ensures ∙ c.if-not-has-2.false))

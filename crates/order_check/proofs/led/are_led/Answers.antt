use Rattle.order_check.proofs.Lemmas.{◌∙◌, sym, told_in, lists_told, led-none}
use Rattle.order_check.proofs.led.are_led.Goals as goal

pub returns-in-None : goal.returns-in-None
returns-in-None c =
    led-none (lists_told (told_in c.args.told) c.args.bases.now) c.args.line.now c.loop-place.place c.loop-place-test.true (sym c.in-None.is ∙ c.first_free_left.ensures) ∙ c.loop-place.invariant

use Rattle.order_check.proofs.Lemmas.{told_in, lists_told, led_or_not}
use Rattle.order_check.proofs.led.is_merge.Goals as goal

pub returns : goal.returns
returns c = led_or_not (lists_told (told_in c.args.told) c.args.bases.now) c.args.line.now c.are_led.result c.are_led.ensures

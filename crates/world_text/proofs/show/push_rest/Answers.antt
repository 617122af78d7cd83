use Rattle.world_text.proofs.Lemmas.{rest-shown}
use Rattle.world_text.proofs.show.push_rest.Goals as goal

pub returns-in_ok-push : goal.returns-in_ok-push
returns-in_ok-push g c = rw c.in_ok-push.ensures.items (rest-shown c.args.texts.now.items c.in_ok-from_str.field-0 c.args.items.now c.in_ok-from_str.ensures.ok c.if-items-gt-ITEMS.true)

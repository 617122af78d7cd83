use Rattle.order_check.proofs.Lemmas.{sym, keys_of, not-has, is-held}
use Rattle.order_check.proofs.wellformed.is_key.Goals as goal

pub returns-in-None : goal.returns-in-None
returns-in-None c = sym (not-has (keys_of c.args.entries.now) c.args.key c.in-None.ensures)

pub returns-in-Some : goal.returns-in-Some
returns-in-Some c = sym (is-held c.args.entries.now c.args.key c.in-Some.field-0 c.in-Some.ensures.0 c.in-Some.ensures.1)

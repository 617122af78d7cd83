use Rattle.order_check.proofs.Lemmas.{sym, ◌∙◌, there-decided}
use Rattle.order_check.proofs.wellformed.are_there.Goals as goal

pub returns : goal.returns
returns c = let d = there-decided c.args.entries.now c.requires in (λ t. d.0 (sym c.all_there.ensures ∙ t), λ a. c.all_there.ensures ∙ d.1 a)

use Rattle.order_check.proofs.Lemmas.{sym, ◌∙◌, key-found, key-missing, place-next, was_new, was_there}
use Rattle.order_check.proofs.hierarchy_text.classes.new_key.Goals as goal

pub returns-then-not-is_new-clause-shape : goal.returns-then-not-is_new-clause-shape
returns-then-not-is_new-clause-shape c = λ _.
    key-found c.args.names.now.keys c.args.name.now (was_there _ (sym c.if-not-is_new.true ∙ c.in_ok-key.ensures.added))

pub returns-clause-is_new : goal.returns-clause-is_new
returns-clause-is_new c =
    key-missing c.args.names.now.keys c.args.name.now (was_new _ (sym c.if-not-is_new.false ∙ c.in_ok-key.ensures.added))

pub returns-clause-key : goal.returns-clause-key
returns-clause-key c =
    c.in_ok-key.ensures.index ∙ place-next c.args.names.now.keys c.args.name.now (was_new _ (sym c.if-not-is_new.false ∙ c.in_ok-key.ensures.added))

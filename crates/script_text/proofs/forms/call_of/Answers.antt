use Rattle.script_text.proofs.Lemmas.{ap, ◌∙◌, map, tree_of, call, named, call-tree}
use Rattle.script_text.proofs.forms.call_of.Goals as goal

pub returns-clause-ok : goal.returns-clause-ok
returns-clause-ok c =
    call-tree c.in_ok-new.field-0
    ∙ ap (λ v. call (tree_of v.function) (map tree_of v.args.items) (map named v.keywords.items)) c.in_ok-new.ensures.ok

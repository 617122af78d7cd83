use Rattle.script_text.proofs.Lemmas.{ap, ◌∙◌, map, string_bytes, tree_of, class, named, class-tree}
use Rattle.script_text.proofs.forms.class_of.Goals as goal

pub returns-clause-ok : goal.returns-clause-ok
returns-clause-ok c =
    class-tree c.in_ok-new.field-0
    ∙ ap (λ v. class (string_bytes v.name) (map tree_of v.bases.items) (map named v.entries.items) (map named v.keywords.items)) c.in_ok-new.ensures.ok

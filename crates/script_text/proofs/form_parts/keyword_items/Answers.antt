use Rattle.script_text.proofs.Lemmas.{[], arith, keywords_of}
use Rattle.std.proofs.Common.{◌≡◌, ◌∷◌}
use Rattle.script_text.proofs.form_parts.keyword_items.Goals as goal

pub returns-clause-ok : goal.returns-clause-ok
unfolding keywords_of
returns-clause-ok c =
    let parts : c.args.items.now ≡ c.in-Some.list.now ∷ [] = grind arith in
    rw parts c.list_items.ensures.body

pub returns-clause-shape : goal.returns-clause-shape
unfolding keywords_of
returns-clause-shape c =
    let parts : c.args.items.now ≡ c.in-Some.list.now ∷ [] = grind arith in
    rw parts c.list_items.ensures.no_body

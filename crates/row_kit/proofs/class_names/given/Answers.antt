use Rattle.row_kit.proofs.Lemmas.{◌∙◌, plain, known_text, given-some}
use Rattle.row_kit.proofs.class_names.given.Goals as goal

pub returns-else-is_getset-clause-value : goal.returns-else-is_getset-clause-value
returns-else-is_getset-clause-value c = λ t r.
    given-some (plain t c.args.world.now) c.args.class.0 (known_text c.args.name) (t.text c.known.result.0) c.own_attr.result c.in-Some.value (c.known.ensures.spelled t r) (c.own_attr.ensures.found t r) c.in-Some.is (c.is_getset.ensures t ∙ c.if-is_getset.false)

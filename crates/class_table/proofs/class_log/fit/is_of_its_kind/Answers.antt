use Rattle.class_table.proofs.Lemmas.{refl, sym, ◌∙◌, made_of, kind-static, no-slots}
use Rattle.class_table.proofs.class_log.fit.is_of_its_kind.Goals as goal

pub returns-then-is_none : goal.returns-then-is_none
returns-then-is_none c =
    let m = made_of c.args.class c.args.name.now c.args.bases.now c.args.attrs.now c.args.slots.now c.args.flags in
    kind-static c.args.classes.now m c.args.bases.now refl (sym c.has_feature.ensures ∙ c.if-has_feature.false) (no-slots c.args.slots.now c.is_none.result c.is_none.ensures c.if-is_none.true)

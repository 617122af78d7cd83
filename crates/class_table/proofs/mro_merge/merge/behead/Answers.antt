use Rattle.class_table.proofs.Lemmas.{length, sym, ap, ◌∙◌, arith, eqb-true, eqb-false, without-first, without-other, without-empty}
use Rattle.std.proofs.Common.{◌<◌}
use Rattle.class_table.specs.MroMerge.Lists.{numbers}
use Rattle.class_table.proofs.mro_merge.merge.behead.Goals as goal
use Rattle.class_table.proofs.mro_merge.merge.behead.Goals.{else-not-is_empty-via-then-not-is_empty+else-index-class, else-not-is_empty-via-else-not-is_empty}

pub returns-then-index-class : goal.returns-then-index-class
returns-then-index-class c =
    let full = eqb-false _ 0 (sym c.is_empty.ensures ∙ c.if-not-is_empty.true) in
    let long : 0 < length c.args.list.now.items = omega (arith, full, c.args.list.now.ok.0) in
    ap numbers c.remove.ensures.items ∙ without-first c.args.list.now.items c.args.class.0 c.index.result.now long c.index.ensures c.if-index-class.true c.requires

pub returns-else-not-is_empty : goal.returns-else-not-is_empty
returns-else-not-is_empty c = elim c.else-not-is_empty.branch [
  | else-not-is_empty-via-then-not-is_empty+else-index-class w ↦
      let full = eqb-false _ 0 (sym c.is_empty.ensures ∙ w.if-not-is_empty.true) in
      let long : 0 < length c.args.list.now.items = omega (arith, full, c.args.list.now.ok.0) in
      without-other c.args.list.now.items c.args.class.0 w.index.result.now long w.index.ensures w.if-index-class.false c.requires
  | else-not-is_empty-via-else-not-is_empty w ↦
      let empty = eqb-true _ 0 (sym c.is_empty.ensures ∙ w.if-not-is_empty.false) in
      without-empty c.args.list.now.items c.args.class.0 (omega (arith, empty, c.args.list.now.ok.0))
]

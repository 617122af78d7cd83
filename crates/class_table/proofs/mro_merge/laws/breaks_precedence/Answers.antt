use Rattle.class_table.proofs.Lemmas.{drop, sym, ap, ◌∙◌, arith, or_left, breaks_precedence, rows, heads, filled-at, breaks-at}
use Rattle.std.proofs.Common.{◌+◌}
use Rattle.std.specs.Prelude.{◌||◌}
use Rattle.class_table.proofs.mro_merge.laws.breaks_precedence.Goals as goal

pub index-requires : goal.index-requires
index-requires c =
    omega (arith, c.index-lists-i.result.ok.0, filled-at c.args.lists.now c.loop-i.i c.index-lists-i.result c.requires c.loop-i-test.true c.index-lists-i.is)

pub returns-then-stands_past : goal.returns-then-stands_past
returns-then-stands_past c =
    sym (sym c.loop-i.invariant
    ∙ breaks-at c.args.lists.now c.loop-i.i c.index-lists-i.result c.index.result.now c.requires c.loop-i-test.true c.index-lists-i.is c.index.ensures
    ∙ or_left _ _ (sym c.stands_past.ensures ∙ c.if-stands_past.true))

pub loop-i-preserved : goal.loop-i-preserved
loop-i-preserved c =
    let rest = drop (c.loop-i.i + 1) c.args.lists.now in
    sym (breaks-at c.args.lists.now c.loop-i.i c.index-lists-i.result c.index.result.now c.requires c.loop-i-test.true c.index-lists-i.is c.index.ensures
    ∙ ap (λ b. b || breaks_precedence (heads (rows rest)) (rows rest)) (sym c.stands_past.ensures ∙ c.if-stands_past.false))
    ∙ c.loop-i.invariant

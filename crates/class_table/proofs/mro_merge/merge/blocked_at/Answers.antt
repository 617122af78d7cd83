use Rattle.class_table.proofs.Lemmas.{sym, ap, ◌∙◌, arith, has, past_first, past-at}
use Rattle.class_table.specs.MroMerge.Lists.{numbers}
use Rattle.class_table.proofs.mro_merge.merge.blocked_at.Goals as goal

pub returns-then-is_past : goal.returns-then-is_past
returns-then-is_past c =
    let past = ap (λ l. has (past_first (numbers l)) c.args.class.0) (sym c.deref.ensures.value) ∙ sym c.is_past.ensures ∙ c.if-is_past.true in
    sym (past-at c.args.class.0 c.args.lists.now c.args.likely c.index-lists-likely.result (omega arith) c.index-lists-likely.is past)

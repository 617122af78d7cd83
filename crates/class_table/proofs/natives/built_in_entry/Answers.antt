use Rattle.class_table.proofs.Lemmas.{sym, ap, arith, option_and_then, all_built_ins, own_attrs, entry_among, natives_of, built-count, past}
use Rattle.class_table.proofs.natives.built_in_entry.Goals as goal

pub returns-then-class-ge-BUILT_IN_COUNT : goal.returns-then-class-ge-BUILT_IN_COUNT
unfolding natives_of
returns-then-class-ge-BUILT_IN_COUNT c =
    let n = built-count in
    let t = c.if-class-ge-BUILT_IN_COUNT.true in
    sym (ap (option_and_then (λ b. entry_among b c.args.slot (own_attrs b))) (past all_built_ins c.args.class.0 (omega (arith, n, t))))

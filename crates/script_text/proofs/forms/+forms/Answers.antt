use Rattle.script_text.proofs.Lemmas.{[], arith, depth-here, exprs-turn, entries-turn, pairs-turn}
use Rattle.std.proofs.Common.{◌≡◌, ◌∷◌, ◌++◌}
use Rattle.script_text.proofs.forms.+forms.Goals as goal

pub read_exprs-read_expr-requires : goal.read_exprs-read_expr-requires
read_exprs-read_expr-requires t c =
    let here = depth-here c.args.items.now c.loop-item.item-index c.item-item.result (omega arith) c.item-item.is in
    (omega (arith, here), tt)

pub read_exprs-loop-item-preserved : goal.read_exprs-loop-item-preserved
read_exprs-loop-item-preserved t c =
    let l = c.loop-item in
    let e = c.in_ok-read_expr.field-0 in
    let grown : c.push.new.self.items ≡ l.found.items ++ e ∷ [] = grind arith in
    rw grown (exprs-turn c.args.items.now l.item-index c.item-item.result l.found.items e (omega arith) c.item-item.is c.in_ok-read_expr.ensures.ok l.invariant)

pub read_pairs-read_pair-requires : goal.read_pairs-read_pair-requires
read_pairs-read_pair-requires t c =
    let here = depth-here c.args.items.now c.loop-item.item-index c.item-item.result (omega arith) c.item-item.is in
    (omega (arith, here), tt)

pub read_pairs-loop-item-preserved : goal.read_pairs-loop-item-preserved
read_pairs-loop-item-preserved t c =
    let l = c.loop-item in
    let e = c.in_ok-read_pair.field-0 in
    let grown : c.push.new.self.items ≡ l.found.items ++ e ∷ [] = grind arith in
    rw grown (pairs-turn c.args.items.now l.item-index c.item-item.result l.found.items e (omega arith) c.item-item.is c.in_ok-read_pair.ensures.ok l.invariant)

pub read_entries-read_entry-requires : goal.read_entries-read_entry-requires
read_entries-read_entry-requires t c =
    let here = depth-here c.args.items.now c.loop-item.item-index c.item-item.result (omega arith) c.item-item.is in
    (omega (arith, here), tt)

pub read_entries-loop-item-preserved : goal.read_entries-loop-item-preserved
read_entries-loop-item-preserved t c =
    let l = c.loop-item in
    let e = c.in_ok-read_entry.field-0 in
    let grown : c.push.new.self.items ≡ l.found.items ++ e ∷ [] = grind arith in
    rw grown (entries-turn c.args.items.now l.item-index c.item-item.result l.found.items e (omega arith) c.item-item.is c.in_ok-read_entry.ensures.ok l.invariant)

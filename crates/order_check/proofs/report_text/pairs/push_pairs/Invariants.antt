use Rattle.order_check.proofs.Below.{take, map, codes, flat_map, shown, pair_shown}
use Rattle.std.proofs.Common.{◌≡◌, ◌++◌}
use Rattle.order_check.proofs.report_text.pairs.push_pairs.Given as goal

abbrev pub invariant-loop-pair : goal.invariant-loop-pair
invariant-loop-pair l =
    l.out.items ≡ l.initial.out.items ++ flat_map (λ next. codes "; " ++ next) (map (pair_shown (shown l.entries)) (take l.pair-index l.rest))

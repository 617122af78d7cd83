use Rattle.order_check.proofs.Below.{take, map, codes, flat_map, shown}
use Rattle.std.proofs.Common.{◌≡◌, ◌++◌}
use Rattle.order_check.proofs.report_text.name.push_names.Given as goal

abbrev pub invariant-loop-key : goal.invariant-loop-key
invariant-loop-key l =
    l.out.items ≡ l.initial.out.items ++ flat_map (λ next. codes ", " ++ next) (map (shown l.entries) (take l.key-index l.rest))

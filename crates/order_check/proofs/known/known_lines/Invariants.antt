use Rattle.order_check.proofs.Below.{map, drop, option_map, all_some, rows, orders, known_in, first_without}
use Rattle.std.proofs.Common.{◌≡◌, ◌++◌}
use Rattle.order_check.proofs.known.known_lines.Given as goal

abbrev pub invariant-loop-base : goal.invariant-loop-base
invariant-loop-base l = record {
  lines :
      option_map (λ ls. rows l.lines.items ++ ls) (all_some (map (known_in l.entries (orders l.known)) (drop l.base-index l.bases)))
      ≡ all_some (map (known_in l.entries (orders l.known)) l.bases);
  without :
      first_without (known_in l.entries (orders l.known)) (drop l.base-index l.bases)
      ≡ first_without (known_in l.entries (orders l.known)) l.bases;
}

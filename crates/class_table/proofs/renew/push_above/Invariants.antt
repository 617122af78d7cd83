use Rattle.class_table.proofs.Below.{drop, filter, nat_lt, numbers}
use Rattle.std.proofs.Common.{◌≡◌, ◌++◌}
use Rattle.class_table.proofs.renew.push_above.Given as goal

abbrev pub invariant-loop-next : goal.invariant-loop-next
invariant-loop-next l = numbers l.found.items ++ filter (λ n. nat_lt l.class.0 n) (numbers (drop l.next-index l.some)) ≡ numbers l.fn.found.items ++ filter (λ n. nat_lt l.class.0 n) (numbers l.some)

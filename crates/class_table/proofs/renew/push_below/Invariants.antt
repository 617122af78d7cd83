use Rattle.class_table.proofs.Below.{drop, filter, nat_lt, numbers}
use Rattle.std.proofs.Common.{◌≡◌, ◌++◌}
use Rattle.class_table.proofs.renew.push_below.Given as goal

abbrev pub invariant-loop-next : goal.invariant-loop-next
invariant-loop-next l = numbers l.found.items ++ filter (λ n. nat_lt n l.class.0) (numbers (drop l.next-index l.some)) ≡ numbers l.fn.found.items ++ filter (λ n. nat_lt n l.class.0) (numbers l.some)

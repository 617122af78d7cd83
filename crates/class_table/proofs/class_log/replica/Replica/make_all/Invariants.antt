use Rattle.class_table.proofs.Below.{map, take, drop, change_of, shown, AreMade}
use Rattle.std.proofs.Common.{◌≡◌, ◌++◌}
use Rattle.class_table.proofs.class_log.replica.Replica.make_all.Given as goal

abbrev pub invariant-loop-change : goal.invariant-loop-change
invariant-loop-change l =
    (l.self ≡ l.fn.self ++ map change_of (take l.change-index l.rest))
    × AreMade (shown l.self) (map change_of (drop l.change-index l.rest))

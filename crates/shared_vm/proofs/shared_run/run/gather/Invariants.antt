use Rattle.shared_vm.proofs.Below.{map, false, All}
use Rattle.std.proofs.Common.{◌≡◌, ◌∷◌}
use Rattle.shared_vm.proofs.shared_run.run.gather.Given as goal

abbrev pub invariant-loop-worker : goal.invariant-loop-worker
invariant-loop-worker l = record {
  seats : l.seats.items ≡ l.fn.first ∷ map (λ w. w.seat) l.yielded;
  accepted : All (λ w. w.refused ≡ false) l.yielded;
}

-- When a source or a sink in memory is to fail.
use Rattle.outside.specs.Below.{min, Bool, list_any}
use Rattle.std.specs.Prelude.{◌≡◌, ◌==◌, ◌+◌, ◌-◌, ◌^◌}
use Rattle.outside.specs.declared.faults.Plan.{Plan}

-- whether the call that comes next is one that is to fail
abbrev pub is_due : Plan → Bool
is_due plan = list_any (λ call. call == plan.calls) plan.failing.items

-- one more call is counted, and the same calls are to fail; the count stays at its last value
abbrev pub GoesOn : Plan → Plan → Type 0
GoesOn old new = (new.calls ≡ min (old.calls + 1) (2 ^ 64 - 1)) × (new.failing.items ≡ old.failing.items)

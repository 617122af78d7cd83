-- The body that runs.
use Rattle.plain_machine.specs.Below.{List, [], Option, Some, None, PyObjectRef}
use Rattle.std.specs.Prelude.{◌∷◌}
use Rattle.plain_machine.specs.Plain.{Scope}

-- the function whose body runs: that of the last scope
abbrev pub running : List Scope → Option PyObjectRef
running [] = None
running (s ∷ []) = Some s.func
running (s ∷ (u ∷ ss)) = running (u ∷ ss)

-- What the contracts of rows say, of any group of rows.
use Rattle.class_world.specs.Below.{Result, Raised as Fault, Answer, PlainWorld, Said, Ends}
use Rattle.std.specs.Prelude.{◌≡◌}
use Rattle.py_node.specs.Stops.{Ended}
use Rattle.py_node.specs.declared.stop.Stop.{Stop}
use Rattle.class_world.specs.declared.world.World.{World}
use Rattle.class_world.specs.Reading.{Reading, Reads, plain, ended_of}
use Rattle.class_world.specs.Held.{Held}
use Rattle.class_world.specs.Sound.{AllHold, Grows}
use Rattle.class_world.specs.Claims.{of_ended}

-- a native that asks no task ends so, however the numbers are read
abbrev pub EndsAs : (Reading → PlainWorld → Said) → World → World → Result Answer Fault → Type 0
EndsAs said old new r = (t : Reading) → Reads t new → Reads t old × (said t (plain t old) ≡ Ends (plain t new) (ended_of r))

-- what held of numbers holds still, and so does all that its answer says
abbrev pub LeavesEnd : Held → Held → Result Answer Stop → Type 0
LeavesEnd old new result = Grows old new × Ended result (λ r. AllHold new (of_ended r))

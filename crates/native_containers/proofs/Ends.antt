-- How natives end, by what was called before.
use Rattle.native_containers.proofs.Below.{Result, Ok, Err, Answer, World, Reading, Reads, plain, EndsAs, Saying, then-ends, Held, AllHold, of_ended}
use Rattle.std.proofs.Common.{◌≡◌}
use Rattle.py_node.specs.Stops.{Ended}
use Rattle.py_node.specs.declared.stop.Stop.{Stop}
use Rattle.py_node.specs.declared.stop.Stop.TheVariants as stop

-- the world was changed before, and what is said goes on with something else there
pub then-ended : (said other : Saying) (w mid new : World) (r : Result Answer Stop) → ((t : Reading) → said t (plain t w) ≡ other t (plain t mid)) → ((t : Reading) → Reads t mid → Reads t w) → Ended r (EndsAs other mid new) → Ended r (EndsAs said w new)
then-ended said other w mid new (Ok x) says reads h = then-ends said other w mid new (Ok x) says reads h
then-ended said other w mid new (Err (stop.Raised x)) says reads h = then-ends said other w mid new (Err x) says reads h
then-ended said other w mid new (Err stop.OutOfMemory) says reads h = tt

-- an end without a value names nothing
pub stop-safe : (w : Held) (e : Stop) → Ended {T = Answer} (Err e) (λ r. AllHold w (of_ended r))
stop-safe w (stop.Raised x) = tt
stop-safe w stop.OutOfMemory = tt

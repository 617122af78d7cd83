-- How something ends that may raise a fault, or find no memory.
use Rattle.std.specs.Prelude.{Result, Ok, Err}
use Rattle.py_node.specs.declared.memory.OutOfMemory.{OutOfMemory}
use Rattle.py_node.specs.declared.raised.Raised.{Raised}
use Rattle.py_node.specs.declared.stop.Stop.{Stop}
use Rattle.py_node.specs.declared.stop.Stop.TheVariants as stop

-- what ended, apart from want of memory
abbrev pub sorted : {T : Type 0} → Result T Stop → Result (Result T Raised) OutOfMemory
sorted (Ok x) = Ok (Ok x)
sorted (Err (stop.Raised x)) = Ok (Err x)
sorted (Err stop.OutOfMemory) = Err (record {})

-- this holds of what ended, unless memory ran out
abbrev pub Ended : {T : Type 0} → Result T Stop → (Result T Raised → Type 0) → Type 0
Ended (Ok x) holds = holds (Ok x)
Ended (Err (stop.Raised x)) holds = holds (Err x)
Ended (Err stop.OutOfMemory) holds = Unit {0}

-- this holds of the fault that was raised, if any was
abbrev pub IfRaised : {T : Type 0} → Result T Stop → (Raised → Type 0) → Type 0
IfRaised (Ok x) holds = Unit {0}
IfRaised (Err (stop.Raised x)) holds = holds x
IfRaised (Err stop.OutOfMemory) holds = Unit {0}

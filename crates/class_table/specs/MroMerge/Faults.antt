-- How a merge is refused.
use Rattle.class_table.specs.Below.{Result, Ok, Err, Cause}
use Rattle.std.specs.Prelude.{◌≡◌}
use Rattle.py_node.specs.declared.raised.Cause.TheVariants as causes
use Rattle.class_table.specs.declared.mro_merge.fault.MroFault.{MroFault}
use Rattle.class_table.specs.declared.mro_merge.fault.MroFault.TheVariants.{DuplicateBase, LocalPrecedence}
use Rattle.class_table.specs.declared.mro_merge.fault.MroFault.TheVariants.{MroConflict, OutOfMemory}

abbrev pub no_memory : MroFault
no_memory = OutOfMemory

-- said of every answer but want of memory
abbrev pub WithMemory : {T : Type 0} → Result T MroFault → Type 0 → Type 0
WithMemory (Ok x) P = P
WithMemory (Err (DuplicateBase b)) P = P
WithMemory (Err LocalPrecedence) P = P
WithMemory (Err MroConflict) P = P
WithMemory (Err OutOfMemory) P = Unit {0}

-- said where it was refused
abbrev pub OnRefusal : {T : Type 0} → Result T MroFault → Type 0 → Type 0
OnRefusal (Ok x) P = Unit {0}
OnRefusal (Err (DuplicateBase b)) P = P
OnRefusal (Err LocalPrecedence) P = P
OnRefusal (Err MroConflict) P = P
OnRefusal (Err OutOfMemory) P = Unit {0}

-- an order's fault tells the cause
abbrev pub Tells : MroFault → Cause → Type 0
Tells (DuplicateBase b) cause = Unit {0}
Tells LocalPrecedence cause = cause ≡ causes.LocalPrecedence
Tells MroConflict cause = cause ≡ causes.MroConflict
Tells OutOfMemory cause = Unit {0}

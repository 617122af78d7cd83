-- What makes an object in the world of a machine.
use Rattle.vm_eval.specs.Below.{Result, Ok, Err, place_of, BuiltIn, OutOfMemory, PyObjectRef, Datum, with_node, next_node, Held, Reading, Reads, plain}
use Rattle.std.specs.Prelude.{◌≡◌}

-- the plain world has one object more, of a built-in class and with this contents; without memory it is as it was
abbrev pub Makes : Held → Held → BuiltIn → Datum → Result PyObjectRef OutOfMemory → Type 0
Makes old new home datum (Ok r) =
    ((t : Reading) → Reads t new → plain t new ≡ with_node (plain t old) (place_of home) datum)
    × ((t : Reading) → r ≡ next_node (plain t old) (place_of home))
Makes old new home datum (Err e) = (t : Reading) → plain t new ≡ plain t old

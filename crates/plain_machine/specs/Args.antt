-- Arguments, as rows take them apart.
use Rattle.plain_machine.specs.Below.{List, [], Option, Some, None, PyObjectRef, with_value, Text}
use Rattle.std.specs.Prelude.{◌∷◌}
use Rattle.plain_machine.specs.Plain.{Bindings}
use Rattle.plain_machine.specs.World.{is_text}

-- the two, where there are just two
abbrev pub two_of : List PyObjectRef → Option (PyObjectRef × PyObjectRef)
two_of [] = None
two_of (a ∷ []) = None
two_of (a ∷ (b ∷ [])) = Some (a, b)
two_of (a ∷ (b ∷ (c ∷ more))) = None

-- names get values in order, as far as there are both. A name that stands twice keeps its place and takes the later value
abbrev pub filled : Bindings → List Text → List PyObjectRef → Bindings
filled vars [] vs = vars
filled vars (x ∷ xs) [] = vars
filled vars (x ∷ xs) (v ∷ vs) = filled (with_value is_text vars x v) xs vs

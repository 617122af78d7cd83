-- The parts of objects as the code has them.
use Rattle.proto_attr.specs.Below.{List, [], Reading, spelled, Claim, IsClass, IsName, of_node_ref, of_option}
use Rattle.std.specs.Prelude.{◌∷◌}
use Rattle.proto_attr.specs.declared.native_objects.details.Part.{Part as Stored}
use Rattle.proto_attr.specs.declared.native_objects.details.Part.TheVariants as part
use Rattle.proto_attr.specs.NativeObjects.Details.{Part, NamePart, DottedPart, WholePart, ClassPart, ObjectPart, SignaturePart, LaterPart}

-- how a part is read
abbrev pub read_part : Reading → Stored → Part
read_part t (part.Name x) = NamePart (spelled t x)
read_part t (part.Dotted c x) = DottedPart c.0 (spelled t x)
read_part t (part.Whole c x) = WholePart c.0 (spelled t x)
read_part t (part.Class c) = ClassPart c.0
read_part t (part.Object o) = ObjectPart o
read_part t (part.Signature x doc) = SignaturePart (spelled t x) (spelled t doc)
read_part t part.Later = LaterPart

-- what it says of numbers
abbrev pub of_part : Stored → List Claim
of_part (part.Name x) = IsName x ∷ []
of_part (part.Dotted c x) = IsClass c.0 ∷ IsName x ∷ []
of_part (part.Whole c x) = IsClass c.0 ∷ IsName x ∷ []
of_part (part.Class c) = IsClass c.0 ∷ []
of_part (part.Object o) = of_option of_node_ref o
of_part (part.Signature x doc) = IsName x ∷ IsName doc ∷ []
of_part part.Later = []

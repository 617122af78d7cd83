-- Which getters are of classes.
use Rattle.proto_attr.proofs.Below.{List, refl, Property, PyObjectRef, Bindings, PlainWorld, class_read, getter_say, with_lone_class}
use Rattle.std.proofs.Common.{◌≡◌}
use Rattle.py_node.specs.declared.entry.Property.TheVariants as property

pub of-classes : (u : PlainWorld) (p : Property) (args : List PyObjectRef) (kw : Bindings) → (p ≡ property.Class → ⊥) → (p ≡ property.InstanceDict → ⊥) → getter_say u p args kw ≡ with_lone_class u args kw (class_read u p)
of-classes u property.Class args kw f g = absurd (f refl)
of-classes u property.Name args kw f g = refl
of-classes u property.Qualname args kw f g = refl
of-classes u property.Module args kw f g = refl
of-classes u property.Bases args kw f g = refl
of-classes u property.Dict args kw f g = refl
of-classes u property.Annotations args kw f g = refl
of-classes u property.Base args kw f g = refl
of-classes u property.Mro args kw f g = refl
of-classes u property.Flags args kw f g = refl
of-classes u property.TextSignature args kw f g = refl
of-classes u property.InstanceDict args kw f g = absurd (g refl)

-- What makes the objects of built-in classes and asks no task.
use Rattle.proto_attr.specs.Below.{List, [], None, PyObjectRef, BuiltIn, CannotCreate, ADict, AList, AProperty, ASuper, PlainWorld, Said, Ends, the_object, fault, elsewhere, object_made, with_heir}
use Rattle.py_node.specs.declared.built_in.BuiltIn.TheVariants as built_in

-- new objects are empty, and a new `super` is one of `object` that is bound to nothing. Those that ask for what they are made of are made elsewhere; other classes make none
abbrev pub maker_say : PlainWorld → BuiltIn → List PyObjectRef → Said
maker_say w built_in.List args = with_heir w built_in.List args (λ c. object_made w c (AList []))
maker_say w built_in.Dict args = with_heir w built_in.Dict args (λ c. object_made w c (ADict []))
maker_say w built_in.Property args =
    with_heir w built_in.Property args (λ c. object_made w c (AProperty (record { fget = None; fset = None; fdel = None; doc = None; name = None })))
maker_say w built_in.Super args = with_heir w built_in.Super args (λ c. object_made w c (ASuper the_object None))
maker_say w built_in.Int args = Ends w elsewhere
maker_say w built_in.Bool args = Ends w elsewhere
maker_say w built_in.Str args = Ends w elsewhere
maker_say w built_in.Tuple args = Ends w elsewhere
maker_say w built_in.ClassMethod args = Ends w elsewhere
maker_say w built_in.StaticMethod args = Ends w elsewhere
maker_say w b args = with_heir w b args (λ c. Ends w (fault CannotCreate))

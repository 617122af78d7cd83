-- What is set of the objects of the other built-in classes through setters, which ask no task.
use Rattle.proto_attr.specs.Below.{List, Option, Some, None, PyObjectRef, PyProperty, BuiltIn, Detail, AProperty, PlainWorld, Bindings, Said, Ends, with_datum, value, none, elsewhere, with_own}
use Rattle.py_node.specs.declared.built_in.BuiltIn.TheVariants as built_in
use Rattle.py_node.specs.declared.entry.Detail.TheVariants as detail
use Rattle.proto_attr.specs.NativeObjects.Setters.{with_given}
use Rattle.proto_attr.specs.NativeObjects.Takes.{property_in, with_one_or_two}

-- a property gets another text for readers, which may be any object
abbrev pub with_doc : PlainWorld → PyObjectRef → PyProperty → PyObjectRef → Said
with_doc w o p d = Ends (with_datum w o (AProperty (record p { doc = Some d }))) (value none)

-- what is set of a property
abbrev pub set_of_property : PlainWorld → Detail → List PyObjectRef → Bindings → Said
set_of_property w detail.Doc args kw =
    with_own property_in w args (λ o p. with_one_or_two w args kw (λ a v. with_given w v (with_doc w o p)))
set_of_property w d args kw = Ends w elsewhere

abbrev pub setter_of_say : PlainWorld → BuiltIn → Detail → List PyObjectRef → Bindings → Said
setter_of_say w built_in.Property d args kw = set_of_property w d args kw
setter_of_say w b d args kw = Ends w elsewhere

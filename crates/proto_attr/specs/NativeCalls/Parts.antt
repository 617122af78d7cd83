-- What the natives say that read or set a part of a class method, a static method or a property by asking another object.
use Rattle.proto_attr.specs.Below.{Bool, true, false, List, [], Option, Some, None, Err, PyObjectRef, ArgCount, CannotDelete, BuiltIn, Detail, Known, known_text, Datum, AClassMethod, AStaticMethod, AProperty, PlainWorld, Bindings, DoGetAttr, DoSetAttr, ToAttribute, Ended, Said, Ends, Row, end, pass, value, none, truth, fault, with_one, without_keywords, with_own}
use Rattle.std.specs.Prelude.{◌∷◌}
use Rattle.py_node.specs.declared.built_in.BuiltIn.TheVariants as built_in
use Rattle.py_node.specs.declared.entry.Detail.TheVariants as detail
use Rattle.py_node.specs.declared.known.Known.TheVariants as known
use Rattle.proto_attr.specs.declared.native_calls.way.Wrapper.{Wrapper}
use Rattle.proto_attr.specs.declared.native_calls.way.Wrapper.TheVariants.{Class, Static}

-- the callable that a class method or a static method wraps
abbrev pub wrapped_in : Wrapper → Option Datum → Option PyObjectRef
wrapped_in Class (Some (AClassMethod f)) = Some f
wrapped_in Static (Some (AStaticMethod f)) = Some f
wrapped_in b d = None

-- the name under which the callable is asked for a part
abbrev pub asked_name : Detail → Known
asked_name detail.Module = known.Module
asked_name detail.Qualname = known.Qualname
asked_name detail.Name = known.Name
asked_name detail.Annotations = known.Annotations
asked_name d = known.Isabstractmethod

abbrev pub part_of_wrapped : PlainWorld → Wrapper → Detail → List PyObjectRef → Bindings → Said
part_of_wrapped w b d args kw =
    with_own (wrapped_in b) w args (λ o f. with_one w args kw (λ a. pass w (ToAttribute (DoGetAttr f (known_text (asked_name d))))))

-- what can't tell whether it is abstract is not
abbrev pub or_not_abstract : PlainWorld → Ended → Row
or_not_abstract w (Err x) = end w (value (truth false))
or_not_abstract w r = end w r

-- the object, and one argument or none
abbrev pub with_get : PlainWorld → List PyObjectRef → Bindings → (PyObjectRef → Option PyObjectRef → Said) → Said
with_get w (o ∷ []) kw go = without_keywords w kw (go o None)
with_get w (o ∷ c ∷ []) kw go = without_keywords w kw (go o (Some c))
with_get w _ kw go = Ends w (fault ArgCount)

-- what is marked as abstract in the place of an object: the callable that is wrapped, or the getter of a property, if there is one
abbrev pub marked_in : BuiltIn → Option Datum → Option (Option PyObjectRef)
marked_in built_in.ClassMethod (Some (AClassMethod f)) = Some (Some f)
marked_in built_in.StaticMethod (Some (AStaticMethod f)) = Some (Some f)
marked_in built_in.Property (Some (AProperty p)) = Some p.fget
marked_in b d = None

abbrev pub mark : PlainWorld → Option PyObjectRef → PyObjectRef → Said
mark w None v = Ends w (value none)
mark w (Some f) v = pass w (ToAttribute (DoSetAttr f (known_text known.Isabstractmethod) (Some v)))

-- the mark can't be taken out
abbrev pub mark_with : PlainWorld → Option PyObjectRef → Option PyObjectRef → Said
mark_with w f None = Ends w (fault CannotDelete)
mark_with w f (Some v) = mark w f v

abbrev pub mark_by_name : PlainWorld → BuiltIn → List PyObjectRef → Bindings → Said
mark_by_name w b args kw = with_own (marked_in b) w args (λ o f. with_get w args kw (λ a v. mark_with w f v))

-- What the rows of class tests say.
use Rattle.proto_object.specs.Below.{ℕ, zero, suc, Bool, true, false, cond, eqb, not, is_some, List, [], Option, Some, None, Ok, Err, PyObjectRef, BasesShape, ClassArg, Known, known_text, is_sub, the_type, class_number, is_instance, special_at, Datum, ATuple, PlainWorld, DoGetAttr, DoSpecial, DoIsTrue, DoIsInstance, DoInst, DoIsSubclass, DoSub, DoAbsSub, PlainTask, ToAttribute, ToProtocol, ToObject, AsValue, Ended, ReadObjects, Chose, Said, Asks, Ends, Row, start, fork, ask, pass, end, none, fault, is_attribute_error, on_value, choose, read_objects, datum_at, items_at, says, any_of, is_exactly}
use Rattle.std.specs.Prelude.{◌&&◌, if◌then◌else◌, ◌∷◌}
use Rattle.py_node.specs.declared.known.Known.TheVariants as known

abbrev pub attribute : PyObjectRef → Known → PlainTask
attribute o x = ToAttribute (DoGetAttr o (known_text x))

abbrev pub is_tuple : Option Datum → Bool
is_tuple (Some (ATuple rs)) = true
is_tuple _ = false

-- a test of a class has four ways: it holds at once, or the class is asked in the plain way, or each object of a tuple, or what the class's class says is called
abbrev pub way_of : PlainWorld → Bool → Known → PyObjectRef → ℕ
way_of w at_once x c =
    if at_once then 0
    else (if is_exactly w c the_type then 1
    else (if is_tuple (datum_at w c) then 2
    else (if is_some (special_at w c (known_text x)) then 3
    else 1)))

abbrev pub by_way : PlainWorld → Known → PyObjectRef → PyObjectRef → PlainTask → (PyObjectRef → PlainTask) → ℕ → Row
by_way w x o c plain each zero = end w (says true)
by_way w x o c plain each (suc zero) = start (pass w plain) (end w)
by_way w x o c plain each (suc (suc zero)) = read_objects (items_at w c) (any_of w each says)
by_way w x o c plain each (suc (suc (suc n))) =
    ask w (ToAttribute (DoSpecial c (known_text x) (o ∷ []) [])) (λ r. on_value w r (λ v. start (pass w (ToProtocol (DoIsTrue v))) (end w)))

abbrev pub is_instance_say : PlainWorld → PyObjectRef → PyObjectRef → Row
is_instance_say w o c =
    choose (way_of w (is_exactly w o c.0) known.Instancecheck c)
    (by_way w known.Instancecheck o c (ToObject (DoInst o c)) (λ k. ToObject (DoIsInstance o k)))

abbrev pub is_subclass_say : PlainWorld → PyObjectRef → PyObjectRef → Row
is_subclass_say w d c =
    choose (way_of w (is_exactly w c the_type && eqb d.0 c.0) known.Subclasscheck c)
    (by_way w known.Subclasscheck d c (ToObject (DoSub d c)) (λ k. ToObject (DoIsSubclass d k)))

-- what stands for a class must have bases
abbrev pub without_bases : Ended → Ended
without_bases (Err x) = cond (is_attribute_error x.kind) (fault ClassArg) (Err x)
without_bases (Ok a) = Ok a

abbrev pub on_bases : PlainWorld → Ended → (PyObjectRef → Row) → Row
on_bases w (Ok (AsValue b)) go = go b
on_bases w other go = end w (without_bases other)

-- an instance of a class: its class derives from that, or else what it gives as its class does. Of what is no class, what it gives as its class must be a derived one by their bases
abbrev pub in_class : PlainWorld → PyObjectRef → ℕ → Said
in_class w o c = cond (is_instance w o c) (Ends w (says true)) (Asks w (Chose 0 ∷ []) (attribute o known.Class))

abbrev pub inst_by : PlainWorld → Option ℕ → PyObjectRef → PyObjectRef → Said
inst_by w (Some n) o c = in_class w o n
inst_by w None o c = Asks w (Chose 1 ∷ []) (attribute c known.Bases)

-- whether this is another class than the object's, and derives from the class
abbrev pub other_class : PlainWorld → PyObjectRef → Option ℕ → Option ℕ → Bool
other_class w o (Some k) (Some c) = not (is_exactly w o k) && is_sub w.classes k c
other_class w o _ _ = false

abbrev pub abstract_by : PlainWorld → PyObjectRef → PyObjectRef → Said
abstract_by w k c = cond (eqb k.0 none.0) (Ends w (says false)) (pass w (ToObject (DoAbsSub k c)))

abbrev pub inst_rest : PlainWorld → PyObjectRef → PyObjectRef → ℕ → Ended → Row
inst_rest w o c zero r =
    on_value w r (λ k. end w (says (other_class w o (class_number (datum_at w k)) (class_number (datum_at w c)))))
inst_rest w o c (suc n) r =
    on_bases w r (λ b. ask w (attribute o known.Class) (λ s. on_value w s (λ k. start (abstract_by w k c) (end w))))

abbrev pub inst_say : PlainWorld → PyObjectRef → PyObjectRef → Row
inst_say w o c = fork (inst_by w (class_number (datum_at w c)) o c) (inst_rest w o c)

-- a class derives from another. Of others, each must have bases
abbrev pub sub_by : PlainWorld → Option ℕ → Option ℕ → PyObjectRef → Said
sub_by w (Some k) (Some n) d = Ends w (says (is_sub w.classes k n))
sub_by w _ _ d = pass w (attribute d known.Bases)

abbrev pub second_rest : PlainWorld → PyObjectRef → PyObjectRef → Ended → Row
second_rest w d c s = on_bases w s (λ e. start (pass w (ToObject (DoAbsSub d c))) (end w))

abbrev pub sub_say : PlainWorld → PyObjectRef → PyObjectRef → Row
sub_say w d c =
    start (sub_by w (class_number (datum_at w d)) (class_number (datum_at w c)) d) (λ r. on_bases w r (λ b. ask w (attribute c known.Bases) (second_rest w d c)))

-- the bases must be a tuple, which is read once
abbrev pub tuple_once : PlainWorld → Option Datum → (List PyObjectRef → Row) → Row
tuple_once w d go (ReadObjects rs ∷ more) = go rs more
tuple_once w (Some (ATuple rs)) go told = read_objects rs go told
tuple_once w d go told = Ends w (fault BasesShape)

-- by their bases: the same object, or one of the bases is derived
abbrev pub abs_sub_by : PlainWorld → PyObjectRef → PyObjectRef → Said
abs_sub_by w d c = cond (eqb d.0 c.0) (Ends w (says true)) (pass w (attribute d known.Bases))

abbrev pub abs_sub_say : PlainWorld → PyObjectRef → PyObjectRef → Row
abs_sub_say w d c =
    start (abs_sub_by w d c) (λ r. on_value w r (λ b. tuple_once w (datum_at w b) (any_of w (λ k. ToObject (DoAbsSub k c)) says)))

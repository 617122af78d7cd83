-- What a plain world keeps to, before and after each of its changes.
use Rattle.plain_machine.specs.Below.{All, IsDistinct, keys_of, ℕ, ℤ, Bool, true, false, nat_lt, is_some, is_none, List, [], map, length, Option, Some, None, slice_get, option_map, option_and_then, PyObjectRef, MemberGetter, MemberSetter, BuiltIn, all_built_ins, value_of, Text, Classes, is_class, is_place, place_count, AreSound}
use Rattle.std.specs.Prelude.{◌≡◌, ◌<◌, ◌&&◌, ◌∷◌, ◌++◌}
use Rattle.py_node.specs.declared.payload.MemberGetter.TheVariants as getter
use Rattle.py_node.specs.declared.payload.MemberSetter.TheVariants as setter
use Rattle.py_node.specs.declared.built_in.BuiltIn.TheVariants as built_in
use Rattle.plain_machine.specs.Plain.{Datum, AnObject, AClass, ANumber, AText, ATuple, AList, ADict, AFunction, AMethod, ANativeFunction, ABuiltinMethod, AMethodDescriptor, AGetSet, AClassMethod, AStaticMethod, AMember, AProperty, ASuper, AnIterator, ASlice, Node, Bindings, Scope, PlainWorld}
use Rattle.plain_machine.specs.World.{is_text, ref, datum_at, has_dict}
use Rattle.plain_machine.specs.Objects.{nearest_built_in, class_number}

-- the built-in class whose objects hold such
abbrev pub home : Datum → BuiltIn
home AnObject = built_in.Object
home (AClass c) = built_in.TypeType
home (ANumber z) = built_in.Int
home (AText x) = built_in.Str
home (ATuple rs) = built_in.Tuple
home (AList rs) = built_in.List
home (ADict es) = built_in.Dict
home (AFunction x ps rest e c) = built_in.Function
home (AMethod r f) = built_in.Method
home (ANativeFunction x n r doc) = built_in.BuiltinFunctionOrMethod
home (ABuiltinMethod x n r c doc) = built_in.BuiltinMethod
home (AMethodDescriptor c x n flags doc) = built_in.MethodDescriptor
home (AGetSet c x get set) = built_in.GetSetDescriptor
home (AClassMethod r) = built_in.ClassMethod
home (AStaticMethod r) = built_in.StaticMethod
home (AMember c x kind get set qualname doc) = built_in.MemberDescriptor
home (AProperty p) = built_in.Property
home (ASuper c o) = built_in.Super
home (AnIterator i) = built_in.Iterator
home (ASlice s) = built_in.Slice

-- None and NotImplemented hold as little as the objects of `object`, and those of bool a number, as those of int
abbrev pub holds_as : BuiltIn → BuiltIn
holds_as built_in.NoneType = built_in.Object
holds_as built_in.NotImplementedType = built_in.Object
holds_as built_in.Bool = built_in.Int
holds_as b = b

-- whose like the objects of a class hold: that of the first built-in class along its linearisation, which is the last of its layout
abbrev pub held_by : {K : Type 0} → Classes K → ℕ → Option BuiltIn
held_by t c = option_map holds_as (option_and_then (slice_get all_built_ins) (nearest_built_in t c))

-- the nodes and the classes that an object names
abbrev pub optional : Option PyObjectRef → List PyObjectRef
optional None = []
optional (Some r) = r ∷ []

-- those of some that are there
abbrev pub all_optional : List (Option PyObjectRef) → List PyObjectRef
all_optional [] = []
all_optional (o ∷ os) = optional o ++ all_optional os

-- the object that `super` is bound to, and the class where it starts
abbrev pub super_object : Option (PyObjectRef × ℕ) → Option PyObjectRef
super_object o = option_map (λ b. b.0) o

abbrev pub super_start : Option (PyObjectRef × ℕ) → Option ℕ
super_start o = option_map (λ b. b.1) o

abbrev pub nodes_in : Datum → List PyObjectRef
nodes_in AnObject = []
nodes_in (AClass c) = []
nodes_in (ANumber z) = []
nodes_in (AText x) = []
nodes_in (ATuple rs) = rs
nodes_in (AList rs) = rs
nodes_in (ADict es) = map (λ e. e.0) es ++ map (λ e. e.1) es
nodes_in (AFunction x ps rest e c) = []
nodes_in (AMethod r f) = r ∷ f ∷ []
nodes_in (ANativeFunction x n r doc) = optional r
nodes_in (ABuiltinMethod x n r c doc) = r ∷ []
nodes_in (AMethodDescriptor c x n flags doc) = []
nodes_in (AGetSet c x get set) = []
nodes_in (AClassMethod r) = r ∷ []
nodes_in (AStaticMethod r) = r ∷ []
nodes_in (AMember c x kind get set qualname doc) = []
nodes_in (AProperty p) = all_optional (p.fget ∷ p.fset ∷ p.fdel ∷ p.doc ∷ p.name ∷ [])
nodes_in (ASuper c o) = optional (super_object o)
nodes_in (AnIterator i) = i.object ∷ []
nodes_in (ASlice s) = all_optional (s.start ∷ s.stop ∷ s.step ∷ [])

abbrev pub optional_class : Option ℕ → List ℕ
optional_class None = []
optional_class (Some c) = c ∷ []

abbrev pub classes_in : Datum → List ℕ
classes_in AnObject = []
classes_in (AClass c) = c ∷ []
classes_in (ANumber z) = []
classes_in (AText x) = []
classes_in (ATuple rs) = []
classes_in (AList rs) = []
classes_in (ADict es) = []
classes_in (AFunction x ps rest e c) = optional_class c
classes_in (AMethod r f) = []
classes_in (ANativeFunction x n r doc) = []
classes_in (ABuiltinMethod x n r c doc) = c ∷ []
classes_in (AMethodDescriptor c x n flags doc) = c ∷ []
classes_in (AGetSet c x get set) = c ∷ []
classes_in (AClassMethod r) = []
classes_in (AStaticMethod r) = []
classes_in (AMember c x kind get set qualname doc) = c ∷ []
classes_in (AProperty p) = []
classes_in (ASuper c o) = c ∷ optional_class (super_start o)
classes_in (AnIterator i) = []
classes_in (ASlice s) = []

-- whether less than so many come before an offset
abbrev pub is_below : Option ℕ → ℕ → Bool
is_below None n = false
is_below (Some count) n = nat_lt n count

-- whether an offset, if there is one, is that of a place of a class's objects
abbrev pub is_offset : {K : Type 0} → Classes K → ℕ → Option ℕ → Bool
is_offset t c None = true
is_offset t c (Some n) = is_below (place_count t c) n

-- the offsets at which a member is read and set, unless natives do it
abbrev pub read_offset : MemberGetter → Option ℕ
read_offset (getter.Getter native) = None
read_offset (getter.Offset n) = Some n

abbrev pub set_offset : MemberSetter → Option ℕ
set_offset (setter.Setter native) = None
set_offset (setter.Offset n) = Some n

-- the offsets that an object names, each with the class of the objects that have the place
abbrev pub offsets_in : Datum → List (ℕ × Option ℕ)
offsets_in (AMember c x kind get set qualname doc) = (c, read_offset get) ∷ (c, set_offset set) ∷ []
offsets_in _ = []

-- a key of a dict: a number or a text
pub data Key : Type 0 where
  NumberKey : ℤ → Key
  TextKey : Text → Key

abbrev pub key_of : Datum → Option Key
key_of (ANumber z) = Some (NumberKey z)
key_of (AText x) = Some (TextKey x)
key_of _ = None

abbrev pub key_at : PlainWorld → PyObjectRef → Option Key
key_at w r = option_and_then key_of (datum_at w r)

abbrev pub keys_in : Datum → List PyObjectRef
keys_in (ADict es) = map (λ e. e.0) es
keys_in _ = []

-- all are numbers or texts, and no two are alike
pub record AreKeys (at : PyObjectRef → Option Key) (rs : List PyObjectRef) : Type 0 where
  pub known : (i : ℕ) (r : PyObjectRef) → slice_get rs i ≡ Some r → is_some (at r) ≡ true
  pub apart : (i j : ℕ) (r s : PyObjectRef) → slice_get rs i ≡ Some r → slice_get rs j ≡ Some s → at r ≡ at s → i ≡ j

abbrev pub AreThere : PlainWorld → List PyObjectRef → Type 0
AreThere w rs = All (λ r. r.0 < length w.nodes) rs

abbrev pub AreOffsets : PlainWorld → List (ℕ × Option ℕ) → Type 0
AreOffsets w ps = All (λ p. is_offset w.classes p.0 p.1 ≡ true) ps

abbrev pub AreBound : PlainWorld → Bindings → Type 0
AreBound w bs = All (λ b. b.1.0 < length w.nodes) bs

-- whether a node has a dict: one that is no class has one exactly where its class gives it one
abbrev pub gets_dict : PlainWorld → Node → Bool
gets_dict w n = is_none (class_number (Some n.datum)) && has_dict w n.class

-- its class is there, and it holds what the objects of such a class hold. It has a dict where it gets one, and its dict is one, its members are nodes that stand in places of its class's layout, what it names is there, its offsets are those of places, and the keys of a dict differ
pub record IsSoundNode (w : PlainWorld) (n : Node) : Type 0 where
  pub class : is_class w.classes n.class ≡ true
  pub like : held_by w.classes n.class ≡ Some (home n.datum)
  pub given : is_some n.dict ≡ gets_dict w n
  pub dict : (r : PyObjectRef) → n.dict ≡ Some r → option_map home (datum_at w r) ≡ Some built_in.Dict
  pub members : (c i : ℕ) (r : PyObjectRef) → n.members c i ≡ Some r → (is_place w.classes n.class c i ≡ true) × (r.0 < length w.nodes)
  pub nodes : AreThere w (nodes_in n.datum)
  pub keys : AreKeys (key_at w) (keys_in n.datum)
  pub classes : All (λ c. is_class w.classes c ≡ true) (classes_in n.datum)
  pub offsets : AreOffsets w (offsets_in n.datum)

-- no name stands twice
abbrev pub AreApart : {V : Type 0} → List (Text × V) → Type 0
AreApart bs = IsDistinct is_text (keys_of bs)

-- the parameters of a function
abbrev pub params_in : Option Datum → List Text
params_in (Some (AFunction x ps rest e c)) = ps
params_in _ = []

-- a running body is that of a function, and has a value for each of its parameters. No variable stands twice
pub record IsSoundScope (w : PlainWorld) (s : Scope) : Type 0 where
  pub func : option_map home (datum_at w s.func) ≡ Some built_in.Function
  pub params : All (λ x. is_some (value_of (λ y. is_text y x) s.vars) ≡ true) (params_in (datum_at w s.func))
  pub vars : AreBound w s.vars
  pub apart : AreApart s.vars

-- the classes and the nodes are sound, and so is all that the world names
pub record IsSound (w : PlainWorld) : Type 0 where
  pub classes : AreSound w.classes
  pub nodes : (i : ℕ) (n : Node) → slice_get w.nodes i ≡ Some n → IsSoundNode w n
  -- the node of a class's number is that class, and no other node is
  pub standing : (c : ℕ) → is_class w.classes c ≡ true → datum_at w (ref c) ≡ Some (AClass c)
  pub itself : (n c : ℕ) → datum_at w (ref n) ≡ Some (AClass c) → n ≡ c
  pub attrs : All (λ k. AreBound w k.attrs × AreApart k.attrs) w.classes
  pub vars : AreBound w w.vars
  pub apart : AreApart w.vars
  pub scopes : All (IsSoundScope w) w.scopes

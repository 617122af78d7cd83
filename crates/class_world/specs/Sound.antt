-- What is said of numbers, and that all that a world says of them is so.
use Rattle.class_world.specs.Below.{bit_and, ℕ, Bool, true, false, List, [], Option, Some, None, is_some, is_none, length, map, slice_get, option_map, option_and_then, string_bytes, All, AllByRecursion, ExprRef, PyObjectRef, PyStrInterned, PyTypeRef, PyDictKey, Function, MemberDescriptor, PyProperty, Node, Payload, Form, value_of, is_same_name, AreNamesDistinct, known_texts, BuiltIn, place_of, flags_of, built_in_count, fixed_node_count, heap_type, method_descriptor, Class, Classes, class_at, is_class, has_flag, has_dict, place_count, is_heap_at, the_dict, the_none_type, none, holds_as, held_by, is_offset, read_offset, set_offset, Key, NumberKey, TextKey, AreKeys, Keeps, IsLogged}
use Rattle.std.specs.Prelude.{◌≡◌, ◌<◌, ◌≤◌, ◌&&◌, ◌==◌, ◌∷◌, ◌++◌}
use Rattle.py_node.specs.declared.dict.PyDictKey.TheVariants as dict_key
use Rattle.py_node.specs.declared.payload.Payload.TheVariants as payload
use Rattle.py_node.specs.declared.payload.Form.TheVariants as form
use Rattle.py_node.specs.declared.built_in.BuiltIn.TheVariants as built_in
use Rattle.py_node.specs.BuiltIns.{has_dict as dict_flag}
use Rattle.class_world.specs.declared.scope.Scope.{Scope}
use Rattle.class_world.specs.Held.{Held}
use Rattle.class_world.specs.Tables.{AreBelow}

-- what is said of a number
pub data Claim : Type 0 where
  IsNode : PyObjectRef → Claim
  AreNodes : List PyObjectRef → Claim
  IsExpression : ExprRef → Claim
  AreExpressions : List ExprRef → Claim
  IsName : PyStrInterned → Claim
  AreNames : List PyStrInterned → Claim
  IsClass : ℕ → Claim
  -- the class's objects hold what those of a built-in class do
  IsOf : ℕ → BuiltIn → Claim
  -- the object holds what those of a built-in class do
  Holding : PyObjectRef → BuiltIn → Claim
  -- the object stands for the class
  Standing : ℕ → PyObjectRef → Claim
  -- the objects are numbers or texts
  CanBeKeys : List PyObjectRef → Claim
  -- the objects are numbers or texts, no two of them alike
  KeysDiffer : List PyObjectRef → Claim
  -- the objects are the numbers and texts that these keys name, one by one
  KeysRead : List PyDictKey → List PyObjectRef → Claim
  -- the expression is of a form that passes the test
  HasForm : ExprRef → (Form → Bool) → Claim
  -- the object is a function with these parameters
  HasParams : PyObjectRef → List PyStrInterned → Claim
  -- the object is a function, and each of its parameters has a value among these
  HasValues : PyObjectRef → List (PyStrInterned × PyObjectRef) → Claim
  -- these stand in the places of an object of the class, one in each
  AreMembers : ℕ → List (Option PyObjectRef) → Claim
  -- the offset, if there is one, is that of a place of the class's objects
  IsOffset : ℕ → Option ℕ → Claim
  -- the class has these flags
  HasFlags : ℕ → ℕ → Claim
  -- the object is of this class, and no script made the class
  OfStatic : PyObjectRef → ℕ → Claim
  -- whether an object of the class has a dict: it has one exactly where it stands for no class and its own class gives it one
  GetsDict : Option ℕ → ℕ → Bool → Claim

-- the built-in class whose objects hold such
abbrev pub home_of : Payload → BuiltIn
home_of payload.Object = built_in.Object
home_of (payload.Class c) = built_in.TypeType
home_of (payload.Number z) = built_in.Int
home_of (payload.Text s) = built_in.Str
home_of (payload.Tuple rs) = built_in.Tuple
home_of (payload.List rs) = built_in.List
home_of (payload.Dict es) = built_in.Dict
home_of (payload.Function f) = built_in.Function
home_of (payload.Method m) = built_in.Method
home_of (payload.NativeFunction f) = built_in.BuiltinFunctionOrMethod
home_of (payload.BuiltinMethod m) = built_in.BuiltinMethod
home_of (payload.MethodDescriptor m) = built_in.MethodDescriptor
home_of (payload.GetSet g) = built_in.GetSetDescriptor
home_of (payload.ClassMethod r) = built_in.ClassMethod
home_of (payload.StaticMethod r) = built_in.StaticMethod
home_of (payload.Member m) = built_in.MemberDescriptor
home_of (payload.Property p) = built_in.Property
home_of (payload.Super s) = built_in.Super
home_of (payload.Iterator i) = built_in.Iterator
home_of (payload.Slice s) = built_in.Slice

-- whether the contents of these tell something for ever: the key or the class that the object is, or its parameters
abbrev pub is_lasting : BuiltIn → Bool
is_lasting built_in.Int = true
is_lasting built_in.Str = true
is_lasting built_in.TypeType = true
is_lasting built_in.Function = true
is_lasting b = false

-- a node with other contents
abbrev pub with_payload : Node → Payload → Node
with_payload n p = record n { payload = p }

-- a node with other members
abbrev pub with_members : Node → List (Option PyObjectRef) → Node
with_members n ms = record n { members = ms }

-- a node of another class, and one with another dict
abbrev pub with_class_ref : Node → PyTypeRef → Node
with_class_ref n c = record n { class = c }

abbrev pub with_dict_ref : Node → PyObjectRef → Node
with_dict_ref n d = record n { dict = Some d }

abbrev pub home_at : List Node → ℕ → Option BuiltIn
home_at ns n = option_map (λ x. home_of x.payload) (slice_get ns n)

-- what a node holds as the key of a dict
abbrev pub key_in : Payload → Option Key
key_in (payload.Number z) = Some (NumberKey z)
key_in (payload.Text s) = Some (TextKey (string_bytes s))
key_in _ = None

abbrev pub held_key : List Node → PyObjectRef → Option Key
held_key ns r = option_and_then (λ x. key_in x.payload) (slice_get ns r.0)

-- the number or the text that a stored key names
abbrev pub read_key : List (List ℕ) → PyDictKey → Option Key
read_key names (dict_key.Number z) = Some (NumberKey z)
read_key names (dict_key.Text x) = option_map TextKey (slice_get names x.0)

-- a stored key names this one
abbrev pub NamesKey : List (List ℕ) → PyDictKey → Option Key → Type 0
NamesKey names k o = (c : Key) × (read_key names k ≡ Some c) × (o ≡ Some c)

-- an object is what a stored key names
abbrev pub IsRead : List (List ℕ) → List Node → PyDictKey → PyObjectRef → Type 0
IsRead names ns k r = NamesKey names k (held_key ns r)

abbrev pub AreRead : List (List ℕ) → List Node → List PyDictKey → List PyObjectRef → Type 0
AreRead names ns [] [] = Unit {0}
AreRead names ns (k ∷ ks) (r ∷ rs) = IsRead names ns k r × AreRead names ns ks rs
AreRead names ns _ _ = ⊥

-- the class that a node stands for
abbrev pub class_in : Payload → Option ℕ
class_in (payload.Class c) = Some c.0
class_in _ = None

abbrev pub held_class : List Node → PyObjectRef → Option ℕ
held_class ns r = option_and_then (λ x. class_in x.payload) (slice_get ns r.0)

-- the parameters of a function
abbrev pub params_in : Payload → Option (List PyStrInterned)
params_in (payload.Function f) = Some f.value.params.items
params_in _ = None

abbrev pub held_params : List Node → PyObjectRef → Option (List PyStrInterned)
held_params ns r = option_and_then (λ x. params_in x.payload) (slice_get ns r.0)

abbrev pub has_value : List (PyStrInterned × PyObjectRef) → PyStrInterned → Bool
has_value vars x = is_some (value_of (λ y. is_same_name y x) vars)

-- there are parameters, and each has a value
abbrev pub AreFilled : List (PyStrInterned × PyObjectRef) → Option (List PyStrInterned) → Type 0
AreFilled vars None = ⊥
AreFilled vars (Some ps) = All (λ x. has_value vars x ≡ true) ps

-- an object that is there, or an empty place
abbrev pub StandsThere : ℕ → Option PyObjectRef → Type 0
StandsThere n None = Unit {0}
StandsThere n (Some r) = r.0 < n

-- the flags of a class
abbrev pub flags_at : {K : Type 0} → Classes K → ℕ → Option ℕ
flags_at t c = option_map (λ k. k.flags) (class_at t c)

-- flags of a class that a script made, and that marks its objects as methods
abbrev pub is_marked_heap : ℕ → Bool
is_marked_heap n = (bit_and n heap_type == heap_type) && (bit_and n method_descriptor == method_descriptor)

-- the class of a node
abbrev pub class_ref_at : List Node → ℕ → Option ℕ
class_ref_at ns n = option_map (λ x. x.class.0) (slice_get ns n)

unfoldable pub Holds : Held → Claim → Type 0
Holds w (IsNode r) = r.0 < length w.nodes
Holds w (AreNodes rs) = All (λ r. r.0 < length w.nodes) rs
Holds w (IsExpression e) = e.0 < length w.forms
Holds w (AreExpressions es) = All (λ e. e.0 < length w.forms) es
Holds w (IsName x) = x.0 < length w.names
Holds w (AreNames xs) = All (λ x. x.0 < length w.names) xs
Holds w (IsClass c) = is_class w.classes c ≡ true
Holds w (IsOf c b) = held_by w.classes c ≡ Some b
Holds w (Holding r b) = home_at w.nodes r.0 ≡ Some b
Holds w (Standing c r) = held_class w.nodes r ≡ Some c
Holds w (CanBeKeys rs) = All (λ r. is_some (held_key w.nodes r) ≡ true) rs
Holds w (KeysDiffer rs) = AreKeys (held_key w.nodes) rs
Holds w (KeysRead ks rs) = AreRead w.names w.nodes ks rs
Holds w (HasForm e test) = (f : Form) × (slice_get w.forms e.0 ≡ Some f) × (test f ≡ true)
Holds w (HasParams r ps) = held_params w.nodes r ≡ Some ps
Holds w (HasValues r vars) = AreFilled vars (held_params w.nodes r)
Holds w (AreMembers c ms) = (place_count w.classes c ≡ Some (length ms)) × AllByRecursion (StandsThere (length w.nodes)) ms
Holds w (IsOffset c o) = is_offset w.classes c o ≡ true
Holds w (HasFlags c n) = flags_at w.classes c ≡ Some n
Holds w (OfStatic r c) = (class_ref_at w.nodes r.0 ≡ Some c) × (is_class w.classes c ≡ true) × (is_heap_at (class_at w.classes c) ≡ false)
Holds w (GetsDict o c b) = (is_class w.classes c ≡ true) × (b ≡ (is_none o && has_dict w.classes c))

abbrev pub AllHold : Held → List Claim → Type 0
AllHold w [] = Unit {0}
AllHold w (c ∷ cs) = Holds w c × AllHold w cs

-- what held of a number holds still, and the log goes on
pub record Lasts (old new : Held) : Type 0 where
  pub still : (c : Claim) → Holds old c → Holds new c
  pub log : Keeps old.log new.log

-- the same; as many bodies run, and the notes of those that were started are as before
pub record Grows (old new : Held) : Type 0 where
  pub still : (c : Claim) → Holds old c → Holds new c
  pub log : Keeps old.log new.log
  pub bodies : length new.scopes ≡ length old.scopes
  pub notes : new.calls ≡ old.calls

-- what the parts of a world say

abbrev pub of_option : {A : Type 0} → (A → List Claim) → Option A → List Claim
of_option of None = []
of_option of (Some x) = of x

abbrev pub of_node_ref : PyObjectRef → List Claim
of_node_ref r = IsNode r ∷ []

abbrev pub of_class_ref : PyTypeRef → List Claim
of_class_ref c = IsClass c.0 ∷ []

abbrev pub of_name_ref : PyStrInterned → List Claim
of_name_ref x = IsName x ∷ []

-- those of some objects that are there
abbrev pub of_optional : List (Option PyObjectRef) → List Claim
of_optional [] = []
of_optional (o ∷ os) = of_option of_node_ref o ++ of_optional os

-- an object and a class
abbrev pub of_start : PyObjectRef × PyTypeRef → List Claim
of_start s = IsNode s.0 ∷ IsClass s.1.0 ∷ []

abbrev pub of_function : Function → List Claim
of_function f = IsName f.name ∷ AreNames f.params.items ∷ IsExpression f.body ∷ of_option of_class_ref f.class

abbrev pub of_member : MemberDescriptor → List Claim
of_member m = IsClass m.class.0 ∷ IsName m.name ∷ IsOffset m.class.0 (read_offset m.getter) ∷ IsOffset m.class.0 (set_offset m.setter) ∷ of_option of_name_ref m.qualname ++ of_option of_name_ref m.doc

-- the parts of a property that are there
abbrev pub of_property : PyProperty → List Claim
of_property p = of_optional (p.fget ∷ p.fset ∷ p.fdel ∷ p.doc ∷ p.name ∷ [])

abbrev pub of_payload : Payload → List Claim
of_payload payload.Object = []
of_payload (payload.Class c) = IsClass c.0 ∷ []
of_payload (payload.Number z) = []
of_payload (payload.Text s) = []
of_payload (payload.Tuple rs) = AreNodes rs.items ∷ []
of_payload (payload.List rs) = AreNodes rs.items ∷ []
of_payload (payload.Dict es) = KeysRead es.keys (map (λ e. e.0) es.items) ∷ AreNodes (map (λ e. e.0) es.items) ∷ AreNodes (map (λ e. e.1) es.items) ∷ KeysDiffer (map (λ e. e.0) es.items) ∷ []
of_payload (payload.Function f) = of_function f.value
of_payload (payload.Method m) = IsNode m.target ∷ IsNode m.func ∷ []
of_payload (payload.NativeFunction f) = IsName f.name ∷ of_option of_node_ref f.target ++ of_option of_name_ref f.doc
of_payload (payload.BuiltinMethod m) = IsName m.name ∷ IsNode m.target ∷ IsClass m.class.0 ∷ of_option of_name_ref m.doc
of_payload (payload.MethodDescriptor m) = IsClass m.class.0 ∷ IsName m.name ∷ of_option of_name_ref m.doc
of_payload (payload.GetSet g) = IsClass g.class.0 ∷ IsName g.name ∷ []
of_payload (payload.ClassMethod r) = IsNode r ∷ []
of_payload (payload.StaticMethod r) = IsNode r ∷ []
of_payload (payload.Member m) = of_member m.value
of_payload (payload.Property p) = of_property p.value
of_payload (payload.Super s) = IsClass s.typ.0 ∷ of_option of_start s.obj
of_payload (payload.Iterator i) = IsNode i.object ∷ []
of_payload (payload.Slice s) = of_optional (s.start ∷ s.stop ∷ s.step ∷ [])

-- the dict of an object is one
abbrev pub of_dict_ref : PyObjectRef → List Claim
of_dict_ref r = IsNode r ∷ Holding r built_in.Dict ∷ []

abbrev pub of_node : Node → List Claim
of_node n = IsClass n.class.0 ∷ IsOf n.class.0 (home_of n.payload) ∷ AreMembers n.class.0 n.members ∷ GetsDict (class_in n.payload) n.class.0 (is_some n.dict) ∷ of_option of_dict_ref n.dict ++ of_payload n.payload

-- names with expressions
abbrev pub of_stored : List (PyStrInterned × ExprRef) → List Claim
of_stored es = AreNames (map (λ e. e.0) es) ∷ AreExpressions (map (λ e. e.1) es) ∷ []

abbrev pub of_form : Form → List Claim
of_form (form.Const k) = []
of_form (form.Name x) = IsName x ∷ []
of_form (form.Bind x e) = IsName x ∷ IsExpression e ∷ []
of_form (form.Tuple es) = AreExpressions es.items ∷ []
of_form (form.List es) = AreExpressions es.items ∷ []
of_form (form.Dict ps) = AreExpressions (map (λ p. p.0) ps.items) ∷ AreExpressions (map (λ p. p.1) ps.items) ∷ []
of_form (form.Func f) = IsName f.value.name ∷ AreNames f.value.params.items ∷ IsExpression f.value.body ∷ []
of_form (form.Attr o x) = IsExpression o ∷ IsName x ∷ []
of_form (form.SetAttr o x e) = IsExpression o ∷ IsName x ∷ IsExpression e ∷ []
of_form (form.DelAttr o x) = IsExpression o ∷ IsName x ∷ []
of_form (form.Call c) = IsExpression c.value.function ∷ AreExpressions c.value.args.items ∷ of_stored c.value.keywords.items
of_form (form.Op word es) = AreExpressions es.items ∷ []
of_form (form.If c a b) = IsExpression c ∷ IsExpression a ∷ IsExpression b ∷ []
of_form (form.Seq es) = AreExpressions es.items ∷ []
of_form (form.Raise kind) = []
of_form (form.Class k) = IsName k.value.name ∷ AreExpressions k.value.bases.items ∷ of_stored k.value.keywords.items ++ of_stored k.value.entries.items

abbrev pub of_binding : PyStrInterned × PyObjectRef → List Claim
of_binding b = IsName b.0 ∷ IsNode b.1 ∷ []

-- the claims of each, one after another
abbrev pub of_each : {A : Type 0} → (A → List Claim) → List A → List Claim
of_each of [] = []
of_each of (x ∷ xs) = of x ++ of_each of xs

-- a running body is that of a function, and has a value for each of its parameters
abbrev pub of_scope : Scope → List Claim
of_scope s = IsNode s.func ∷ HasValues s.func s.vars ∷ of_each of_binding s.vars

-- the class of dicts is there for a class that gives its objects dicts
abbrev pub of_dict : Bool → List Claim
of_dict true = IsClass the_dict ∷ []
of_dict false = []

abbrev pub of_class : Class PyStrInterned → List Claim
of_class k = IsNode (record { 0 = k.number }) ∷ AreNames k.members ∷ of_dict (has_flag dict_flag k) ++ of_each of_binding k.attrs

-- all that the world says is so, the parts of each expression stand before it, and the names that are known come first. What is so of its log is said apart: a world has its log only once it has its first classes
pub record SoundWith (Log : Type 0) (w : Held) : Type 0 where
  pub forms : AllHold w (of_each of_form w.forms)
  pub below : AreBelow w.forms
  pub nodes : AllHold w (of_each of_node w.nodes)
  pub classes : AllHold w (of_each of_class w.classes)
  pub vars : AllHold w (of_each of_binding w.vars)
  pub scopes : AllHold w (of_each of_scope w.scopes)
  -- no variable stands twice
  pub apart : AreNamesDistinct w.vars
  pub scopes_apart : All (λ s. AreNamesDistinct s.vars) w.scopes
  -- the node of each class stands for it, and no other node does
  pub standing : (c : ℕ) → is_class w.classes c ≡ true → Holds w (Standing c (record { 0 = c }))
  pub itself : (n c : ℕ) → held_class w.nodes (record { 0 = n }) ≡ Some c → n ≡ c
  -- the fixed nodes and the built-in classes are there
  pub fixed : fixed_node_count ≤ length w.nodes
  pub built_in : (c : ℕ) → c < built_in_count → is_class w.classes c ≡ true
  -- the objects of each hold what they should, each has the flags of its row, and None is of its class
  pub own : (b : BuiltIn) → Holds w (IsOf (place_of b) (holds_as b))
  pub flags : (b : BuiltIn) → Holds w (HasFlags (place_of b) (flags_of b))
  pub of_none : Holds w (OfStatic none the_none_type)
  -- no class that a script made marks its objects as methods
  pub unmarked : (c n : ℕ) → flags_at w.classes c ≡ Some n → is_marked_heap n ≡ false
  pub known : (n : ℕ) (x : List ℕ) → slice_get known_texts n ≡ Some x → slice_get w.names n ≡ Some x
  pub logged : Log

-- and the log's changes were made in order to the classes of a new world, and show these classes but for their names
abbrev pub Sound : Held → Type 0
Sound w = SoundWith (IsLogged w.log w.classes) w

-- When a change may be made: under these conditions it keeps a sound world sound.
use Rattle.plain_machine.specs.Below.{ℕ, true, false, is_some, List, Option, Some, None, length, option_map, All, PyObjectRef, Text, Class, class_at as class_numbered, is_class, lin, with_class, with_bases, base, layout, is_empty, is_place, is_heap_at, says_dict, has_its_dict, keeps_dict, AreSound}
use Rattle.std.specs.Prelude.{◌≡◌, ◌<◌}
use Rattle.py_node.specs.declared.built_in.BuiltIn.TheVariants as built_in
use Rattle.plain_machine.specs.Known.{the_dict}
use Rattle.plain_machine.specs.Plain.{Datum, PlainWorld}
use Rattle.plain_machine.specs.Sound.{home, held_by, nodes_in, classes_in, offsets_in, keys_in, key_at, AreKeys, AreThere, AreOffsets, AreBound, AreApart, params_in}
use Rattle.plain_machine.specs.World.{node_at, datum_at, class_at, has_dict}
use Rattle.plain_machine.specs.Change.{Change, MakeNode, MakeClass, Bind, SetOwn, SetBases, SetName, SetClass, SetMember, SetDict, SetDatum}

-- a node can hold this: it is no class, what it names is there, its offsets are those of places, and the keys of a dict differ
pub record CanHold (w : PlainWorld) (d : Datum) : Type 0 where
  pub class : home d ≡ built_in.TypeType → ⊥
  pub nodes : AreThere w (nodes_in d)
  pub classes : All (λ c. is_class w.classes c ≡ true) (classes_in d)
  pub offsets : AreOffsets w (offsets_in d)
  pub keys : AreKeys (key_at w) (keys_in d)

-- a new object of a class that is there, which holds what such objects hold
pub record CanMakeNode (w : PlainWorld) (c : ℕ) (d : Datum) : Type 0 where
  pub class : is_class w.classes c ≡ true
  pub like : held_by w.classes c ≡ Some (home d)
  pub holds : CanHold w d
  -- where it gets a dict, the class of dicts is there, whose objects have none
  pub dicts : has_dict w c ≡ true → (is_class w.classes the_dict ≡ true) × (held_by w.classes the_dict ≡ Some built_in.Dict) × (has_dict w the_dict ≡ false)

-- a new class of a metaclass, whose number is the next node's. Its bases are there; it has an order and a best base
pub record CanMakeClass (w : PlainWorld) (meta : ℕ) (k : Class Text) : Type 0 where
  pub class : is_class w.classes meta ≡ true
  pub like : held_by w.classes meta ≡ Some built_in.TypeType
  pub number : k.number ≡ length w.nodes
  pub some : is_empty k.bases ≡ false
  pub bases : All (λ b. is_class w.classes b ≡ true) k.bases
  pub order : is_some (lin (with_class w.classes k) k.number) ≡ true
  pub best : is_some (base (with_class w.classes k) k.number) ≡ true
  pub attrs : AreBound w k.attrs
  pub apart : AreApart k.attrs
  -- its flags say that it gives its objects a dict exactly where it brings one or one of its bases gives one
  pub dict : says_dict (Some k) ≡ has_its_dict w.classes (Some k)

-- the classes stay sound, each keeps its layout, and the class gives its objects a dict as before
pub record CanSetBases (w : PlainWorld) (c : ℕ) (bs : List ℕ) : Type 0 where
  pub heap : is_heap_at (class_numbered w.classes c) ≡ true
  pub sound : AreSound (with_bases w.classes c bs)
  pub layouts : (d : ℕ) → layout (with_bases w.classes c bs) d ≡ layout w.classes d
  pub dict : keeps_dict w.classes c bs ≡ true

-- another class whose objects have the same layout, and so hold the like, and have a dict or none as before
pub record CanSetClass (w : PlainWorld) (r : PyObjectRef) (c : ℕ) : Type 0 where
  pub class : is_class w.classes c ≡ true
  pub layout : option_map (layout w.classes) (class_at w r) ≡ Some (layout w.classes c)
  pub dict : option_map (has_dict w) (class_at w r) ≡ Some (has_dict w c)

-- a place of the object's class is set to an object that is there. Any can be emptied
abbrev pub CanSetMember : PlainWorld → PyObjectRef → ℕ × ℕ → Option PyObjectRef → Type 0
CanSetMember w r p None = Unit {0}
CanSetMember w r p (Some v) = (option_map (λ c. is_place w.classes c p.0 p.1) (class_at w r) ≡ Some true) × (v.0 < length w.nodes)

-- an object that has a dict gets another one
pub record CanSetDict (w : PlainWorld) (r d : PyObjectRef) : Type 0 where
  pub had : option_map (λ n. is_some n.dict) (node_at w r) ≡ Some true
  pub dict : option_map home (datum_at w d) ≡ Some built_in.Dict

-- an object that is no number and no text, and so no key, holds another thing of its kind. A function keeps its parameters
pub record CanSetDatum (w : PlainWorld) (r : PyObjectRef) (d : Datum) : Type 0 where
  pub like : option_map home (datum_at w r) ≡ Some (home d)
  pub number : home d ≡ built_in.Int → ⊥
  pub text : home d ≡ built_in.Str → ⊥
  pub holds : CanHold w d
  pub params : params_in (Some d) ≡ params_in (datum_at w r)

abbrev pub Allowed : PlainWorld → Change → Type 0
Allowed w (MakeNode c d) = CanMakeNode w c d
Allowed w (MakeClass meta k) = CanMakeClass w meta k
Allowed w (Bind x r) = r.0 < length w.nodes
Allowed w (SetOwn c x None) = is_heap_at (class_numbered w.classes c) ≡ true
Allowed w (SetOwn c x (Some r)) = (is_heap_at (class_numbered w.classes c) ≡ true) × (r.0 < length w.nodes)
Allowed w (SetBases c bs) = CanSetBases w c bs
Allowed w (SetName c x) = is_heap_at (class_numbered w.classes c) ≡ true
Allowed w (SetClass r c) = CanSetClass w r c
Allowed w (SetMember r p v) = CanSetMember w r p v
Allowed w (SetDict r d) = CanSetDict w r d
Allowed w (SetDatum r d) = CanSetDatum w r d

-- What stands in the slots of the built-in classes: their own attributes say it.
use Rattle.class_model.specs.Below.{ℕ, Bool, not, cond, List, Option, Some, None, find, option_and_then, slice_get, list_any, Attr, BuiltIn, All, NativeEntry, OfObject, OfType, NewOf, Compare, SlotId, Richcompare, SlotEntry, Native, Unhashable, Known, Filling, BySpecial, NotDict, Number, Sequence, all_built_ins, own_attrs, is_slot, names_of, filling_of}
use Rattle.std.specs.Prelude.{◌&&◌, ◌||◌}
use denote.Enum.Bare.{sameb}
use Rattle.py_node.specs.contracts.built_in.BuiltIn.{the_type as built_in_type}
use Rattle.py_node.specs.contracts.known.Known.{the_type as known_type}
use Rattle.py_node.specs.declared.attr.Attr.TheVariants as attr
use Rattle.py_node.specs.declared.built_in.BuiltIn.TheVariants as built_in
use Rattle.py_node.specs.declared.entry.ObjectNative.TheVariants as object
use Rattle.py_node.specs.declared.entry.TypeNative.TheVariants as type

abbrev pub is_known : Known → Known → Bool
is_known = sameb known_type

abbrev pub is_among : Known → List Known → Bool
is_among x = list_any (is_known x)

abbrev pub is_built_in : BuiltIn → BuiltIn → Bool
is_built_in = sameb built_in_type

abbrev pub is_number : BuiltIn → Bool
is_number b = is_built_in b built_in.Int || is_built_in b built_in.Bool

abbrev pub is_sequence : BuiltIn → Bool
is_sequence b = is_built_in b built_in.Str || is_built_in b built_in.Tuple || is_built_in b built_in.List

-- whether an own attribute of that name fills the slot of a class
abbrev pub fills : BuiltIn → SlotId → Filling → Known → Bool
fills b s BySpecial x = is_among x (names_of s)
fills b s NotDict x = not (is_built_in b built_in.Dict) && is_among x (names_of s)
fills b s (Number n) x = is_number b && is_known x n
fills b s (Sequence n) x = is_sequence b && is_known x n

-- what makes the objects of a class
abbrev pub new_native : BuiltIn → NativeEntry
new_native built_in.Object = OfObject object.New
new_native built_in.TypeType = OfType type.New
new_native b = NewOf b

-- all six comparisons of a class, as one
abbrev pub compare_native : BuiltIn → NativeEntry
compare_native built_in.Object = OfObject object.Compare
compare_native b = Compare b All

-- what an own attribute of a class is in a slot that it fills
abbrev pub entry_of : BuiltIn → SlotId → Attr → Option SlotEntry
entry_of b s attr.New = Some (Native (new_native b))
entry_of b s (attr.Method n) = Some (Native (cond (is_slot s Richcompare) (compare_native b) n))
entry_of b s attr.NoHash = Some Unhashable
entry_of b s a = None

abbrev pub entry_in : BuiltIn → SlotId → Option (Known × Attr) → Option SlotEntry
entry_in b s None = None
entry_in b s (Some r) = entry_of b s r.1

-- what a class has in a slot by some of its attributes: the first that fills the slot says it
abbrev pub entry_among : BuiltIn → SlotId → List (Known × Attr) → Option SlotEntry
entry_among b s attrs = entry_in b s (find (λ r. fills b s (filling_of s) r.0) attrs)

-- what stands in a slot of a class, by its number
unfoldable pub natives_of : ℕ → SlotId → Option SlotEntry
natives_of c s = option_and_then (λ b. entry_among b s (own_attrs b)) (slice_get all_built_ins c)

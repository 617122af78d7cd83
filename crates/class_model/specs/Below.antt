-- The words of crates below that the definitions and contracts of this crate are written in.
pub use Rattle.py_node.specs.Attributes.{value_of, with_value, without_key}
pub use Rattle.py_node.specs.BuiltIns.{all_built_ins, base_of, built_in_count, fixed_none, flags_of, has_dict, heap_flags, heap_type, name_of, place_of}
pub use Rattle.py_node.specs.Natives.{is_same_entry}
pub use Rattle.py_node.specs.OwnAttrs.{own_attrs}
pub use Rattle.py_node.specs.Slots.{all_slots, filling_of, is_slot, names_of, sort_of}
pub use Rattle.py_node.specs.Tree.{Text}
pub use Rattle.py_node.specs.contracts.slots.Sort.{the_type}
pub use Rattle.py_node.specs.declared.attr.Attr.{Attr}
pub use Rattle.py_node.specs.declared.built_in.BuiltIn.{BuiltIn}
pub use Rattle.py_node.specs.declared.entry.CompareNative.TheVariants.{All}
pub use Rattle.py_node.specs.declared.entry.NativeEntry.{NativeEntry}
pub use Rattle.py_node.specs.declared.entry.NativeEntry.TheVariants.{Compare, NewOf, OfObject, OfType}
pub use Rattle.py_node.specs.declared.entry.SlotEntry.{SlotEntry}
pub use Rattle.py_node.specs.declared.entry.SlotEntry.TheVariants.{Native, Unhashable, Wrapper}
pub use Rattle.py_node.specs.declared.entry.SlotId.{SlotId}
pub use Rattle.py_node.specs.declared.entry.SlotId.TheVariants.{Hash, New, Richcompare}
pub use Rattle.py_node.specs.declared.known.Known.{Known}
pub use Rattle.py_node.specs.declared.known.Known.TheVariants.{Dict}
pub use Rattle.py_node.specs.declared.raised.Cause.{Cause}
pub use Rattle.py_node.specs.declared.raised.Cause.TheVariants.{LocalPrecedence, MroConflict}
pub use Rattle.py_node.specs.declared.refs.PyObjectRef.{PyObjectRef}
pub use Rattle.py_node.specs.declared.slots.Filling.{Filling}
pub use Rattle.py_node.specs.declared.slots.Filling.TheVariants.{BySpecial, NotDict, Number, Sequence}
pub use Rattle.py_node.specs.declared.slots.Sort.{Sort}
pub use Rattle.py_node.specs.declared.slots.Sort.TheVariants.{ByItself, ByMapping, BySequence, Nearest}
pub use Rattle.std.specs.Int.RustNames.{bit_and}
pub use Rattle.std.specs.List.{flat_map, list_any}
pub use Rattle.std.specs.Prelude.{Bool, IsTrue, List, None, Option, Some, [], cond, eqb, false, filter, find, is_none, is_some, leb, length, ltb, map, nat_lt, not, option_and_then, option_map, slice_get, suc, true, zero, ℕ}

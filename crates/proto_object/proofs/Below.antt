-- The words that the lemmas of this crate are written in: its own definitions, and words and lemmas of crates below.
pub use Rattle.class_world.proofs.Claims.{more-nodes, no-nodes}
pub use Rattle.class_world.specs.Held.{Held}
pub use Rattle.class_world.specs.Reading.{Reading, Reads, bindings, datum, ended_of, object_job, plain, task_of}
pub use Rattle.class_world.specs.Rows.{EndsAs}
unfoldable pub use Rattle.class_world.specs.Sound.{Holds}
pub use Rattle.plain_machine.specs.Dicts.{dict_of, is_text_datum}
pub use Rattle.plain_machine.specs.Row.{Row, choose, end, fault, make, most_items, noting, pass, value}
pub use Rattle.proto_object.specs.Below.{AList, AText, ATuple, AllHold, Answer, Answered, AreNodes, AsExhausted, AsTruth, AsValue, Ask, Asks, Chose, Datum, DoDelSlice, DoDir, DoGetSlice, DoInvoke, DoNext, DoSetSlice, DoSpecial, End, Ended, Ends, IsNode, MapAssSubscript, MapSubscript, ObjectTask, PlainWorld, PyObjectRef, Raised, ReadObjects, Said, SlotEntry, Step, Text, ToAttribute, ToObject, ToProtocol, Told, World, all_attributes, class_at, datum_at, entered, in_range, is_ascii_digit, is_exactly, is_text, items_at, keyed, known_text, list_all, list_made, of_binding, of_each, of_ended, of_method, of_object_task, of_step, or_no_attributes, slot_at, the_list, the_type}
pub use Rattle.proto_object.specs.Classes.{by_way, tuple_once, way_of}
pub use Rattle.proto_object.specs.ProtoItems.Items.{deleted}
pub use Rattle.proto_object.specs.ProtoItems.Rows.{items_group, items_stands, of_items_kept}
unfoldable pub use Rattle.proto_object.specs.ProtoItems.Say.{items_job_say}
pub use Rattle.proto_object.specs.ProtoItems.Slices.{del_slice_by, get_slice_by, set_slice_by, with_slice}
pub use Rattle.proto_object.specs.ProtoIter.Iteration.{counted}
pub use Rattle.proto_object.specs.ProtoIter.Rows.{CountsAlike, IsItem, IsNoItem, IsNoTruth, Resumes, equal_rest, iter_group, iter_stands, last_of, seeking, turn_of}
pub use Rattle.proto_object.specs.ProtoNumber.Lengths.{expected_say, hint_rest, is_type_error}
pub use Rattle.proto_object.specs.ProtoNumber.Numbers.{is_negative, is_numeral, signed, spelled, without_sign}
pub use Rattle.proto_object.specs.Rows.{Begins, asked_of, object_group, object_stands, of_turn, turn_job, turn_rest, turn_step}
unfoldable pub use Rattle.proto_object.specs.Say.{object_job_say}
pub use Rattle.proto_object.specs.Texts.{attributes_for, dir_by, has_name, names_made, other_keys, own_keys}
pub use Rattle.proto_object.specs.declared.ObjectKept.{ObjectKept}
pub use Rattle.proto_object.specs.declared.ObjectKept.TheVariants.{AfterCheck, AfterOwn, Each}
pub use Rattle.proto_object.specs.declared.proto_items.ItemsKept.TheVariants.{Ending, Gathering, Invoked, Iterating, Loaded, Pass}
pub use Rattle.proto_object.specs.declared.proto_iter.IterKept.{IterKept}
pub use Rattle.proto_object.specs.declared.proto_iter.IterKept.TheVariants.{Collecting, Equal, Next}
pub use Rattle.proto_object.specs.declared.proto_iter.seek.Search.{Search}
pub use Rattle.proto_object.specs.declared.proto_iter.seek.Seeking.{Seeking}
pub use Rattle.proto_object.specs.declared.turns.Turn.{Turn}
pub use Rattle.proto_object.specs.declared.turns.Turn.TheVariants.{Derives, InstanceOf, SubclassOf}
pub use Rattle.py_node.specs.Attributes.{is_same_name, value_of}
pub use Rattle.py_node.specs.Faults.{raised}
pub use Rattle.py_node.specs.declared.known.Known.{Known}
pub use Rattle.py_node.specs.declared.known.Known.TheVariants.{Instancecheck, Subclasscheck}
pub use Rattle.py_node.specs.declared.payload.Payload.{Payload}
pub use Rattle.py_node.specs.declared.raised.Cause.TheVariants.{IndexRange, IntLiteral, IntRange, TooLong}
pub use Rattle.py_node.specs.declared.refs.PyStrInterned.{PyStrInterned}
pub use Rattle.py_node.specs.declared.task.Answer.TheVariants.{Exhausted, Method, Objects, Truth, Value}
pub use Rattle.py_node.specs.declared.task.PyMethod.{PyMethod}
pub use Rattle.py_node.specs.declared.task.Task.{Task}
pub use Rattle.row_kit.proofs.Fits.{fits-false}
pub use Rattle.row_kit.proofs.Points.{asks-follow, ends-follow, goes-noting, read-follows, steps-noting}
pub use Rattle.row_kit.specs.Points.{Goes, Point, Steps}
pub use Rattle.row_kit.specs.ProtoBase.Each.{all_items, any_of, number, objects, says, turned}
pub use Rattle.std.proofs.Common.{Bool, Err, List, None, Ok, Option, Result, Some, [], ap, append_assoc, arith, cond, drop, false, filter, get_or, inl, inr, length, not, refl, subst, suc, sym, true, zero, ℕ, ◌∙◌}
pub use Rattle.std.proofs.lemmas.Bool.{eq-eqb, eqb-true, le-ltb, true≢false}
pub use Rattle.std.proofs.lemmas.Slice.Eq.{bytes_eq-Decides}
pub use Rattle.std.proofs.lemmas.Str.Parse.{numerals_by_value, tells_all_ascii_digits}
pub use Rattle.std.specs.Global.{Vec}
pub use Rattle.std.specs.Int.{w128}
pub use Rattle.std.specs.Int.RustNames.{FitsSigned}
pub use Rattle.std.specs.Prelude.{eqb, is_some, nat_le, pos, slice_get, ℤ}
pub use Rattle.std.specs.Str.{all_ascii_digits}
pub use Rattle.std.specs.Str.Parse.{IsNumeral, digits_value, signed_digits_value, starts_with_minus, without_leading_sign}

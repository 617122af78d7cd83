-- The words that the lemmas of this crate are written in: its own definitions, and words and lemmas of crates below.
pub use Rattle.class_model.proofs.Renamed.{base-renamed, bases_of-renamed}
pub use Rattle.class_model.proofs.Rule.{lin-classes}
pub use Rattle.class_model.specs.Class.{Classes, along, bases_of, class_at, is_class, lin, own_of}
pub use Rattle.class_table.proofs.Along.{held-at}
pub use Rattle.class_world.proofs.Claims.{all-append, all-first, all-rest, each-push}
pub use Rattle.class_world.proofs.Homes.{by_line}
pub use Rattle.class_world.proofs.OfClasses.{line-seen}
unfoldable pub use Rattle.class_world.specs.Reading.{plain}
pub use Rattle.class_world.specs.Rows.{EndsAs}
pub use Rattle.class_world.specs.Sound.{AllHold, AreNames, AreNodes, Claim, Grows, Holding, IsClass, IsName, IsNode, IsOf, home_of, of_binding, of_class_ref, of_each, of_node_ref, of_option, of_optional, of_property}
unfoldable pub use Rattle.class_world.specs.Sound.{Holds}
pub use Rattle.plain_machine.specs.Plain.{ADict, Answered, Asks, Bindings, Chose, Datum, DoGetAttr, DoSuperCheck, Ended, Ends, Node, PlainTask, PlainWorld, ReadObjects, Said, ToAttribute, ToDescriptor, ToNative, Told}
pub use Rattle.plain_machine.specs.Sound.{IsSound, held_by, home}
pub use Rattle.proto_attr.specs.Below.{All, Answer, Ask, BuiltIn, Cause, DescrSet, DescriptorTask, Detail, End, GetterOf, Held, IfSome, ImmutableType, NativeEntry, NewOf, NoAttribute, Property, PropertyNative, PyObjectRef, PyProperty, PyTypeRef, Raised, Reading, Reads, Result, Row, Step, Task, Text, Value, World, all_some, argument, attrs_of, base, bindings, class_number, datum, datum_at, descriptor_job, end, ended_of, fault, fixed_none, is_attribute_error, is_heap_at, is_some, is_text, known_text, named_end, next_node, none, numbers, option_map, own_value, read_objects, ref, refused_attr, setter_value, slice_get, slot_at, special_at, spelled, start, task_of, the_dict, there_or, truth, value, with_lone_class, with_node, with_one, with_own_attr, with_two}
pub use Rattle.proto_attr.specs.Laws.{AnswerIsGiven, ClassIsLast, DictIsNext, Gets, GetterAndSetterWins, NeitherHasIt, Sets}
pub use Rattle.proto_attr.specs.NativeCalls.Asks.{answering, asking_stands, marking, native_group}
pub use Rattle.proto_attr.specs.NativeCalls.Parts.{with_get}
pub use Rattle.proto_attr.specs.NativeCalls.Say.{asking_rest, by_way, class_of_wrapper, none_end, none_said, way_of, way_rest}
unfoldable pub use Rattle.proto_attr.specs.NativeCalls.Say.{asking_job_say}
pub use Rattle.proto_attr.specs.NativeDefs.Definitions.{with_method}
pub use Rattle.proto_attr.specs.NativeDetails.Rows.{Does, detail_stands}
pub use Rattle.proto_attr.specs.NativeDetails.Say.{abstract_of, details_native_say, joined, member_name, member_qualname, or_false, property_abstract, setter_at}
unfoldable pub use Rattle.proto_attr.specs.NativeDetails.Say.{detail_job_say}
pub use Rattle.proto_attr.specs.NativeObjects.Attributes.{annotations, given_annotations}
pub use Rattle.proto_attr.specs.NativeObjects.Descriptors.{bare, or_old, part_set, placed, with_part, with_parts}
pub use Rattle.proto_attr.specs.NativeObjects.Getters.{class_read, getter_say}
pub use Rattle.proto_attr.specs.NativeObjects.Setters.{all_classes, class_written, on_heap, setter_say}
pub use Rattle.proto_attr.specs.NativeObjects.Takes.{with_class_and_given, with_one_or_two}
pub use Rattle.proto_attr.specs.ProtoDescr.Rows.{Begins, EndsSo, Resumes, Starts, StepsAs, closed, descriptor_group, descriptor_stands, passed, remaining}
pub use Rattle.proto_attr.specs.ProtoDescr.Say.{class_method_by, descr_set_by}
unfoldable pub use Rattle.proto_attr.specs.ProtoDescr.Say.{descriptor_say}
pub use Rattle.proto_attr.specs.ProtoDescr.Supers.{after, start_asked, super_bound}
pub use Rattle.proto_attr.specs.Say.{find, generic_by, generic_opt_by, get_rest, or_get_attr, value_for}
unfoldable pub use Rattle.proto_attr.specs.Say.{attribute_say}
pub use Rattle.proto_attr.specs.declared.find.Found.TheVariants.{Descriptor}
pub use Rattle.proto_attr.specs.declared.native_calls.NativeKept.{NativeKept}
pub use Rattle.proto_attr.specs.declared.native_calls.NativeKept.TheVariants.{AfterDoc, Answering, Binding}
pub use Rattle.proto_attr.specs.declared.native_calls.way.Kind.TheVariants.{ClassMethod, Super}
pub use Rattle.proto_attr.specs.declared.native_calls.way.Way.{Way}
pub use Rattle.proto_attr.specs.declared.native_calls.way.Way.TheVariants.{Binds, Marked, Wraps}
pub use Rattle.proto_attr.specs.declared.native_calls.way.Wrapper.{Wrapper}
pub use Rattle.proto_attr.specs.declared.native_calls.way.Wrapper.TheVariants.{Class, Static}
pub use Rattle.proto_attr.specs.declared.native_details.DetailKept.TheVariants.{AfterBoth, AfterClass, AfterGetter, AfterSetter}
pub use Rattle.proto_attr.specs.declared.proto_descr.DescriptorKept.TheVariants.{AfterGet, Done, Pass}
pub use Rattle.py_node.specs.declared.known.Known.TheVariants.{Annotations, Doc, Get, Isabstractmethod}
pub use Rattle.py_node.specs.declared.memory.OutOfMemory.{OutOfMemory}
pub use Rattle.py_node.specs.declared.payload.Payload.{Payload}
pub use Rattle.py_node.specs.declared.raised.Kind.TheVariants.{AttributeError}
pub use Rattle.py_node.specs.declared.refs.PyStrInterned.{PyStrInterned}
pub use Rattle.py_node.specs.declared.task.DescriptorTask.TheVariants.{DescrGet}
pub use Rattle.py_node.specs.declared.task.PySetterValue.{PySetterValue}
pub use Rattle.row_kit.proofs.Points.{asks-follow, ends-follow, read-follows}
pub use Rattle.row_kit.specs.Points.{Goes, Steps}
pub use Rattle.std.proofs.Common.{Bool, Err, IfOk, List, None, Ok, Option, Some, [], ap, ap₂, arith, codes, cond, drop, drop-cons, eqb, false, fold, get_or, length, map, refl, slice_index_or, subst, suc, sym, take, true, zero, ℕ, ◌∙◌}

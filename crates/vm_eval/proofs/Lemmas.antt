-- The words that the answers of this crate are written in: its lemmas and definitions, and those of crates below.
pub use Rattle.class_table.specs.Refused.{refusal, refused_layout}
pub use Rattle.class_world.proofs.Claims.{all-first, all-last, all-rest, each-pop}
pub use Rattle.class_world.proofs.Growth.{lasts-on, same-lasts}
pub use Rattle.class_world.proofs.Leaves.{bodies-read}
pub use Rattle.class_world.specs.Reading.{Reads, plain, task_of}
pub use Rattle.plain_machine.specs.Answer.{NoUnits, Out, answer, closing}
unfoldable pub use Rattle.plain_machine.specs.Start.{start, with_attr}
pub use Rattle.plain_machine.specs.World.{at_depth}
unfoldable pub use Rattle.py_node.specs.BuiltIns.{all_built_ins, built_in_flags, flags_of, place_of}
unfoldable pub use Rattle.py_node.specs.OwnAttrs.{own_attrs}
pub use Rattle.std.proofs.Common.{List, Some, [], ap, arith, length, refl, subst, sym, ℕ, ◌∙◌}
pub use Rattle.vm_eval.proofs.Commands.{command-replied}
pub use Rattle.vm_eval.proofs.Groups.{attribute-among, begins-among, call-among, class-among, compare-among, descriptor-among, eval-among, items-among, iter-among, leaves-as, leaves-open-as, native-among, number-among, object-among, operator-among, resumes-among}
pub use Rattle.row_kit.proofs.Ended.{sorted_ends}
pub use Rattle.vm_eval.proofs.OfNatives.Families.{calls-family, comparisons-family, details-family, family-begins, family-resumes, items-family, conversions-family, plain-begins, repeats-family}
pub use Rattle.vm_eval.proofs.Rests.{none-held, none-read, quiet-held, quiet-read, rest-grows, still-none}
pub use Rattle.vm_eval.proofs.Turns.{asked-holds, began-next, comes-above, comes-more, ended, ends-there, limited-above, no-frames, over, resumed-next, runs-on, spent-next, under-way, waits-on}
pub use Rattle.vm_eval.specs.Asks.{ending_in, unnoted}
pub use Rattle.vm_eval.specs.Below.{AllHold, Ask, Claim, End, Grows, IsSome, bodies_of, numbers, of_attribute_kept, of_call_kept, of_class_kept, of_compare_kept, of_descriptor_kept, of_eval_kept, of_items_kept, of_iter_kept, of_number_kept, of_object_kept, of_operator_kept, of_task, refused_change, told, tree_of}
pub use Rattle.vm_eval.specs.OfNatives.Rows.{native_job, of_natives_kept}
pub use Rattle.vm_eval.specs.declared.stack.Kept.TheVariants.{ForAttribute, ForCall, ForClass, ForCompare, ForDescriptor, ForEval, ForItems, ForIteration, ForNative, ForNumber, ForObject, ForOperator}
pub use Rattle.vm_eval.specs.Say.{bodies_in, of_kept, say}
pub use Rattle.vm_eval.specs.Stack.{ending_of, of_end}
pub use Rattle.vm_eval.specs.State.{State}

-- The words that the lemmas of this crate are written in: its own definitions, and words and lemmas of crates below.
pub use Rattle.class_world.proofs.Claims.{all-first, all-last, all-rest, each-pop, each-push}
pub use Rattle.class_world.proofs.Growth.{lasts-on, same-lasts}
pub use Rattle.class_world.proofs.Leaves.{leaves-among, leaves-open}
pub use Rattle.class_world.specs.Reading.{Reading, Reads, bindings, ended_of, scope_of, task_of, attribute_job, call_job, class_job, compare_job, descriptor_job, eval_job, object_job, operator_job, protocol_job}
unfoldable pub use Rattle.class_world.specs.Reading.{plain}
pub use Rattle.class_world.specs.Rows.{EndsAs}
unfoldable pub use Rattle.native_containers.specs.NativeCompare.Say.{compared_job_say}
unfoldable pub use Rattle.native_containers.specs.NativeItems.Say.{item_job_say}
unfoldable pub use Rattle.native_containers.specs.NativeConversions.Say.{conversion_job_say}
pub use Rattle.plain_machine.proofs.Follow.{reach-is}
pub use Rattle.plain_machine.specs.Answer.{NoUnits, Out, Outcome, Over, Run, answer, answering, asked, carry, plain_run, reach, replied, step}
pub use Rattle.plain_machine.specs.Plain.{Answered, Asks, DoEval, Ended, Ends, PlainTask, PlainWorld, Said, ToAttribute, ToCall, ToClass, ToCompare, ToDescriptor, ToEval, ToObject, ToOperator, ToProtocol, Told}
pub use Rattle.plain_machine.specs.Row.{fault}
unfoldable pub use Rattle.proto_attr.specs.NativeCalls.Say.{asking_job_say}
unfoldable pub use Rattle.proto_attr.specs.NativeDetails.Say.{detail_job_say}
pub use Rattle.proto_object.specs.ProtoIter.Rows.{iter_group}
unfoldable pub use Rattle.proto_ops.specs.NativeRepeats.Say.{repeat_job_say}
pub use Rattle.py_node.specs.Replies.{PlainReplyAnswer, Started, reply_of}
pub use Rattle.py_node.specs.declared.raised.Cause.TheVariants.{DepthLimit}
pub use Rattle.py_node.specs.declared.refs.ExprRef.{ExprRef}
pub use Rattle.std.proofs.Common.{Bool, List, Ok, Result, [], ap, arith, cond, drop, false, length, length-append, map, nat_lt, refl, subst, suc, sym, true, zero, zero-add, ℕ, ◌∙◌}
pub use Rattle.std.proofs.lemmas.Bool.{le-ltb, lt-ltb, ltb-false, ltb-true}
pub use Rattle.std.proofs.lemmas.List.{append_assoc}
pub use Rattle.std.proofs.lemmas.List.Sums.{sum_by_push}
pub use Rattle.vm_eval.specs.Below.{AllHold, Answer, Ask, Claim, End, Err, Grows, Held, IfOk, Lasts, Leaves, LeavesOpen, NativeEntry, Raised, Step, Task, Tree, World, left_open, of_each, of_step, of_task, sum_by, vec_capacity, without_calls}
pub use Rattle.vm_eval.specs.OfNatives.Rows.{kept_among, native_job, natives_stands, natives_group}
pub use Rattle.vm_eval.specs.OfNatives.Say.{by_family, family_of, native_by}
unfoldable pub use Rattle.vm_eval.specs.OfNatives.Say.{native_job_say}
pub use Rattle.vm_eval.specs.Runs.{Replied, before, trees_in}
pub use Rattle.vm_eval.specs.Say.{Begins, Resumes, bodies_in, branch_of, by_branch, of_kept, step_among, to_native, machine_group}
unfoldable pub use Rattle.vm_eval.specs.Say.{say, stands}
pub use Rattle.vm_eval.specs.Stack.{Answers, AsDeep, Comes, EndsDeep, IsFirst, IsFirstAbove, IsNext, IsTaken, Reaches, ending_of}
pub use Rattle.vm_eval.specs.declared.natives.NativesKept.{NativesKept}
pub use Rattle.vm_eval.specs.declared.natives.NativesKept.TheVariants.{ForCalls, ForComparisons, ForDetails, ForConversions, ForRepeats}
pub use Rattle.vm_eval.specs.declared.natives.family.Family.{Family}
pub use Rattle.vm_eval.specs.declared.protocols.Branch.{Branch}
pub use Rattle.vm_eval.specs.declared.stack.Kept.{Kept}
pub use Rattle.vm_eval.specs.declared.stack.Kept.TheVariants.{ForAttribute, ForCall, ForClass, ForCompare, ForDescriptor, ForEval, ForItems, ForIteration, ForNative, ForNumber, ForObject, ForOperator}
pub use Rattle.row_kit.proofs.Points.{ends-follow, goes-among, read-follows, steps-on}
pub use Rattle.row_kit.specs.Points.{Group, Steps}
pub use Rattle.proto_call.specs.EvalForms.Rows.{eval_group}
pub use Rattle.proto_attr.specs.Rows.{attribute_group}
pub use Rattle.proto_attr.specs.ProtoDescr.Rows.{descriptor_group}
pub use Rattle.proto_attr.specs.NativeCalls.Asks.{native_group}
pub use Rattle.proto_attr.specs.NativeDetails.Rows.{detail_group}
pub use Rattle.proto_call.specs.Rows.{call_group}
pub use Rattle.proto_call.specs.ClassMake.Rows.{class_group}
pub use Rattle.proto_ops.specs.Rows.{operator_group}
pub use Rattle.proto_ops.specs.ProtoCompare.Rows.{compare_group}
pub use Rattle.proto_ops.specs.NativeRepeats.Rows.{repeat_group}
pub use Rattle.proto_object.specs.ProtoNumber.Rows.{number_group}
pub use Rattle.proto_object.specs.ProtoItems.Rows.{items_group}
pub use Rattle.proto_object.specs.Rows.{object_group}
pub use Rattle.native_containers.specs.NativeItems.Rows.{item_group}
pub use Rattle.native_containers.specs.NativeConversions.Rows.{conversion_group}
pub use Rattle.native_containers.specs.NativeCompare.Rows.{compared_group}

-- The law: a task that is answered is answered by its kind.
use Rattle.vm_calls.specs.Below.{ℕ, List, Ok, PyObjectRef, NativeEntry, PlainWorld, PlainTask, PlainAnswer, Bindings, EvalJob, AttributeJob, DescriptorJob, CallJob, ClassJob, OperatorJob, CompareJob, ProtocolJob, ObjectJob, DoIsTrue, DoIndex, DoWhole, DoLength, DoHint, DoGetIter, DoNext, DoCollect, DoContains, DoCount, DoFind, ToEval, ToAttribute, ToDescriptor, ToCall, ToClass, ToOperator, ToCompare, ToProtocol, ToObject, ToNative, Told, Saying, Row, answer, Out, Over, eval_say, attribute_say, descriptor_say, call_job_say, class_job_say, operator_say, compare_job_say, number_job_say, iter_job_say, items_job_say, object_job_say, native_job_say}
use Rattle.std.specs.Prelude.{◌≡◌}
use Rattle.vm_calls.specs.AnswerKinds.Kinds.{IsOfKind}

-- tasks of protocols are of three groups
abbrev pub protocol_row : PlainWorld → ProtocolJob → Row
protocol_row w (DoIsTrue o) = number_job_say w (DoIsTrue o)
protocol_row w (DoIndex o) = number_job_say w (DoIndex o)
protocol_row w (DoWhole o) = number_job_say w (DoWhole o)
protocol_row w (DoLength o) = number_job_say w (DoLength o)
protocol_row w (DoHint o d) = number_job_say w (DoHint o d)
protocol_row w (DoGetIter o) = iter_job_say w (DoGetIter o)
protocol_row w (DoNext o) = iter_job_say w (DoNext o)
protocol_row w (DoCollect o) = iter_job_say w (DoCollect o)
protocol_row w (DoContains o x) = iter_job_say w (DoContains o x)
protocol_row w (DoCount o x) = iter_job_say w (DoCount o x)
protocol_row w (DoFind o x) = iter_job_say w (DoFind o x)
protocol_row w job = items_job_say w job

-- all tasks go by their rows
pub record GoesByRows (say : Saying PlainTask) : Type 0 where
  pub expressions : (w : PlainWorld) (job : EvalJob) (told : Told) → say w (ToEval job) told ≡ eval_say w job told
  pub attributes : (w : PlainWorld) (job : AttributeJob) (told : Told) → say w (ToAttribute job) told ≡ attribute_say w job told
  pub descriptors : (w : PlainWorld) (job : DescriptorJob) (told : Told) → say w (ToDescriptor job) told ≡ descriptor_say w job told
  pub calls : (w : PlainWorld) (job : CallJob) (told : Told) → say w (ToCall job) told ≡ call_job_say w job told
  pub classes : (w : PlainWorld) (job : ClassJob) (told : Told) → say w (ToClass job) told ≡ class_job_say w job told
  pub operators : (w : PlainWorld) (job : OperatorJob) (told : Told) → say w (ToOperator job) told ≡ operator_say w job told
  pub comparisons : (w : PlainWorld) (job : CompareJob) (told : Told) → say w (ToCompare job) told ≡ compare_job_say w job told
  pub protocols : (w : PlainWorld) (job : ProtocolJob) (told : Told) → say w (ToProtocol job) told ≡ protocol_row w job told
  pub objects : (w : PlainWorld) (job : ObjectJob) (told : Told) → say w (ToObject job) told ≡ object_job_say w job told
  pub natives : (w : PlainWorld) (n : NativeEntry) (args : List PyObjectRef) (kw : Bindings) (told : Told) → say w (ToNative n args kw) told ≡ native_job_say w (record { entry = n; args = args; kw = kw }) told

-- where all tasks go by their rows, a task's answer is of its kind, in whatever world
abbrev pub AnswersAreOfTheirKinds : Type 0
AnswersAreOfTheirKinds =
    (say : Saying PlainTask) (w u : PlainWorld) (task : PlainTask) (a : PlainAnswer) (units depth left : ℕ) →
    GoesByRows say → answer say w task units depth ≡ Out u (Over (Ok a)) left → IsOfKind task a

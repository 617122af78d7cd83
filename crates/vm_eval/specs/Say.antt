-- The rows of all groups.
use Rattle.vm_eval.specs.Below.{ℕ, List, Result, Raised as Fault, Answer, Task, Step, PlainWorld, PlainTask, ProtocolJob, DoIsTrue, DoIndex, DoWhole, DoLength, DoHint, DoGetIter, DoNext, DoCollect, DoContains, DoCount, DoFind, ToEval, ToAttribute, ToDescriptor, ToCall, ToClass, ToOperator, ToCompare, ToProtocol, ToObject, ToNative, Saying, Row, Ended, World, Reading, task_of, Claim, eval_say, eval_stands, of_eval_kept, attribute_say, attribute_stands, of_attribute_kept, descriptor_stands, of_descriptor_kept, call_job_say, call_stands, of_call_kept, bodies_of, class_job_say, class_stands, of_class_kept, descriptor_say, operator_say, operator_stands, of_operator_kept, compare_job_say, compare_stands, of_compare_kept, number_job_say, number_stands, of_number_kept, iter_stands, of_iter_kept, items_stands, of_items_kept, object_stands, of_object_kept, iter_job_say, items_job_say, object_job_say}
use Rattle.row_kit.specs.Points as points
use Rattle.row_kit.specs.Points.{Group, Point, among}
use Rattle.vm_eval.specs.OfNatives.Say.{NativeJob, native_job_say}
use Rattle.vm_eval.specs.OfNatives.Rows.{natives_stands, of_natives_kept}
use Rattle.vm_eval.specs.declared.protocols.Branch.{Branch}
use Rattle.vm_eval.specs.declared.protocols.Branch.TheVariants as branch
use Rattle.vm_eval.specs.declared.stack.Kept.{Kept}
use Rattle.vm_eval.specs.declared.stack.Kept.TheVariants.{ForEval, ForAttribute, ForDescriptor, ForCall, ForClass, ForOperator, ForCompare, ForNumber, ForIteration, ForItems, ForObject, ForNative}

-- whether a task is on numbers, on iterations, or on items
abbrev pub branch_of : ProtocolJob → Branch
branch_of (DoIsTrue o) = branch.Numbers
branch_of (DoIndex o) = branch.Numbers
branch_of (DoWhole o) = branch.Numbers
branch_of (DoLength o) = branch.Numbers
branch_of (DoHint o d) = branch.Numbers
branch_of (DoGetIter o) = branch.Iterations
branch_of (DoNext o) = branch.Iterations
branch_of (DoCollect o) = branch.Iterations
branch_of (DoContains o x) = branch.Iterations
branch_of (DoCount o x) = branch.Iterations
branch_of (DoFind o x) = branch.Iterations
branch_of _ = branch.Items

abbrev pub by_branch : PlainWorld → Branch → ProtocolJob → Row
by_branch w branch.Numbers job = number_job_say w job
by_branch w branch.Iterations job = iter_job_say w job
by_branch w branch.Items job = items_job_say w job

abbrev pub protocol_say : PlainWorld → ProtocolJob → Row
protocol_say w job = by_branch w (branch_of job) job

-- a native with its arguments, as a task
abbrev pub to_native : NativeJob → PlainTask
to_native job = ToNative job.entry job.args job.kw

-- what a task's row says, by the group that the task is in
unfoldable pub say : Saying PlainTask
say w (ToEval job) = eval_say w job
say w (ToAttribute job) = attribute_say w job
say w (ToDescriptor job) = descriptor_say w job
say w (ToCall job) = call_job_say w job
say w (ToClass job) = class_job_say w job
say w (ToOperator job) = operator_say w job
say w (ToCompare job) = compare_job_say w job
say w (ToProtocol job) = protocol_say w job
say w (ToObject job) = object_job_say w job
say w (ToNative n args kw) = native_job_say w (record { entry = n; args = args; kw = kw })

-- what is kept, among all that is kept
abbrev pub step_among : {K : Type 0} → (K → Kept) → Step K → Step Kept
step_among for step = among for step

-- what is done with the answer where something is kept
unfoldable pub stands : Reading → Kept → Ended → Point
stands t (ForEval kept) = eval_stands t kept
stands t (ForAttribute kept) = attribute_stands t kept
stands t (ForDescriptor kept) = descriptor_stands t kept
stands t (ForCall kept) = call_stands t kept
stands t (ForClass kept) = class_stands t kept
stands t (ForOperator kept) = operator_stands t kept
stands t (ForCompare kept) = compare_stands t kept
stands t (ForNumber kept) = number_stands t kept
stands t (ForNative kept) = natives_stands t kept
stands t (ForIteration kept) = iter_stands t kept
stands t (ForItems kept) = items_stands t kept
stands t (ForObject kept) = object_stands t kept

-- all rows, as a group
abbrev pub machine_group : Group Task Kept
machine_group = record { row = λ t task w. say w (task_of t task); stands = stands }

abbrev pub Begins : Task → World → World → Step Kept → Type 0
Begins = points.Begins machine_group

abbrev pub Resumes : Kept → Result Answer Fault → World → World → Step Kept → Type 0
Resumes = points.Resumes machine_group

abbrev pub of_kept : Kept → List Claim
of_kept (ForEval kept) = of_eval_kept kept
of_kept (ForAttribute kept) = of_attribute_kept kept
of_kept (ForDescriptor kept) = of_descriptor_kept kept
of_kept (ForCall kept) = of_call_kept kept
of_kept (ForClass kept) = of_class_kept kept
of_kept (ForOperator kept) = of_operator_kept kept
of_kept (ForCompare kept) = of_compare_kept kept
of_kept (ForNumber kept) = of_number_kept kept
of_kept (ForNative kept) = of_natives_kept kept
of_kept (ForIteration kept) = of_iter_kept kept
of_kept (ForItems kept) = of_items_kept kept
of_kept (ForObject kept) = of_object_kept kept

-- how many bodies are open in what is kept: only a call opens one
abbrev pub bodies_in : Kept → ℕ
bodies_in (ForCall kept) = bodies_of kept
bodies_in _ = 0

-- What a group's row says is what the row says among all.
use Rattle.vm_eval.proofs.Below.{ℕ, List, Ok, ap, refl, Result, Raised as Fault, Answer, Step, Ask, End, PlainWorld, PlainTask, ToEval, ToAttribute, ToDescriptor, ToCall, ToClass, ToOperator, ToCompare, ToProtocol, ToObject, Ended, Told, World, Reading, ended_of, Claim, of_step, of_task, of_kept, bodies_in, left_open, Leaves, LeavesOpen, leaves-among, leaves-open, eval_job, attribute_job, descriptor_job, call_job, class_job, operator_job, compare_job, object_job, protocol_job, eval_group, attribute_group, descriptor_group, call_group, class_group, operator_group, compare_group, number_group, iter_group, items_group, object_group, natives_group, Kept, ForEval, ForAttribute, ForDescriptor, ForCall, ForClass, ForOperator, ForCompare, ForNumber, ForIteration, ForItems, ForObject, ForNative, Branch, say, stands, machine_group, step_among, by_branch, branch_of, to_native, Resumes, Group, goes-among}
use Rattle.std.proofs.Common.{◌≡◌, ◌++◌}
use Rattle.py_node.specs.declared.protocol.ProtocolTask.{ProtocolTask}
use Rattle.row_kit.specs.Points as points
use Rattle.vm_eval.specs.declared.protocols.Branch.TheVariants as branch

-- a group of rows, among all: it is for its own tasks
pub record Among {T K : Type 0} (g : Group T K) (job : Reading → T → PlainTask) (for : K → Kept) (own : T → Type 0) : Type 0 where
  says : (t : Reading) (task : T) → own task → (u : PlainWorld) (more : Told) → say u (job t task) more ≡ g.row t task u more
  keeps : (t : Reading) (k : K) (r : Ended) (u : PlainWorld) (more : Told) → stands t (for k) r u more ≡ g.stands t k r u more

module _ {T K : Type 0} {g : Group T K} {job : Reading → T → PlainTask} {for : K → Kept} {own : T → Type 0} (a : Among g job for own) where
  -- a task of the group begins so among all
  pub begins-among : (task : T) (old new : World) (step : Step K) → own task → points.Begins g task old new step → points.Goes machine_group (λ t u. say u (job t task)) old new (step_among for step)
  begins-among task old new step is h = goes-among g machine_group for a.keeps (λ t. g.row t task) (λ t u. say u (job t task)) (λ t. a.says t task is) old new step h

  -- and what is kept of it goes on so
  pub resumes-among : (kept : K) (r : Result Answer Fault) (old new : World) (step : Step K) → points.Resumes g kept r old new step → Resumes (for kept) r old new (step_among for step)
  resumes-among kept r old new step h = goes-among g machine_group for a.keeps (λ t. g.stands t kept (ended_of r)) (λ t. stands t (for kept) (ended_of r)) (λ t. a.keeps t kept (ended_of r)) old new step h

-- what a group's row leaves is what the row leaves among all
module _ {K : Type 0} (for : K → Kept) (of_group : K → List Claim) (same : (k : K) → of_kept (for k) ≡ of_group k) where
  says-among : (step : Step K) → of_step of_kept (step_among for step) ≡ of_step of_group step
  says-among (Ask asked kept) = ap (λ cs. of_task asked ++ cs) (same kept)
  says-among (End r) = refl

  opens-among : (there : K → ℕ) → ((k : K) → bodies_in (for k) ≡ there k) → (step : Step K) → left_open bodies_in (step_among for step) ≡ left_open there step
  opens-among there opens (Ask asked kept) = opens kept
  opens-among there opens (End r) = refl

  none-open : ((k : K) → bodies_in (for k) ≡ 0) → (step : Step K) → left_open bodies_in (step_among for step) ≡ 0
  none-open opens (Ask asked kept) = opens kept
  none-open opens (End r) = refl

  -- of a group that begins no body
  pub leaves-as : (before : ℕ) (old new : World) (step : Step K) → before ≡ 0 → ((k : K) → bodies_in (for k) ≡ 0) → Leaves of_group old new (Ok step) → LeavesOpen of_kept bodies_in before old new (Ok (step_among for step))
  leaves-as before old new step none opens h = leaves-among of_kept bodies_in of_group before old new step (step_among for step) none (says-among step) (none-open opens step) h

  -- of a group that may begin one
  pub leaves-open-as : (there : K → ℕ) (before : ℕ) (old new : World) (step : Step K) → ((k : K) → bodies_in (for k) ≡ there k) → LeavesOpen of_group there before old new (Ok step) → LeavesOpen of_kept bodies_in before old new (Ok (step_among for step))
  leaves-open-as there before old new step opens h = leaves-open of_kept bodies_in of_group there before before old new step (step_among for step) refl (says-among step) (opens-among there opens step) h

-- most groups are for all their tasks
abbrev pub Any : {T : Type 0} → T → Type 0
Any task = Unit {0}

pub eval-among : Among eval_group (λ t task. ToEval (eval_job t task)) ForEval Any
unfolding say stands
eval-among = record { says = λ t task own u more. refl; keeps = λ t k r u more. refl }

pub attribute-among : Among attribute_group (λ t task. ToAttribute (attribute_job t task)) ForAttribute Any
unfolding say stands
attribute-among = record { says = λ t task own u more. refl; keeps = λ t k r u more. refl }

pub descriptor-among : Among descriptor_group (λ t task. ToDescriptor (descriptor_job t task)) ForDescriptor Any
unfolding say stands
descriptor-among = record { says = λ t task own u more. refl; keeps = λ t k r u more. refl }

pub call-among : Among call_group (λ t task. ToCall (call_job t task)) ForCall Any
unfolding say stands
call-among = record { says = λ t task own u more. refl; keeps = λ t k r u more. refl }

pub class-among : Among class_group (λ t task. ToClass (class_job t task)) ForClass Any
unfolding say stands
class-among = record { says = λ t task own u more. refl; keeps = λ t k r u more. refl }

pub operator-among : Among operator_group (λ t task. ToOperator (operator_job t task)) ForOperator Any
unfolding say stands
operator-among = record { says = λ t task own u more. refl; keeps = λ t k r u more. refl }

pub compare-among : Among compare_group (λ t task. ToCompare (compare_job task)) ForCompare Any
unfolding say stands
compare-among = record { says = λ t task own u more. refl; keeps = λ t k r u more. refl }

pub object-among : Among object_group (λ t task. ToObject (object_job task)) ForObject Any
unfolding say stands
object-among = record { says = λ t task own u more. refl; keeps = λ t k r u more. refl }

pub native-among : Among natives_group (λ t job. to_native (job t)) ForNative Any
unfolding say stands
native-among = record { says = λ t task own u more. refl; keeps = λ t k r u more. refl }

-- the tasks of a branch
abbrev pub On : Branch → ProtocolTask → Type 0
On b task = branch_of (protocol_job task) ≡ b

protocol-says : (b : Branch) (task : ProtocolTask) → On b task → (u : PlainWorld) (more : Told) → say u (ToProtocol (protocol_job task)) more ≡ by_branch u b (protocol_job task) more
unfolding say
protocol-says b task is u more = ap (λ b. by_branch u b (protocol_job task) more) is

pub number-among : Among number_group (λ t task. ToProtocol (protocol_job task)) ForNumber (On branch.Numbers)
unfolding stands
number-among = record { says = λ t. protocol-says branch.Numbers; keeps = λ t k r u more. refl }

pub iter-among : Among iter_group (λ t task. ToProtocol (protocol_job task)) ForIteration (On branch.Iterations)
unfolding stands
iter-among = record { says = λ t. protocol-says branch.Iterations; keeps = λ t k r u more. refl }

pub items-among : Among items_group (λ t task. ToProtocol (protocol_job task)) ForItems (On branch.Items)
unfolding stands
items-among = record { says = λ t. protocol-says branch.Items; keeps = λ t k r u more. refl }

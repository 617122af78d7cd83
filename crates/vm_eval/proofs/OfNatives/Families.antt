-- What a family of natives says is what they say among all.
use Rattle.vm_eval.proofs.Below.{◌∙◌, [], refl, sym, ap, subst, Result, Raised as Fault, NativeEntry, Answer, Task, Step, End, PlainWorld, Ended, Told, World, Reading, bindings, plain, EndsAs, item_group, item_job_say, conversion_group, conversion_job_say, compared_group, compared_job_say, repeat_group, repeat_job_say, detail_group, detail_job_say, native_group, asking_job_say, Family, NativesKept, ForConversions, ForComparisons, ForRepeats, ForDetails, ForCalls, by_family, family_of, native_by, native_job_say, kept_among, native_job, natives_group, natives_stands, Group, ended_of, ends-follow, goes-among, read-follows}
use Rattle.std.proofs.Common.{◌≡◌}
use Rattle.std.specs.Prelude.{List}
use Rattle.py_node.specs.declared.refs.PyObjectRef.{PyObjectRef}
use Rattle.py_node.specs.declared.refs.PyStrInterned.{PyStrInterned}
use Rattle.py_node.specs.declared.task.Task.TheVariants as task
use Rattle.row_kit.specs.Points as points
use Rattle.std.specs.Global.{Vec}
use Rattle.vm_eval.specs.declared.natives.family.Family.TheVariants as family
use Rattle.vm_eval.specs.declared.natives.NativesKept.TheVariants.{ForItems}
use Rattle.vm_eval.specs.OfNatives.Rows.{Begins, Resumes}

-- a family of natives, among all
pub record AmongNatives {K : Type 0} (f : Family) (g : Group Task K) (for : K → NativesKept) : Type 0 where
  says : (t : Reading) (n : NativeEntry) (args : Vec PyObjectRef) (kw : Vec (PyStrInterned × PyObjectRef)) (u : PlainWorld) (more : Told) → g.row t (task.Native n args kw) u more ≡ by_family u f n args.items (bindings t kw.items) more
  keeps : (t : Reading) (k : K) (r : Ended) (u : PlainWorld) (more : Told) → natives_stands t (for k) r u more ≡ g.stands t k r u more

module _ {K : Type 0} {f : Family} {g : Group Task K} {for : K → NativesKept} (a : AmongNatives f g for) where
  -- a native of the family begins so among all
  pub family-begins : (n : NativeEntry) (args : Vec PyObjectRef) (kw : Vec (PyStrInterned × PyObjectRef)) (old new : World) (step : Step K) (next : Step NativesKept) → family_of n ≡ f → next ≡ kept_among for step → points.Begins g (task.Native n args kw) old new step → Begins n args.items kw.items old new next
  unfolding native_job_say
  family-begins n args kw old new step next is same h =
      let job = native_job n args.items kw.items in
      subst (Begins n args.items kw.items old new) (sym same)
      (goes-among g natives_group for a.keeps (λ t. g.row t (task.Native n args kw)) (λ t u. native_job_say u (job t))
      (λ t u more. ap (λ f. by_family u f n args.items (bindings t kw.items) more) is ∙ sym (a.says t n args kw u more)) old new step h)

  -- and what is kept of it goes on so
  pub family-resumes : (full : NativesKept) (kept : K) (r : Result Answer Fault) (old new : World) (step : Step K) (next : Step NativesKept) → full ≡ for kept → next ≡ kept_among for step → points.Resumes g kept r old new step → Resumes full r old new next
  family-resumes full kept r old new step next is same h =
      subst (λ full. Resumes full r old new next) (sym is) (subst (Resumes (for kept) r old new) (sym same)
      (goes-among g natives_group for a.keeps (λ t. g.stands t kept (ended_of r)) (λ t. natives_stands t (for kept) (ended_of r)) (λ t. a.keeps t kept (ended_of r)) old new step h))

pub items-family : AmongNatives family.Items item_group ForItems
unfolding item_job_say
items-family = record { says = λ t n args kw u more. refl; keeps = λ t k r u more. refl }

pub conversions-family : AmongNatives family.Conversions conversion_group ForConversions
unfolding conversion_job_say
conversions-family = record { says = λ t n args kw u more. refl; keeps = λ t k r u more. refl }

pub comparisons-family : AmongNatives family.Comparisons compared_group ForComparisons
unfolding compared_job_say
comparisons-family = record { says = λ t n args kw u more. refl; keeps = λ t k r u more. refl }

pub repeats-family : AmongNatives family.Repeats repeat_group ForRepeats
unfolding repeat_job_say
repeats-family = record { says = λ t n args kw u more. refl; keeps = λ t k r u more. refl }

pub details-family : AmongNatives family.Details detail_group ForDetails
unfolding detail_job_say
details-family = record { says = λ t n args kw u more. refl; keeps = λ t k r u more. refl }

pub calls-family : AmongNatives family.Calls native_group ForCalls
unfolding asking_job_say
calls-family = record { says = λ t n args kw u more. refl; keeps = λ t k r u more. refl }

-- a native that asks nothing ends so
pub plain-begins : (n : NativeEntry) (args : List PyObjectRef) (kw : List (PyStrInterned × PyObjectRef)) (old new : World) (r : Result Answer Fault) → family_of n ≡ family.Plain → EndsAs (λ t u. native_by u n args (bindings t kw)) old new r → Begins n args kw old new (End r)
unfolding native_job_say
plain-begins n args kw old new r is h =
    let row = λ (t : Reading). natives_group.row t (native_job n args kw) in
    read-follows natives_group row (λ t u. row t u []) old new (λ t u. native_by u n args (bindings t kw)) (End r) (λ t q. ap (λ f. by_family (plain t old) f n args (bindings t kw) []) is)
    (ends-follow natives_group row (λ t u. native_by u n args (bindings t kw)) old new r h)

-- What the contracts of natives say.
use Rattle.vm_eval.specs.Below.{List, Result, PyObjectRef, PyStrInterned, Raised as Fault, NativeEntry, Answer, Step, Ended, World, Reading, bindings, Claim, asking_stands, of_native_kept, item_stands, of_item_kept, conversion_stands, of_conversion_kept, compared_stands, of_compared_kept, repeat_stands, of_repeat_kept, detail_stands, of_detail_kept}
use Rattle.row_kit.specs.Points as points
use Rattle.row_kit.specs.Points.{Group, Point, among}
use Rattle.vm_eval.specs.declared.natives.NativesKept.{NativesKept}
use Rattle.vm_eval.specs.declared.natives.NativesKept.TheVariants.{ForItems, ForConversions, ForComparisons, ForRepeats, ForDetails, ForCalls}
use Rattle.vm_eval.specs.OfNatives.Say.{NativeJob, native_job_say}

-- what is done with the answer where this is kept
abbrev pub natives_stands : Reading → NativesKept → Ended → Point
natives_stands t (ForItems kept) = item_stands t kept
natives_stands t (ForConversions kept) = conversion_stands t kept
natives_stands t (ForComparisons kept) = compared_stands t kept
natives_stands t (ForRepeats kept) = repeat_stands t kept
natives_stands t (ForDetails kept) = detail_stands t kept
natives_stands t (ForCalls kept) = asking_stands t kept

-- what is said of what is kept
abbrev pub of_natives_kept : NativesKept → List Claim
of_natives_kept (ForItems kept) = of_item_kept kept
of_natives_kept (ForConversions kept) = of_conversion_kept kept
of_natives_kept (ForComparisons kept) = of_compared_kept kept
of_natives_kept (ForRepeats kept) = of_repeat_kept kept
of_natives_kept (ForDetails kept) = of_detail_kept kept
of_natives_kept (ForCalls kept) = of_native_kept kept

-- what is kept, among all that natives keep
abbrev pub kept_among : {K : Type 0} → (K → NativesKept) → Step K → Step NativesKept
kept_among for step = among for step

-- a native with its arguments and keywords
abbrev pub native_job : NativeEntry → List PyObjectRef → List (PyStrInterned × PyObjectRef) → Reading → NativeJob
native_job n args kw t = record { entry = n; args = args; kw = bindings t kw }

-- the group: the row of a native, and what is done with an answer
abbrev pub natives_group : Group (Reading → NativeJob) NativesKept
natives_group = record { row = λ t job w. native_job_say w (job t); stands = natives_stands }

-- the first step of a native
abbrev pub Begins : NativeEntry → List PyObjectRef → List (PyStrInterned × PyObjectRef) → World → World → Step NativesKept → Type 0
Begins n args kw = points.Begins natives_group (native_job n args kw)

-- the step at an answer
abbrev pub Resumes : NativesKept → Result Answer Fault → World → World → Step NativesKept → Type 0
Resumes = points.Resumes natives_group

-- What was read stands in what is decided.
use Rattle.proto_call.proofs.Below.{List, [], Ok, Err, refl, sym, subst, Raised as Fault, Answer, End, PyObjectRef, ObjectNative, Step, OutOfMemory, PlainWorld, DoObject, Said, World, Reading, Reads, plain, EndsAs, Steps, Follows, Point, CallKept, call_job_say, call_group, call_stands, Closes, Does, ends-follow}
use Rattle.std.proofs.Common.{◌≡◌, Result, IfOk}
use Rattle.proto_call.specs.Below.{TypeNative, Bindings, ended_of, named_end}
use Rattle.proto_call.specs.Say.{object_by}
use Rattle.proto_call.specs.ObjectNatives.{object_native_say}
use Rattle.proto_call.specs.ClassMake.Say.{type_by}
use Rattle.proto_call.specs.ClassMake.TypeNatives.{type_native_say}
use Rattle.proto_call.specs.Rows.{Resumes}
use Rattle.proto_call.specs.declared.CallKept.TheVariants.{Named}
use Rattle.py_node.specs.declared.entry.ObjectNative.TheVariants as object
use Rattle.py_node.specs.declared.entry.TypeNative.TheVariants as type

-- a decision by the value that was read is one by what the plain world has
pub by-read : {A : Type 0} (row : Reading → Point) (F : Reading → PlainWorld → A → Said) (read : Reading → PlainWorld → A) (value : A) (old new : World) (step : Step CallKept) → ((t : Reading) → Reads t old → read t (plain t old) ≡ value) → Follows call_group row (λ t u. F t u value) old new step → Follows call_group row (λ t u. F t u (read t u)) old new step
by-read row F read value old new step r f = λ t q.
    let h = f t q in
    (h.0, subst (λ a. Steps (call_stands t) t (row t) (F t (plain t old) a) step new) (sym (r t h.0)) h.1)

-- a decision in a world that stands for the same plain world
pub from-same : (row : Reading → Point) (F : Reading → PlainWorld → Said) (old mid new : World) (step : Step CallKept) → ((t : Reading) → plain t mid ≡ plain t old) → ((t : Reading) → Reads t mid → Reads t old) → Follows call_group row F mid new step → Follows call_group row F old new step
from-same row F old mid new step same reads f = λ t q.
    let h = f t q in
    (reads t h.0, subst (λ u. Steps (call_stands t) t (row t) (F t u) step new) (same t) h.1)

-- the row of such a native
abbrev of_native : ObjectNative → List PyObjectRef → (Reading → Bindings) → Reading → Point
of_native n args kw = λ t u. call_job_say u (DoObject n args (kw t))

-- what a native of `object` does that ends so
pub does-after : (n : ObjectNative) (F : Reading → PlainWorld → Said) (old mid new : World) (r : Result (Step CallKept) OutOfMemory) → ((t : Reading) → Reads t mid → Reads t old) → ((t : Reading) → plain t mid ≡ plain t old) → IfOk r (λ step. Closes F mid new step) → IfOk r (λ step. Does n F old new step)
does-after n F old mid new (Ok step) reads same h = λ args kw. from-same (of_native n args kw) F old mid new step same reads (h (of_native n args kw))
does-after n F old mid new (Err e) reads same h = tt

pub does : (n : ObjectNative) (F : Reading → PlainWorld → Said) (old new : World) (step : Step CallKept) → Closes F old new step → Does n F old new step
does n F old new step h = λ args kw. h (of_native n args kw)

-- what a native of `object` does that asks no task
pub ends-does : (n : ObjectNative) (F : Reading → PlainWorld → Said) (old new : World) (r : Result Answer Fault) → EndsAs F old new r → Does n F old new (End r)
ends-does n F old new r h = λ args kw. ends-follow call_group (of_native n args kw) F old new r h

-- what such a native says
pub object-ends : (u : PlainWorld) (n : ObjectNative) (args : List PyObjectRef) (kw : Bindings) → (n ≡ object.New → ⊥) → (n ≡ object.Init → ⊥) → (n ≡ object.InitSubclass → ⊥) → (n ≡ object.GetAttribute → ⊥) → (n ≡ object.SetAttr → ⊥) → (n ≡ object.DelAttr → ⊥) → (n ≡ object.Str → ⊥) → (n ≡ object.Format → ⊥) → (n ≡ object.Dir → ⊥) → (n ≡ object.Ne → ⊥) → object_by u n args kw ≡ object_native_say u n args kw
object-ends u object.New args kw a b c d e f g h i j = absurd (a refl)
object-ends u object.Init args kw a b c d e f g h i j = absurd (b refl)
object-ends u object.Repr args kw a b c d e f g h i j = refl
object-ends u object.Str args kw a b c d e f g h i j = absurd (g refl)
object-ends u object.Hash args kw a b c d e f g h i j = refl
object-ends u object.Compare args kw a b c d e f g h i j = refl
object-ends u object.Eq args kw a b c d e f g h i j = refl
object-ends u object.Ne args kw a b c d e f g h i j = absurd (j refl)
object-ends u object.Lt args kw a b c d e f g h i j = refl
object-ends u object.Le args kw a b c d e f g h i j = refl
object-ends u object.Ge args kw a b c d e f g h i j = refl
object-ends u object.Gt args kw a b c d e f g h i j = refl
object-ends u object.GetAttribute args kw a b c d e f g h i j = absurd (d refl)
object-ends u object.SetAttr args kw a b c d e f g h i j = absurd (e refl)
object-ends u object.DelAttr args kw a b c d e f g h i j = absurd (f refl)
object-ends u object.Format args kw a b c d e f g h i j = absurd (h refl)
object-ends u object.Dir args kw a b c d e f g h i j = absurd (i refl)
object-ends u object.SubclassHook args kw a b c d e f g h i j = refl
object-ends u object.InitSubclass args kw a b c d e f g h i j = absurd (c refl)

-- what a native of `type` says that asks no task
pub type-ends : (u : PlainWorld) (n : TypeNative) (args : List PyObjectRef) (kw : Bindings) → (n ≡ type.New → ⊥) → (n ≡ type.GetAttribute → ⊥) → (n ≡ type.SetAttr → ⊥) → (n ≡ type.DelAttr → ⊥) → (n ≡ type.Call → ⊥) → type_by u n args kw ≡ type_native_say u n args kw
type-ends u type.New args kw a b c d e = absurd (a refl)
type-ends u type.Call args kw a b c d e = absurd (e refl)
type-ends u type.GetAttribute args kw a b c d e = absurd (b refl)
type-ends u type.SetAttr args kw a b c d e = absurd (c refl)
type-ends u type.DelAttr args kw a b c d e = absurd (d refl)
type-ends u type.Repr args kw a b c d e = refl
type-ends u type.InstanceCheck args kw a b c d e = refl
type-ends u type.SubclassCheck args kw a b c d e = refl
type-ends u type.Dir args kw a b c d e = refl
type-ends u type.Subclasses args kw a b c d e = refl
type-ends u type.Mro args kw a b c d e = refl
type-ends u type.Prepare args kw a b c d e = refl
type-ends u type.SubclassHook args kw a b c d e = refl

-- what was answered, told as an object
pub told-resumes : (r : Result Answer Fault) (old new : World) (s : Result Answer Fault) → EndsAs (λ t u. named_end u (ended_of r) []) old new s → Resumes Named r old new (End s)
told-resumes r old new s h = ends-follow call_group (λ t. call_stands t Named (ended_of r)) (λ t u. named_end u (ended_of r) []) old new s h

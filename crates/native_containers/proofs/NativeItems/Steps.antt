-- How the steps of these natives follow from what their parts do.
use Rattle.native_containers.proofs.Below.{◌∙◌, List, [], Result, Ok, Err, IfOk, sym, subst, Raised as Fault, NativeEntry, OutOfMemory, PyStrInterned, PyObjectRef, Answer, Task, Step, Ask, End, PlainWorld, PlainTask, Bindings, Said, Asks, Ends, Told, Answered, ToNative, Row, World, Reading, Reads, bindings, plain, task_of, ended_of, EndsAs, Kind, with_lone, with_own_and, with_own_and_two, ItemKept, Does, Enters, item_stands, item_job_say, ap, Ended, item_group, ends-follow, asks-follow, read-follows}
use Rattle.std.proofs.Common.{◌≡◌, ◌∷◌, ◌++◌}
use Rattle.native_containers.specs.NativeItems.Rows.{Resumes}
use Rattle.row_kit.specs.Points.{Point, Steps}
use Rattle.native_containers.proofs.NativeItems.Arguments.{lone-arguments, two-arguments, three-arguments}

-- the row of a native
abbrev of_native : NativeEntry → List PyObjectRef → (Reading → Bindings) → Reading → Point
of_native n args kw = λ t u. item_job_say u (ToNative n args (kw t))

-- a native ends at once as is said
pub ends-does : (n : NativeEntry) (args : List PyObjectRef) (said other : Reading → PlainWorld → Said) (old new : World) (r : Result Answer Fault) → ((t : Reading) → said t (plain t old) ≡ other t (plain t old)) → EndsAs other old new r → Does n args said old new (End r)
ends-does n args said other old new r same h = λ kw.
    ends-follow item_group (of_native n args kw) said old new r (λ t q. let e = h t q in (e.0, same t ∙ e.1))

-- a native asks, in the world as it is
pub asks-does : (n : NativeEntry) (args : List PyObjectRef) (said : Reading → PlainWorld → Said) (w : World) (learnt : Told) (asked : Task) (other : PlainTask) (kept : ItemKept) → ((t : Reading) → said t (plain t w) ≡ Asks (plain t w) learnt other) → ((t : Reading) → Reads t w → task_of t asked ≡ other) → ((t : Reading) (kw : Bindings) (u : PlainWorld) (r : Ended) (more : Told) → item_job_say u (ToNative n args kw) (learnt ++ Answered r ∷ more) ≡ item_stands t kept r u more) → Does n args said w w (Ask asked kept)
asks-does n args said w learnt asked other kept same task alike = λ kw.
    asks-follow item_group (of_native n args kw) said w w learnt asked kept (λ t q. (q, same t ∙ ap (Asks (plain t w) learnt) (sym (task t q)))) (λ t. alike t (kw t))

-- what is refused
pub refused-enters : (n : NativeEntry) (args : List PyObjectRef) (kw : List (PyStrInterned × PyObjectRef)) (w : World) (x : Fault) → ((t : Reading) → item_job_say (plain t w) (ToNative n args (bindings t kw)) [] ≡ Ends (plain t w) (Err x)) → Enters n args kw w w (End (Err x))
refused-enters n args kw w x says =
    ends-follow item_group (of_native n args (λ t. bindings t kw)) (λ t u. item_job_say u (ToNative n args (bindings t kw)) []) w w (Err x) (λ t q. (q, says t))

-- what is taken is so many arguments, and what follows is said of these
enters : (n : NativeEntry) (args taken : List PyObjectRef) (kw : List (PyStrInterned × PyObjectRef)) (said : Reading → PlainWorld → Said) (old new : World) (step : Step ItemKept) → ((t : Reading) → args ≡ taken) → ((t : Reading) → item_job_say (plain t old) (ToNative n args (bindings t kw)) [] ≡ said t (plain t old)) → Does n taken said old new step → Enters n args kw old new step
enters n args taken kw said old new step same says h = λ t q.
    let e = h (λ t. bindings t kw) t q in
    let now = subst (λ s. Steps (item_stands t) t (λ u. item_job_say u (ToNative n taken (bindings t kw))) s step new) (sym (says t)) e.1 in
    (e.0, subst (λ rs. Steps (item_stands t) t (λ u. item_job_say u (ToNative n rs (bindings t kw))) (item_job_say (plain t old) (ToNative n args (bindings t kw)) []) step new) (sym (same t)) now)

enters-ok : (n : NativeEntry) (args taken : List PyObjectRef) (kw : List (PyStrInterned × PyObjectRef)) (said : Reading → PlainWorld → Said) (old new : World) (r : Result (Step ItemKept) OutOfMemory) → ((t : Reading) → args ≡ taken) → ((t : Reading) → item_job_say (plain t old) (ToNative n args (bindings t kw)) [] ≡ said t (plain t old)) → IfOk r (λ step. Does n taken said old new step) → IfOk r (λ step. Enters n args kw old new step)
enters-ok n args taken kw said old new (Ok step) same says h = enters n args taken kw said old new step same says h
enters-ok n args taken kw said old new (Err e) same says h = tt

-- a native of one, two or three arguments, of which the first is of a kind
pub one-enters : (n : NativeEntry) (k : Kind) (row : PlainWorld → PyObjectRef → Row) → ((u : PlainWorld) (args : List PyObjectRef) (kw : Bindings) → item_job_say u (ToNative n args kw) [] ≡ with_lone k u args kw (λ o. row u o [])) → (args : List PyObjectRef) (kw : List (PyStrInterned × PyObjectRef)) (o : PyObjectRef) (old new : World) (r : Result (Step ItemKept) OutOfMemory) → ((t : Reading) (go : PyObjectRef → Said) → with_lone k (plain t old) args (bindings t kw) go ≡ go o) → IfOk r (λ step. Does n (o ∷ []) (λ t u. row u o []) old new step) → IfOk r (λ step. Enters n args kw old new step)
one-enters n k row is args kw o old new r given h =
    enters-ok n args (o ∷ []) kw (λ t u. row u o []) old new r
    (λ t. lone-arguments k (plain t old) args (bindings t kw) o (given t))
    (λ t. is (plain t old) args (bindings t kw) ∙ given t (λ o. row (plain t old) o [])) h

pub two-enters : (n : NativeEntry) (k : Kind) (row : PlainWorld → PyObjectRef → PyObjectRef → Row) → ((u : PlainWorld) (args : List PyObjectRef) (kw : Bindings) → item_job_say u (ToNative n args kw) [] ≡ with_own_and k u args kw (λ o a. row u o a [])) → (args : List PyObjectRef) (kw : List (PyStrInterned × PyObjectRef)) (o a : PyObjectRef) (old new : World) (r : Result (Step ItemKept) OutOfMemory) → ((t : Reading) (go : PyObjectRef → PyObjectRef → Said) → with_own_and k (plain t old) args (bindings t kw) go ≡ go o a) → IfOk r (λ step. Does n (o ∷ a ∷ []) (λ t u. row u o a []) old new step) → IfOk r (λ step. Enters n args kw old new step)
two-enters n k row is args kw o a old new r given h =
    enters-ok n args (o ∷ a ∷ []) kw (λ t u. row u o a []) old new r
    (λ t. two-arguments k (plain t old) args (bindings t kw) o a (given t))
    (λ t. is (plain t old) args (bindings t kw) ∙ given t (λ o a. row (plain t old) o a [])) h

pub three-enters : (n : NativeEntry) (k : Kind) (row : PlainWorld → PyObjectRef → PyObjectRef → PyObjectRef → Row) → ((u : PlainWorld) (args : List PyObjectRef) (kw : Bindings) → item_job_say u (ToNative n args kw) [] ≡ with_own_and_two k u args kw (λ o a v. row u o a v [])) → (args : List PyObjectRef) (kw : List (PyStrInterned × PyObjectRef)) (o a v : PyObjectRef) (old new : World) (r : Result (Step ItemKept) OutOfMemory) → ((t : Reading) (go : PyObjectRef → PyObjectRef → PyObjectRef → Said) → with_own_and_two k (plain t old) args (bindings t kw) go ≡ go o a v) → IfOk r (λ step. Does n (o ∷ a ∷ v ∷ []) (λ t u. row u o a v []) old new step) → IfOk r (λ step. Enters n args kw old new step)
three-enters n k row is args kw o a v old new r given h =
    enters-ok n args (o ∷ a ∷ v ∷ []) kw (λ t u. row u o a v []) old new r
    (λ t. three-arguments k (plain t old) args (bindings t kw) o a v (given t))
    (λ t. is (plain t old) args (bindings t kw) ∙ given t (λ o a v. row (plain t old) o a v [])) h

-- a native that was kept ends so at an answer
pub ends-resumes : (kept : ItemKept) (answer : Result Answer Fault) (said : Reading → PlainWorld → Said) (old new : World) (r : Result Answer Fault) → ((t : Reading) → item_stands t kept (ended_of answer) (plain t old) [] ≡ said t (plain t old)) → EndsAs said old new r → Resumes kept answer old new (End r)
ends-resumes kept answer said old new r says h =
    let row = λ (t : Reading). item_stands t kept (ended_of answer) in
    ends-follow item_group row (λ t u. row t u []) old new r (λ t q. let e = h t q in (e.0, says t ∙ e.1))

-- what is said is the same as something else
pub same-does-ok : (n : NativeEntry) (args : List PyObjectRef) (said other : Reading → PlainWorld → Said) (old new : World) (r : Result (Step ItemKept) OutOfMemory) → ((t : Reading) → said t (plain t old) ≡ other t (plain t old)) → IfOk r (λ step. Does n args other old new step) → IfOk r (λ step. Does n args said old new step)
same-does-ok n args said other old new (Ok step) same h = λ kw. read-follows item_group (of_native n args kw) said old new other step (λ t q. same t) (h kw)
same-does-ok n args said other old new (Err e) same h = tt

-- a native asks, having made an object
pub made-does : (n : NativeEntry) (args : List PyObjectRef) (said : Reading → PlainWorld → Said) (old new : World) (asked : Task) (other : Reading → PlainTask) (kept : ItemKept) → ((t : Reading) → said t (plain t old) ≡ Asks (plain t new) [] (other t)) → ((t : Reading) → Reads t new → Reads t old) → ((t : Reading) → Reads t new → task_of t asked ≡ other t) → ((t : Reading) (kw : Bindings) (u : PlainWorld) (r : Ended) (more : Told) → item_job_say u (ToNative n args kw) (Answered r ∷ more) ≡ item_stands t kept r u more) → Does n args said old new (Ask asked kept)
made-does n args said old new asked other kept same reads task alike = λ kw.
    asks-follow item_group (of_native n args kw) said old new [] asked kept (λ t q. (reads t q, same t ∙ ap (Asks (plain t new) []) (sym (task t q)))) (λ t. alike t (kw t))

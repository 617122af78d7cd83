-- How the steps of natives that ask follow from what their parts do.
use Rattle.proto_attr.proofs.Below.{◌∙◌, Bindings, List, [], Ok, Err, IfOk, refl, sym, ap, Raised as Fault, NativeEntry, OutOfMemory, Get, Doc, known_text, PyTypeRef, PyStrInterned, PyObjectRef, Answer, Task, Step, Ask, End, PlainWorld, Said, Asks, Ends, Ended, Told, ReadObjects, DoGetAttr, DoSuperCheck, ToAttribute, ToDescriptor, ToNative, ref, World, Reading, Reads, bindings, plain, task_of, ended_of, EndsAs, Goes, StepsAs, class_method_by, start_asked, super_bound, none, named_end, Value, AfterDoc, Answering, Binding, NativeKept, ClassMethod, Super, Way, Binds, Marked, Wraps, Wrapper, asking_job_say, by_way, none_end, none_said, way_of, way_rest, answering, asking_stands, marking, native_group, asks-follow, ends-follow, read-follows}
use Rattle.std.proofs.Common.{◌≡◌, ◌∷◌, ◌++◌, Result}
use Rattle.py_node.specs.Stops.{Ended as Stopped}
use Rattle.py_node.specs.declared.stop.Stop.{Stop}
use Rattle.py_node.specs.declared.stop.Stop.TheVariants as stop
use Rattle.proto_attr.specs.ProtoDescr.Rows as descriptors
use Rattle.proto_attr.specs.declared.native_calls.NativeKept.TheVariants.{Pass, AfterGet}
use Rattle.proto_attr.specs.declared.native_calls.NativeKept.TheVariants as kept
use Rattle.proto_attr.specs.NativeCalls.Asks.{Does, Resumes, passed}
use Rattle.proto_attr.proofs.ProtoDescr.Steps.{descriptor-ends}
use Rattle.row_kit.specs.Points.{Point}

-- a native that goes on with a step that keeps nothing, where a class method was given `__get__` of what it wraps
pub passed-resumes : (k f : PyObjectRef) (r : Result Answer Fault) (old new : World) (step : Step (Unit {0})) → StepsAs (λ t w. class_method_by w k f (ended_of r)) old new step → Resumes (AfterGet k f) r old new (passed step)
passed-resumes k f r old new (Ask asked kept) h = asks-follow native_group (λ t. asking_stands t (AfterGet k f) (ended_of r)) (λ t w. class_method_by w k f (ended_of r)) old new [] asked Pass h (λ t u s more. refl)
passed-resumes k f r old new (End s) h = ends-follow native_group (λ t. asking_stands t (AfterGet k f) (ended_of r)) (λ t w. class_method_by w k f (ended_of r)) old new s h

-- a `super` that goes on with its class and the object, given where it starts
pub super-resumes : (c : PyTypeRef) (o : PyObjectRef) (r : Result Answer Fault) (old new : World) (s : Result Answer Fault) → descriptors.EndsSaid (λ t w. super_bound w (ref c.0) o (ended_of r)) old new s → Resumes (Binding c o) r old new (End s)
super-resumes c o r old new s h =
    let said = λ (t : Reading). λ (w : PlainWorld). super_bound w (ref c.0) o (ended_of r) in
    ends-follow native_group (λ t. asking_stands t (Binding c o) (ended_of r)) said old new s (descriptor-ends said old new s h)

-- a native that goes on where nothing is kept, and ends as it was told
pub told-resumes : (r : Result Answer Fault) (old new : World) (s : Result Answer Fault) → EndsAs (λ t u. named_end u (ended_of r) []) old new s → Resumes Pass r old new (End s)
told-resumes r old new s h = ends-follow native_group (λ t. asking_stands t Pass (ended_of r)) (λ t u. named_end u (ended_of r) []) old new s h

-- what is said is what is said of what it takes

pub taken-descriptor : (said other : Reading → PlainWorld → Said) (old new : World) (r : Result Answer Stop) → ((t : Reading) → said t (plain t old) ≡ other t (plain t old)) → Stopped r (descriptors.EndsSaid other old new) → Stopped r (EndsAs said old new)
taken-descriptor said other old new (Ok x) same h = λ t q.
    let e = descriptor-ends other old new (Ok x) h t q in (e.0, same t ∙ e.1)
taken-descriptor said other old new (Err (stop.Raised x)) same h = λ t q.
    let e = descriptor-ends other old new (Err x) h t q in (e.0, same t ∙ e.1)
taken-descriptor said other old new (Err stop.OutOfMemory) same h = tt

pub taken-steps : (said other : Reading → PlainWorld → Said) (old new : World) (r : Result (Step (Unit {0})) OutOfMemory) → ((t : Reading) → said t (plain t old) ≡ other t (plain t old)) → IfOk r (λ x. StepsAs other old new x) → IfOk r (λ x. StepsAs said old new x)
taken-steps said other old new (Ok x) same h = λ t q.
    let e = h t q in (e.0, same t ∙ e.1)
taken-steps said other old new (Err x) same h = tt

-- the row of a native
abbrev of_native : NativeEntry → List PyObjectRef → (Reading → Bindings) → Reading → Point
of_native n args kw = λ t u. asking_job_say u (ToNative n args (kw t))

-- a native that ends at once
pub ends-does : (n : NativeEntry) (said : Reading → PlainWorld → Said) (w : World) (r : Result Answer Fault) → ((t : Reading) → said t (plain t w) ≡ Ends (plain t w) (ended_of r)) → Does n said w w (End r)
ends-does n said w r same = λ args kw. ends-follow native_group (of_native n args kw) said w w r (λ t q. (q, same t))

-- and one that changes the world before it ends
pub ended-does : (n : NativeEntry) (said : Reading → PlainWorld → Said) (old new : World) (r : Result Answer Fault) → EndsAs said old new r → Does n said old new (End r)
ended-does n said old new r h = λ args kw. ends-follow native_group (of_native n args kw) said old new r h

-- a class method that asks for `__get__` of what it wraps
pub class-does : (n : NativeEntry) (said : Reading → PlainWorld → Said) (w : World) (k f : PyObjectRef) (asked : Task) → way_of n ≡ Binds ClassMethod → ((t : Reading) → said t (plain t w) ≡ Asks (plain t w) (ReadObjects (k ∷ f ∷ []) ∷ []) (ToAttribute (DoGetAttr f (known_text Get)))) → ((t : Reading) → Reads t w → task_of t asked ≡ ToAttribute (DoGetAttr f (known_text Get))) → Does n said w w (Ask asked (AfterGet k f))
unfolding asking_job_say
class-does n said w k f asked way same task = λ args kw.
    asks-follow native_group (of_native n args kw) said w w (ReadObjects (k ∷ f ∷ []) ∷ []) asked (AfterGet k f) (λ t q. (q, same t ∙ ap (Asks (plain t w) (ReadObjects (k ∷ f ∷ []) ∷ [])) (sym (task t q))))
    (λ t u s more. ap (λ y. way_rest u (k ∷ f ∷ []) y s more) way)

-- a `super` that is told where to start for an object
pub super-does : (n : NativeEntry) (said : Reading → PlainWorld → Said) (w : World) (m : PyObjectRef) (c : PyTypeRef) (o : PyObjectRef) (asked : Task) → way_of n ≡ Binds Super → ((t : Reading) → said t (plain t w) ≡ start_asked (plain t w) m c.0 o) → ((t : Reading) → task_of t asked ≡ ToDescriptor (DoSuperCheck c.0 o)) → Does n said w w (Ask asked (Binding c o))
unfolding asking_job_say
super-does n said w m c o asked way same task = λ args kw.
    asks-follow native_group (of_native n args kw) said w w (ReadObjects (m ∷ ref c.0 ∷ o ∷ []) ∷ []) asked (Binding c o) (λ t q. (q, same t ∙ ap (Asks (plain t w) (ReadObjects (m ∷ ref c.0 ∷ o ∷ []) ∷ [])) (sym (task t))))
    (λ t u s more. ap (λ y. way_rest u (m ∷ ref c.0 ∷ o ∷ []) y s more) way)

-- a native that asks what it ends as, where its way reads nothing before that
pub passed-does : (n : NativeEntry) (said : Reading → PlainWorld → Said) (way : Way) (old new : World) (step : Step (Unit {0})) → way_of n ≡ way → ((u : PlainWorld) (s : Ended) (more : Told) → way_rest u [] way s more ≡ named_end u s more) → StepsAs said old new step → Does n said old new (passed step)
unfolding asking_job_say
passed-does n said way old new (Ask asked kept) is ends h = λ args kw.
    asks-follow native_group (of_native n args kw) said old new [] asked Pass h (λ t u s more. ap (λ y. way_rest u [] y s more) is ∙ ends u s more)
passed-does n said way old new (End r) is ends h = λ args kw. ends-follow native_group (of_native n args kw) said old new r h

-- one that tells whether another object is abstract
pub marking-does : (n : NativeEntry) (said : Reading → PlainWorld → Said) (b : Wrapper) (old new : World) (step : Step (Unit {0})) → way_of n ≡ Marked b → StepsAs said old new step → Does n said old new (marking step)
unfolding asking_job_say
marking-does n said b old new (Ask asked held) is h = λ args kw.
    asks-follow native_group (of_native n args kw) said old new [] asked kept.Marked h (λ t u s more. ap (λ y. way_rest u [] y s more) is)
marking-does n said b old new (End r) is h = λ args kw. ends-follow native_group (of_native n args kw) said old new r h

-- and one that answers None
pub answering-does : (n : NativeEntry) (said : Reading → PlainWorld → Said) (way : Way) (old new : World) (step : Step (Unit {0})) → way_of n ≡ way → ((u : PlainWorld) (s : Ended) (more : Told) → way_rest u [] way s more ≡ none_end u s more) → StepsAs said old new step → Does n (λ t u. none_said (said t u)) old new (answering step)
unfolding asking_job_say
answering-does n said way old new (Ask asked kept) is ends h = λ args kw.
    asks-follow native_group (of_native n args kw) (λ t u. none_said (said t u)) old new [] asked Answering (λ t q. let e = h t q in (e.0, ap none_said e.1)) (λ t u s more. ap (λ y. way_rest u [] y s more) is ∙ ends u s more)
answering-does n said way old new (End (Ok a)) is ends h = λ args kw.
    ends-follow native_group (of_native n args kw) (λ t u. none_said (said t u)) old new (Ok (Value none)) (λ t q. let e = h t q in (e.0, ap none_said e.1))
answering-does n said way old new (End (Err x)) is ends h = λ args kw.
    ends-follow native_group (of_native n args kw) (λ t u. none_said (said t u)) old new (Err x) (λ t q. let e = h t q in (e.0, ap none_said e.1))

-- a new class method or static method that asks for the doc of what it is to wrap
pub doc-does : (n : NativeEntry) (said : Reading → PlainWorld → Said) (w : World) (b : Wrapper) (c : PyTypeRef) (f : PyObjectRef) (asked : Task) → way_of n ≡ Wraps b → ((t : Reading) → said t (plain t w) ≡ Asks (plain t w) (ReadObjects (ref c.0 ∷ f ∷ []) ∷ []) (ToAttribute (DoGetAttr f (known_text Doc)))) → ((t : Reading) → Reads t w → task_of t asked ≡ ToAttribute (DoGetAttr f (known_text Doc))) → Does n said w w (Ask asked (AfterDoc b c f))
unfolding asking_job_say
doc-does n said w b c f asked way same task = λ args kw.
    asks-follow native_group (of_native n args kw) said w w (ReadObjects (ref c.0 ∷ f ∷ []) ∷ []) asked (AfterDoc b c f) (λ t q. (q, same t ∙ ap (Asks (plain t w) (ReadObjects (ref c.0 ∷ f ∷ []) ∷ [])) (sym (task t q))))
    (λ t u s more. ap (λ y. way_rest u (ref c.0 ∷ f ∷ []) y s more) way)

-- a native begins as it does in its way
pub does-begins : (n : NativeEntry) (args : List PyObjectRef) (kw : List (PyStrInterned × PyObjectRef)) (way : Way) (old new : World) (step : Step NativeKept) → way_of n ≡ way → Does n (λ t u. by_way u way n args (bindings t kw)) old new step → Goes native_group (of_native n args (λ t. bindings t kw)) old new step
unfolding asking_job_say
does-begins n args kw way old new step is h =
    read-follows native_group (of_native n args (λ t. bindings t kw)) (λ t u. asking_job_say u (ToNative n args (bindings t kw)) []) old new (λ t u. by_way u way n args (bindings t kw)) step
    (λ t q. ap (λ y. by_way (plain t old) y n args (bindings t kw)) is) (h args (λ t. bindings t kw))

pub does-begins-ok : (n : NativeEntry) (args : List PyObjectRef) (kw : List (PyStrInterned × PyObjectRef)) (way : Way) (old new : World) (r : Result (Step NativeKept) OutOfMemory) → way_of n ≡ way → IfOk r (λ step. Does n (λ t u. by_way u way n args (bindings t kw)) old new step) → IfOk r (λ step. Goes native_group (of_native n args (λ t. bindings t kw)) old new step)
does-begins-ok n args kw way old new (Ok step) is h = does-begins n args kw way old new step is h
does-begins-ok n args kw way old new (Err e) is h = tt

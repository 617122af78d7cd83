-- How a class that was made is told of.
use Rattle.proto_call.proofs.Below.{ℕ, zero, suc, List, [], drop, length, Option, Some, None, Ok, Err, refl, sym, ap, ◌∙◌, subst, arith, Result, slice_get, Vec, OutOfMemory, Raised as Fault, SetNameCalled, raised, PyObjectRef, PyStrInterned, Answer, Method, Value, Step, Ask, End, SetName, known_text, the_str, special_at, type_object, PlainWorld, Bindings, AText, DoMakeClass, DoBind, DoCall, ToAttribute, ToCall, ReadNames, ReadObjects, Told, Said, Row, end, fault, noting, on_value, value, ref, next_node, with_node, World, Reading, Reads, bindings, ended_of, plain, spelled, Steps, ClassKept, Binding, Calling, Telling, bind_hook, bind_hooks, call_hooks, class_job_say, init_subclass, own_values, tell, there, unless_raised, Bound, Makes, class_stands, left, class_group, Point, goes-as, steps-noting}
use Rattle.std.proofs.Common.{◌≡◌, ◌≤◌, ◌+◌, ◌∷◌, ◌++◌, IfOk}
use Rattle.py_node.specs.declared.task.AttributeTask.TheVariants as attribute
use Rattle.py_node.specs.declared.task.CallTask.TheVariants as call
use Rattle.py_node.specs.declared.task.PyMethod.TheVariants as method
use Rattle.py_node.specs.declared.task.Task.TheVariants as task
use Rattle.plain_machine.specs.Plain.{Made}
use Rattle.proto_call.specs.ClassMake.Rows.{Goes, IsOther, Resumes, bind_row, call_row}

-- a class that is made, and then told of as a row says
module _ (kw : Bound) (class : PyObjectRef) (mid new : World) where
  pub made-takes : (step : Step ClassKept) → Goes (λ t u. tell u class (bindings t kw)) mid new step → Makes kw (λ t u. noting (Made class) (tell u class (bindings t kw) [])) mid new step
  unfolding class_job_say
  made-takes step h = λ meta args t q.
      let k = h t q in
      (k.0, steps-noting (class_stands t) t (λ u. tell u class (bindings t kw)) (λ u. class_job_say u (DoMakeClass meta args (bindings t kw))) (Made class) (λ u more. refl) (tell (plain t mid) class (bindings t kw) []) step new k.1)

  pub made-goes : (r : Result (Step ClassKept) OutOfMemory) → IfOk r (λ step. Goes (λ t u. tell u class (bindings t kw)) mid new step) → IfOk r (λ step. Makes kw (λ t u. noting (Made class) (tell u class (bindings t kw) [])) mid new step)
  made-goes (Ok step) h = made-takes step h
  made-goes (Err x) h = tt

-- a step of a row, by another name of the row
pub takes-same : (a b : Reading → PlainWorld → Row) (old new : World) (r : Result (Step ClassKept) OutOfMemory) → ((t : Reading) → a t ≡ b t) → IfOk r (λ step. Goes a old new step) → IfOk r (λ step. Goes b old new step)
takes-same a b old new (Ok step) e h = λ t r. let here = h t r in (here.0, subst (λ (row : Point). Steps (class_stands t) t row (row (plain t old) []) step new) (e t) here.1)
takes-same a b old new (Err x) e h = tt

-- what goes on at an answer as a row does takes that row's step
module _ (kept : ClassKept) (answer : Result Answer Fault) (row : Reading → Point) (on : (t : Reading) (u : PlainWorld) (more : Told) → class_stands t kept (ended_of answer) u more ≡ row t u more) where
  pub resumes-takes : (old new : World) (step : Step ClassKept) → Goes row old new step → Resumes kept answer old new step
  resumes-takes old new step h = goes-as class_group row (λ t. class_stands t kept (ended_of answer)) on old new step h

  pub resumes-goes : (old new : World) (r : Result (Step ClassKept) OutOfMemory) → IfOk r (λ step. Goes row old new step) → IfOk r (λ step. Resumes kept answer old new step)
  resumes-goes old new (Ok step) h = resumes-takes old new step h
  resumes-goes old new (Err x) h = tt

module _ (class : PyObjectRef) (kw hooks : Bound) (a : PyStrInterned × PyObjectRef) (vs : Bound) where
  -- what the row says, by what is found for the value's class
  found-said : Reading → PlainWorld → Option PyObjectRef → Said
  found-said t u o =
      noting (ReadObjects (there o)) (bind_hook u (spelled t a.0) a.1 (there o) (bind_hooks u (bindings t vs)) (λ bs. call_hooks u class (bindings t hooks ++ bs) (init_subclass u class (bindings t kw))) [])

  -- a value that does not want to know its name is passed over
  pub skip-value : (w new : World) (step : Step ClassKept) → ((t : Reading) → Reads t w → special_at (plain t w) a.1 (known_text SetName) ≡ None) → Goes (bind_row class kw hooks vs) w new step → Goes (bind_row class kw hooks (a ∷ vs)) w new step
  unfolding found-said
  skip-value w new step none h = λ t r.
      let k = h t r in
      let row = bind_row class kw hooks vs t in
      let whole = bind_row class kw hooks (a ∷ vs) t in
      (k.0, subst (λ o. Steps (class_stands t) t whole (found-said t (plain t w) o) step new) (sym (none t k.0)) (steps-noting (class_stands t) t row whole (ReadObjects []) (λ u more. refl) (row (plain t w) []) step new k.1))

append-none : {A : Type 0} (xs : List A) → xs ++ [] ≡ xs
append-none [] = refl
append-none (x ∷ xs) = ap (λ ys. x ∷ ys) (append-none xs)

-- a value that wants to know its name is asked for what it is told by
pub ask-value : (w : World) (m value class_of : PyObjectRef) (later : Telling) (hooks : Vec (PyStrInterned × PyObjectRef)) (x : PyStrInterned) (vs : Bound) → ((t : Reading) → Reads t w → special_at (plain t w) value (known_text SetName) ≡ Some m) → ((t : Reading) → type_object (plain t w) value ≡ class_of) → vs ≡ (x, value) ∷ left later → Goes (bind_row (ref later.class.0) later.kw.items hooks.items vs) w w (Ask (task.Attribute (attribute.Bind m (Some value) class_of)) (Binding later hooks x))
unfolding found-said
ask-value w m value class_of later hooks x vs found is e =
    let step : Step ClassKept = Ask (task.Attribute (attribute.Bind m (Some value) class_of)) (Binding later hooks x) in
    let P : Bound → Type 0 = λ vs. Goes (bind_row (ref later.class.0) later.kw.items hooks.items vs) w w step in
    subst P (sym e) (λ t r.
    let row = bind_row (ref later.class.0) later.kw.items hooks.items ((x, value) ∷ left later) t in
    let asks : Steps (class_stands t) t row (found-said (ref later.class.0) later.kw.items hooks.items (x, value) (left later) t (plain t w) (Some m)) step w = (ap (λ c. ToAttribute (DoBind m (Some value) c)) (sym (is t)), refl, λ u s more. refl) in
    (r, subst (λ o. Steps (class_stands t) t row (found-said (ref later.class.0) later.kw.items hooks.items (x, value) (left later) t (plain t w) o) step w) (sym (found t r)) asks))

-- a bound hook is called
pub ask-call : (old new : World) (b node text : PyObjectRef) (args : Vec PyObjectRef) (kw : Vec (PyStrInterned × PyObjectRef)) (later : Telling) (x : PyStrInterned) (vs : Bound) → vs ≡ (x, b) ∷ left later → ((t : Reading) → Reads t new → Reads t old × (plain t new ≡ with_node (plain t old) the_str (AText (spelled t x)))) → ((t : Reading) → text ≡ next_node (plain t old) the_str) → args.items ≡ node ∷ text ∷ [] → kw.items ≡ [] → node ≡ ref later.class.0 → Goes (call_row (ref later.class.0) later.kw.items vs) old new (Ask (task.Call (call.Call b args kw)) (Calling later))
ask-call old new b node text args kw later x vs e made is ar k n =
    let step : Step ClassKept = Ask (task.Call (call.Call b args kw)) (Calling later) in
    let P : Bound → Type 0 = λ vs. Goes (call_row (ref later.class.0) later.kw.items vs) old new step in
    subst P (sym e) (λ t r.
    let m = made t r in
    let list : args.items ≡ ref later.class.0 ∷ next_node (plain t old) the_str ∷ [] = ar ∙ (λ i. n i ∷ is t i ∷ []) in
    (m.0, ((λ i. ToCall (DoCall b (list i) (bindings t (k i)))), m.1, λ u s more. refl)))

-- what a value was told by was bound
push-read : (t : Reading) (hooks : Bound) (x : PyStrInterned) (b : PyObjectRef) (bs : Bindings) → bindings t hooks ++ (spelled t x, b) ∷ bs ≡ bindings t (hooks ++ (x, b) ∷ []) ++ bs
push-read t [] x b bs = refl
push-read t (h ∷ hooks) x b bs = ap (λ l. (spelled t h.0, h.1) ∷ l) (push-read t hooks x b bs)

pub hook-bound : (telling : Telling) (hooks more : Vec (PyStrInterned × PyObjectRef)) (x : PyStrInterned) (answer : Result Answer Fault) (b : PyObjectRef) (old new : World) (r : Result (Step ClassKept) OutOfMemory) → answer ≡ Ok (Value b) → more.items ≡ hooks.items ++ (x, b) ∷ [] → IfOk r (λ step. Goes (bind_row (ref telling.class.0) telling.kw.items more.items (left telling)) old new step) → IfOk r (λ step. Resumes (Binding telling hooks x) answer old new step)
hook-bound telling hooks more x answer b old new r is e h =
    resumes-goes (Binding telling hooks x) answer (bind_row (ref telling.class.0) telling.kw.items more.items (left telling)) (λ t u rest.
    let all : (bs : Bindings) → bindings t hooks.items ++ (spelled t x, b) ∷ bs ≡ bindings t more.items ++ bs = λ bs. push-read t hooks.items x b bs ∙ ap (λ l. bindings t l ++ bs) (sym e) in
    ap (λ a. on_value u (ended_of a) (λ b. bind_hooks u (bindings t (left telling)) (λ bs. call_hooks u (ref telling.class.0) (bindings t hooks.items ++ (spelled t x, b) ∷ bs) (init_subclass u (ref telling.class.0) (bindings t telling.kw.items)))) rest) is
    ∙ (λ i. bind_hooks u (bindings t (left telling)) (λ bs. call_hooks u (ref telling.class.0) (all bs i) (init_subclass u (ref telling.class.0) (bindings t telling.kw.items))) rest)) old new r h

-- an answer that is no object ends the making so
other-on : (answer : Result Answer Fault) → IsOther answer → (u : PlainWorld) (go : PyObjectRef → Row) → on_value u (ended_of answer) go ≡ end u (ended_of answer)
other-on (Ok (Value r)) h u go = absurd h
other-on (Ok (Method (method.Function a b))) h u go = refl
other-on (Ok (Method (method.Attribute a))) h u go = refl
other-on (Ok _) h u go = refl
other-on (Err x) h u go = refl

pub hook-other : (telling : Telling) (hooks : Vec (PyStrInterned × PyObjectRef)) (x : PyStrInterned) (answer other : Result Answer Fault) (w : World) → IsOther answer → other ≡ answer → Resumes (Binding telling hooks x) answer w w (End other)
hook-other telling hooks x answer other w is e =
    resumes-takes (Binding telling hooks x) answer (λ t u. end u (ended_of answer)) (λ t u more.
    (λ i. other-on answer is u (λ b. bind_hooks u (bindings t (left telling)) (λ bs. call_hooks u (ref telling.class.0) (bindings t hooks.items ++ (spelled t x, b) ∷ bs) (init_subclass u (ref telling.class.0) (bindings t telling.kw.items)))) i more)) w w (End other) (λ t r. (r, (ap ended_of e, refl)))

-- a hook raised
pub hook-raised : (telling : Telling) (answer : Result Answer Fault) (x : Fault) (w : World) → answer ≡ Err x → Resumes (Calling telling) answer w w (End (Err (raised SetNameCalled)))
hook-raised telling answer x w is =
    resumes-takes (Calling telling) answer (λ t u. end u (fault SetNameCalled)) (λ t u more.
    ap (λ a. unless_raised u (ended_of a) (call_row (ref telling.class.0) telling.kw.items (left telling) t u) more) is) w w (End (Err (raised SetNameCalled))) (λ t r. (r, (refl, refl)))

-- a hook was called
pub hook-called : (telling : Telling) (answer : Result Answer Fault) (a : Answer) (old new : World) (r : Result (Step ClassKept) OutOfMemory) → answer ≡ Ok a → IfOk r (λ step. Goes (call_row (ref telling.class.0) telling.kw.items (left telling)) old new step) → IfOk r (λ step. Resumes (Calling telling) answer old new step)
hook-called telling answer a old new r is h =
    resumes-goes (Calling telling) answer (call_row (ref telling.class.0) telling.kw.items (left telling)) (λ t u more.
    ap (λ a. unless_raised u (ended_of a) (call_row (ref telling.class.0) telling.kw.items (left telling) t u) more) is) old new r h

-- the entry at a place, and those past it
pub drop-got : {A : Type 0} (xs : List A) (i : ℕ) (x : A) → slice_get xs i ≡ Some x → drop i xs ≡ x ∷ drop (i + 1) xs
drop-got [] i x e = cc
drop-got (y ∷ xs) zero x e = let same : y ≡ x = cc in ap (λ z. z ∷ xs) same
drop-got (y ∷ xs) (suc i) x e =
    let k : suc i + 1 ≡ suc (i + 1) = omega arith in
    drop-got xs i x e ∙ ap (λ n. x ∷ drop n (y ∷ xs)) (sym k)

pub drop-none : {A : Type 0} (xs : List A) (i : ℕ) → slice_get xs i ≡ None → drop i xs ≡ []
drop-none [] zero e = refl
drop-none [] (suc i) e = refl
drop-none (x ∷ xs) zero e = cc
drop-none (x ∷ xs) (suc i) e = drop-none xs i e

drop-end : {A : Type 0} (xs : List A) (i : ℕ) → length xs ≤ i → drop i xs ≡ []
drop-end [] zero l = refl
drop-end [] (suc i) l = refl
drop-end (x ∷ xs) zero l = absurd (omega arith)
drop-end (x ∷ xs) (suc i) l = drop-end xs i (omega arith)

-- values that do not want to know their names are passed over, one after another
pub record Skipping (w : World) (telling : Telling) (hooks : Bound) (i : ℕ) : Type 0 where
  pub on : (new : World) (step : Step ClassKept) → Goes (bind_row (ref telling.class.0) telling.kw.items hooks (drop i telling.values.items)) w new step → Goes (bind_row (ref telling.class.0) telling.kw.items hooks (left telling)) w new step

pub skipping-begins : (w : World) (telling : Telling) (hooks : Bound) → Skipping w telling hooks telling.next
skipping-begins w telling hooks = record { on = λ new step h. h }

pub skipping-step : (w : World) (telling : Telling) (hooks : Bound) (i : ℕ) (a : PyStrInterned × PyObjectRef) → Skipping w telling hooks i → slice_get telling.values.items i ≡ Some a → ((t : Reading) → Reads t w → special_at (plain t w) a.1 (known_text SetName) ≡ None) → Skipping w telling hooks (i + 1)
skipping-step w telling hooks i a s e none = record {
  on = λ new step h.
      let P : Bound → Type 0 = λ vs. Goes (bind_row (ref telling.class.0) telling.kw.items hooks vs) w new step in
      s.on new step (subst P (sym (drop-got telling.values.items i a e)) (skip-value (ref telling.class.0) telling.kw.items hooks a (drop (i + 1) telling.values.items) w new step none h));
}

-- past all values, the hooks are called
pub skipping-ends : (w new : World) (telling : Telling) (hooks : Bound) (i : ℕ) (r : Result (Step ClassKept) OutOfMemory) → Skipping w telling hooks i → length telling.values.items ≤ i → IfOk r (λ step. Goes (call_row (ref telling.class.0) telling.kw.items hooks) w new step) → IfOk r (λ step. Goes (bind_row (ref telling.class.0) telling.kw.items hooks (left telling)) w new step)
skipping-ends w new telling hooks i (Err x) s l h = tt
skipping-ends w new telling hooks i (Ok step) s l h =
    let P : Bound → Type 0 = λ vs. Goes (bind_row (ref telling.class.0) telling.kw.items hooks vs) w new step in
    let same : (t : Reading) → call_row (ref telling.class.0) telling.kw.items hooks t ≡ bind_row (ref telling.class.0) telling.kw.items hooks [] t = λ t i u. call_hooks u (ref telling.class.0) (sym (append-none (bindings t hooks)) i) (init_subclass u (ref telling.class.0) (bindings t telling.kw.items)) in
    s.on new step (subst P (sym (drop-end telling.values.items i l)) (takes-same (call_row (ref telling.class.0) telling.kw.items hooks) (bind_row (ref telling.class.0) telling.kw.items hooks []) w new (Ok step) same h))

-- a class's own values are read once
module _ (class : PyObjectRef) (kw hooks vs : Bound) (none : hooks ≡ []) where
  tell-step : (old new : World) (step : Step ClassKept) → ((t : Reading) → own_values (plain t old) class.0 ≡ bindings t vs) → Goes (bind_row class kw hooks vs) old new step → Goes (λ t u. tell u class (bindings t kw)) old new step
  tell-step old new step own h = λ t r.
      let k = h t r in
      let go = λ (u : PlainWorld) (hs : Bound) (bs : Bindings). call_hooks u class (bindings t hs ++ bs) (init_subclass u class (bindings t kw)) in
      let row = bind_row class kw hooks vs t in
      let whole = λ (u : PlainWorld). tell u class (bindings t kw) in
      let says : noting (ReadNames (bindings t vs)) (row (plain t old) []) ≡ whole (plain t old) [] =
      (λ i. noting (ReadNames (sym (own t) i)) (bind_hooks (plain t old) (sym (own t) i) (go (plain t old) (none i)) [])) in
      (k.0, subst (λ said. Steps (class_stands t) t whole said step new) says (steps-noting (class_stands t) t row whole (ReadNames (bindings t vs)) (λ u more. ap (λ hs. bind_hooks u (bindings t vs) (go u hs) more) (sym none)) (row (plain t old) []) step new k.1))

  pub tell-goes : (old new : World) (r : Result (Step ClassKept) OutOfMemory) → ((t : Reading) → own_values (plain t old) class.0 ≡ bindings t vs) → IfOk r (λ step. Goes (bind_row class kw hooks vs) old new step) → IfOk r (λ step. Goes (λ t u. tell u class (bindings t kw)) old new step)
  tell-goes old new (Ok step) own h = tell-step old new step own h
  tell-goes old new (Err x) own h = tt

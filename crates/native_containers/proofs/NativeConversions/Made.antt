-- How natives start and go on that make an object, or ask what they make it of.
use Rattle.native_containers.proofs.Below.{◌∙◌, ℕ, List, [], Result, Ok, Err, refl, sym, ap, Raised as Fault, BuiltIn, NativeEntry, NewOf, PyObjectRef, PyStrInterned, Answer, Value, Ask, End, Task, Text, Datum, PlainWorld, Bindings, Ended, Said, Asks, Ends, Told, Answered, ToNative, on_value, pass, value, with_one, next_node, with_node, World, Reading, Reads, bindings, plain, ended_of, task_of, EndsAs, in_length, object_made, text_made, as_said, with_heir, with_own, ConversionKept, Wrapped, Wrapper, Class, Static, with_one_at_most, Resumes, Starts, conversion_stands, repr_of_wrapper, conversion_job_say, repr_task, text_at, wrapped_in, wrapper_by, wrapper_ends, wrapper_text, conversion_group, ends-follow, asks-follow, Point}
use Rattle.std.proofs.Common.{◌≡◌, ◌∷◌, ◌++◌}
use Rattle.py_node.specs.declared.protocol.ObjectTask.TheVariants as object
use Rattle.py_node.specs.declared.task.Task.TheVariants as task

-- an object that was made is said to be made
pub made-so : (said : Reading → PlainWorld → Said) (old new : World) (c : ℕ) (d : Reading → Datum) (r : PyObjectRef) → ((t : Reading) → said t (plain t old) ≡ object_made (plain t old) c (d t)) → ((t : Reading) → plain t new ≡ with_node (plain t old) c (d t)) → ((t : Reading) → r ≡ next_node (plain t old) c) → (t : Reading) → said t (plain t old) ≡ Ends (plain t new) (value r)
made-so said old new c d r says made number = λ t.
    says t ∙ sym (ap (λ v. Ends v (value r)) (made t) ∙ ap (λ m. Ends (with_node (plain t old) c (d t)) (value m)) (number t))

-- the row of a native
abbrev of_native : NativeEntry → List PyObjectRef → List (PyStrInterned × PyObjectRef) → Reading → Point
of_native n args kw = λ t u. conversion_job_say u (ToNative n args (bindings t kw))

module _ (n : NativeEntry) (args : List PyObjectRef) (kw : List (PyStrInterned × PyObjectRef)) where
  -- a native that ends
  pub starts-end : (old new : World) (r : Result Answer Fault) → ((t : Reading) → Reads t new → Reads t old) → ((t : Reading) → conversion_job_say (plain t old) (ToNative n args (bindings t kw)) [] ≡ Ends (plain t new) (ended_of r)) → Starts n args kw old new (End r)
  starts-end old new r reads says = ends-follow conversion_group (of_native n args kw) (λ t u. of_native n args kw t u []) old new r (λ t q. (reads t q, says t))

  -- a native that asks
  pub starts-ask : (w : World) (asked : Task) (kept : ConversionKept) (learnt : Told) → ((t : Reading) → conversion_job_say (plain t w) (ToNative n args (bindings t kw)) [] ≡ Asks (plain t w) learnt (task_of t asked)) → ((t : Reading) (u : PlainWorld) (r : Ended) (more : Told) → conversion_job_say u (ToNative n args (bindings t kw)) (learnt ++ Answered r ∷ more) ≡ conversion_stands t kept r u more) → Starts n args kw w w (Ask asked kept)
  starts-ask w asked kept learnt says on = asks-follow conversion_group (of_native n args kw) (λ t u. of_native n args kw t u []) w w learnt asked kept (λ t q. (q, says t)) on

-- what makes an object of a class that derives from a built-in one, of one argument at most
module _ (b : BuiltIn) (without : PlainWorld → ℕ → Said) (go : PlainWorld → ℕ → PyObjectRef → Said) (args : List PyObjectRef) (kw : List (PyStrInterned × PyObjectRef)) (says : (u : PlainWorld) (bs : Bindings) → conversion_job_say u (ToNative (NewOf b) args bs) [] ≡ with_heir u b args (λ c. with_one_at_most u args bs (without u c) (go u c))) (w : World) (c : ℕ) (heir : (t : Reading) (on : ℕ → Said) → with_heir (plain t w) b args on ≡ on c) where
  heir-said : (t : Reading) → conversion_job_say (plain t w) (ToNative (NewOf b) args (bindings t kw)) [] ≡ with_one_at_most (plain t w) args (bindings t kw) (without (plain t w) c) (go (plain t w) c)
  heir-said t =
      let u = plain t w in
      says u (bindings t kw) ∙ heir t (λ c. with_one_at_most u args (bindings t kw) (without u c) (go u c))

  pub maker-refused : (x : Fault) → ((t : Reading) (u : PlainWorld) (alone : Said) (on : PyObjectRef → Said) → with_one_at_most u args (bindings t kw) alone on ≡ Ends u (Err x)) → Starts (NewOf b) args kw w w (End (Err x))
  maker-refused x refused =
      starts-end (NewOf b) args kw w w (Err x) (λ t q. q) (λ t. heir-said t ∙ refused t (plain t w) (without (plain t w) c) (go (plain t w) c))

  pub maker-alone : (new : World) (r : Result Answer Fault) → ((t : Reading) (u : PlainWorld) (alone : Said) (on : PyObjectRef → Said) → with_one_at_most u args (bindings t kw) alone on ≡ alone) → ((t : Reading) → Reads t new → Reads t w) → ((t : Reading) → without (plain t w) c ≡ Ends (plain t new) (ended_of r)) → Starts (NewOf b) args kw w new (End r)
  maker-alone new r given reads ends =
      starts-end (NewOf b) args kw w new r reads (λ t. heir-said t ∙ given t (plain t w) (without (plain t w) c) (go (plain t w) c) ∙ ends t)

  pub maker-asks : (a : PyObjectRef) (asked : Task) (kept : ConversionKept) (learnt : Told) → ((t : Reading) (u : PlainWorld) (alone : Said) (on : PyObjectRef → Said) → with_one_at_most u args (bindings t kw) alone on ≡ on a) → ((t : Reading) → go (plain t w) c a ≡ Asks (plain t w) learnt (task_of t asked)) → ((t : Reading) (u : PlainWorld) (r : Ended) (more : Told) → conversion_job_say u (ToNative (NewOf b) args (bindings t kw)) (learnt ++ Answered r ∷ more) ≡ conversion_stands t kept r u more) → Starts (NewOf b) args kw w w (Ask asked kept)
  maker-asks a asked kept learnt given asks on =
      starts-ask (NewOf b) args kw w asked kept learnt (λ t. heir-said t ∙ given t (plain t w) (without (plain t w) c) (go (plain t w) c) ∙ asks t) on

-- what was kept ends at an answer
module _ (kept : ConversionKept) (answer : Result Answer Fault) where
  pub resumes-end : (old new : World) (r : Result Answer Fault) → ((t : Reading) → Reads t new → Reads t old) → ((t : Reading) → conversion_stands t kept (ended_of answer) (plain t old) [] ≡ Ends (plain t new) (ended_of r)) → Resumes kept answer old new (End r)
  resumes-end old new r reads says = ends-follow conversion_group (λ t. conversion_stands t kept (ended_of answer)) (λ t u. conversion_stands t kept (ended_of answer) u []) old new r (λ t q. (reads t q, says t))

  pub resumes-as : (said : Reading → PlainWorld → Said) (old new : World) (r : Result Answer Fault) → ((t : Reading) → conversion_stands t kept (ended_of answer) (plain t old) [] ≡ said t (plain t old)) → EndsAs said old new r → Resumes kept answer old new (End r)
  resumes-as said old new r says ends = ends-follow conversion_group (λ t. conversion_stands t kept (ended_of answer)) (λ t u. conversion_stands t kept (ended_of answer) u []) old new r (λ t q. let k = ends t q in (k.0, says t ∙ k.1))

-- a class method or a static method

wrapper-said : (b : Wrapper) (args : List PyObjectRef) (u : PlainWorld) (bs : Bindings) → conversion_job_say u (ToNative (repr_of_wrapper b) args bs) [] ≡ wrapper_by u b args bs
unfolding conversion_job_say
wrapper-said Class args u bs = refl
wrapper-said Static args u bs = refl

wrapper-on : (b : Wrapper) (args : List PyObjectRef) (u : PlainWorld) (bs : Bindings) (r : Ended) (more : Told) → conversion_job_say u (ToNative (repr_of_wrapper b) args bs) (Answered r ∷ more) ≡ on_value u r (λ v. as_said (wrapper_ends u b v)) more
unfolding conversion_job_say
wrapper-on Class args u bs r more = refl
wrapper-on Static args u bs r more = refl

module _ (b : Wrapper) (args : List PyObjectRef) (kw : List (PyStrInterned × PyObjectRef)) (w : World) where
  pub wrapper-refused : (x : Fault) → ((t : Reading) (go : PyObjectRef → Said) → with_own (wrapped_in b) (plain t w) args (λ o. go) ≡ Ends (plain t w) (Err x)) → Starts (repr_of_wrapper b) args kw w w (End (Err x))
  wrapper-refused x refused = starts-end (repr_of_wrapper b) args kw w w (Err x) (λ t q. q) (λ t.
      let u = plain t w in wrapper-said b args u (bindings t kw) ∙ refused t (λ f. with_one u args (bindings t kw) (λ p. pass u (repr_task f))))

  module _ (f : PyObjectRef) (given : (t : Reading) (go : PyObjectRef → Said) → with_own (wrapped_in b) (plain t w) args (λ o. go) ≡ go f) where
    pub wrapper-many : (x : Fault) → ((t : Reading) (u : PlainWorld) (go : PyObjectRef → Said) → with_one u args (bindings t kw) go ≡ Ends u (Err x)) → Starts (repr_of_wrapper b) args kw w w (End (Err x))
    wrapper-many x refused = starts-end (repr_of_wrapper b) args kw w w (Err x) (λ t q. q) (λ t.
        let u = plain t w in
        wrapper-said b args u (bindings t kw)
        ∙ given t (λ f. with_one u args (bindings t kw) (λ p. pass u (repr_task f)))
        ∙ refused t u (λ p. pass u (repr_task f)))

    pub wrapper-asks : (o : PyObjectRef) → ((t : Reading) (u : PlainWorld) (go : PyObjectRef → Said) → with_one u args (bindings t kw) go ≡ go o) → Starts (repr_of_wrapper b) args kw w w (Ask (task.Object (object.Repr f)) (Wrapped b))
    wrapper-asks o alone = starts-ask (repr_of_wrapper b) args kw w (task.Object (object.Repr f)) (Wrapped b) [] (λ t.
        let u = plain t w in
        wrapper-said b args u (bindings t kw)
        ∙ given t (λ f. with_one u args (bindings t kw) (λ p. pass u (repr_task f)))
        ∙ alone t u (λ p. pass u (repr_task f))) (λ t u r more. wrapper-on b args u (bindings t kw) r more)

-- what it wraps answered its text
pub wrapper-ended : (b : Wrapper) (v : PyObjectRef) (x : Text) (old new : World) (r : Result Answer Fault) → ((t : Reading) → in_length (wrapper_text b (text_at (plain t old) v)) ≡ Ok x) → EndsAs (λ t u. text_made u (Ok x)) old new r → Resumes (Wrapped b) (Ok (Value v)) old new (End r)
wrapper-ended b v x old new r text ends =
    resumes-as (Wrapped b) (Ok (Value v)) (λ t u. text_made u (Ok x)) old new r (λ t. ap (text_made (plain t old)) (text t)) ends

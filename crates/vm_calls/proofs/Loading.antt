-- A method that was loaded is the one that reading the attribute makes, and to call what was loaded is to call that.
use Rattle.vm_calls.proofs.Below.{ℕ, zero, suc, Bool, true, false, cond, nat_lt, length, List, [], Option, Some, None, Ok, Err, IsTrue, refl, sym, ap, ◌∙◌, subst, arith, PyObjectRef, DepthLimit, Getattro, SlotEntry, Native, OfObject, Answer, PyMethod, Function, PyResult, Done, Budget, Started, Text, Found, Ending, Over, NoUnits, Outcome, Out, answer, asked, carry, closing, reach, step, the_dict, the_method, Datum, AMethod, PlainWorld, PlainTask, PlainAnswer, ADict, AsValue, AsDone, AsNumber, AsTruth, AsMaybe, AsObjects, AsExhausted, AsFunction, AsAttribute, AsStart, Bindings, DoGetAttr, DoLoadMethod, DoInvoke, DoCall, ToAttribute, ToCall, Ended, Answered, Told, Said, Asks, Ends, fault, value, class_at, datum_at, has_dict, slot_at, push_node, ref, with_node, next_node, without_calls, special_at, is_fast, own_value, reach-is, attribute_say, find, load, load_by, load_fast, load_found, call_job_say, is_of, kind_of, IsOfKind, AnswersAreOfTheirKinds, Reading, plain, answer_of, bindings, ending_in, unnoted, say, State, IsMethod, IsObject, InvokedIsCalled, LoadedIsRead, EndsLike}
use Rattle.std.proofs.Common.{◌≡◌, ◌<◌, ◌∷◌, ◌++◌}
use Rattle.py_node.specs.declared.entry.ObjectNative.TheVariants as object
use Rattle.py_node.specs.declared.task.Answer.TheVariants.{Method}
use Rattle.py_node.specs.declared.task.PyResult.TheVariants.{Raised}
use Rattle.proto_attr.specs.declared.find.Found.TheVariants as found
use Rattle.vm_calls.specs.AttributeLaws.Methods as methods
use Rattle.vm_calls.specs.AnswerKinds.Kinds as kinds
use Rattle.class_world.specs.Reading.{spelled}
use Rattle.vm_calls.proofs.Kinded.{all-go, over-noted, same-end, same-world}

-- tasks of attributes and of descriptors go by their rows
rows-go : methods.GoesByRows say
unfolding say
rows-go = record { attributes = λ w job told. refl; descriptors = λ w job told. refl }

-- what is asked is answered by an object, and nothing was learnt before
abbrev AsksObject : Said → Type 0
AsksObject (Ends w r) = Unit {0}
AsksObject (Asks w learnt task) = (learnt ≡ []) × (kind_of task ≡ kinds.Value)

found-asks : (w : PlainWorld) (o : PyObjectRef) (f : Found) → AsksObject (load_found w o f)
found-asks w o (found.Descriptor a) = (refl, refl)
found-asks w o (found.Value v) = tt
found-asks w o found.Missing = tt

fast-asks : (w : PlainWorld) (o a : PyObjectRef) (own : Option PyObjectRef) → AsksObject (load_fast w o a own)
fast-asks w o a None = tt
fast-asks w o a (Some v) = tt

by-asks : (w : PlainWorld) (o : PyObjectRef) (class own : Option PyObjectRef) → AsksObject (load_by w o class own)
by-asks w o None own = found-asks w o (find w None own)
by-asks w o (Some a) own =
    elim (is_fast w a) as (λ b. AsksObject (cond b (load_fast w o a own) (load_found w o (find w (Some a) own)))) [ true ↦ fast-asks w o a own | false ↦ found-asks w o (find w (Some a) own) ]

load-asks : (w : PlainWorld) (e : Option SlotEntry) (o : PyObjectRef) (x : Text) → AsksObject (load w e o x)
load-asks w (Some (Native (OfObject object.GetAttribute))) o x = by-asks w o (special_at w o x) (own_value w o x)
load-asks w _ o x = (refl, refl)

-- an object is answered
is-value : (a : PlainAnswer) → IsTrue (is_of kinds.Value a) → (r : PyObjectRef) × (a ≡ AsValue r)
is-value (AsValue r) h = (r, refl)
is-value AsDone h = absurd (let no : ⊥ = cc h in no)
is-value (AsNumber z) h = absurd (let no : ⊥ = cc h in no)
is-value (AsTruth b) h = absurd (let no : ⊥ = cc h in no)
is-value (AsMaybe o) h = absurd (let no : ⊥ = cc h in no)
is-value (AsObjects rs) h = absurd (let no : ⊥ = cc h in no)
is-value AsExhausted h = absurd (let no : ⊥ = cc h in no)
is-value (AsFunction o f) h = absurd (let no : ⊥ = cc h in no)
is-value (AsAttribute r) h = absurd (let no : ⊥ = cc h in no)
is-value (AsStart c) h = absurd (let no : ⊥ = cc h in no)

over-closed : (n : ℕ) (o : Outcome) (u : PlainWorld) (r : Ended) (left : ℕ) → closing n o ≡ Out u (Over r) left → o ≡ Out u (Over r) left
over-closed n (Out w (Over s) k) u r left h = h
over-closed n (Out w NoUnits k) u r left h = absurd (let no : ⊥ = cc h in no)

module _ (law : AnswersAreOfTheirKinds) where
  -- the answer of a task that was asked is of its kind
  asked-kind : (w v : PlainWorld) (task : PlainTask) (a : PlainAnswer) (left depth after : ℕ) → asked (reach say) w task left depth ≡ Out v (Over (Ok a)) after → IsOfKind task a
  asked-kind w v task a left depth after = go (nat_lt depth 1000)
    where
      go : (b : Bool) → cond b (reach say w task [] left depth) (Out w (Over (fault DepthLimit)) left) ≡ Out v (Over (Ok a)) after → IsOfKind task a
      go true h = law say w v task a left depth after all-go (ap (closing (length w.scopes)) h)
      go false h = absurd (let no : ⊥ = cc h in no)

  -- where the row has been answered it has read an attribute
  load-ends : (w u : PlainWorld) (o p a : PyObjectRef) (x : Text) (b : PyObjectRef) → attribute_say w (DoLoadMethod o x) (Answered (value b) ∷ []) ≡ Ends u (Ok (AsFunction p a)) → ⊥
  unfolding attribute_say
  load-ends w u o p a x b h = cc h

  -- a function with its target is told at once, or not at all
  at-once : (w u : PlainWorld) (o p a : PyObjectRef) (x : Text) (units depth left : ℕ) → reach say w (ToAttribute (DoLoadMethod o x)) [] units depth ≡ Out u (Over (Ok (AsFunction p a))) left → attribute_say w (DoLoadMethod o x) [] ≡ Ends u (Ok (AsFunction p a))
  unfolding say attribute_say
  at-once w u o p a x units depth left h =
      first (load w (slot_at w o Getattro) o x) (load-asks w (slot_at w o Getattro) o x) units (sym (reach-is say w task [] units depth) ∙ h)
    where
      task : PlainTask
      task = ToAttribute (DoLoadMethod o x)

      later : (v : PlainWorld) (r : Ended) (k : ℕ) → ((b : PlainAnswer) → r ≡ Ok b → IsTrue (is_of kinds.Value b)) → reach say v task (Answered r ∷ []) k depth ≡ Out u (Over (Ok (AsFunction p a))) left → ⊥
      later v (Err y) k is e = let e2 : Out v (Over (Err y)) k ≡ Out u (Over (Ok (AsFunction p a))) left = sym (reach-is say v task (Answered (Err y) ∷ []) k depth) ∙ e in cc e2
      later v (Ok b) k is e =
          let i = is-value b (is b refl) in
          let e1 : reach say v task (Answered (value i.0) ∷ []) k depth ≡ Out u (Over (Ok (AsFunction p a))) left = subst (λ (b : PlainAnswer). reach say v task (Answered (Ok b) ∷ []) k depth ≡ Out u (Over (Ok (AsFunction p a))) left) i.1 e in
          let e2 : step (reach say) task (Answered (value i.0) ∷ []) depth (attribute_say v (DoLoadMethod o x) (Answered (value i.0) ∷ [])) k ≡ Out u (Over (Ok (AsFunction p a))) left = sym (reach-is say v task (Answered (value i.0) ∷ []) k depth) ∙ e1 in
          cc e2

      after : (w : PlainWorld) (other : PlainTask) (l : ℕ) (out : Outcome) → kind_of other ≡ kinds.Value → asked (reach say) w other l (suc depth) ≡ out → carry (λ v r k. reach say v task (Answered r ∷ []) k depth) out ≡ Out u (Over (Ok (AsFunction p a))) left → ⊥
      after w other l (Out v NoUnits k) is q e = cc e
      after w other l (Out v (Over r) k) is q e =
          later v r k (λ b same. subst (λ k. IsTrue (is_of k b)) is (asked-kind w v other b l (suc depth) k (q ∙ ap (λ r. Out v (Over r) k) same))) e

      first : (s : Said) → AsksObject s → (n : ℕ) → step (reach say) task [] depth s n ≡ Out u (Over (Ok (AsFunction p a))) left → s ≡ Ends u (Ok (AsFunction p a))
      first (Ends v r) is n e = cc e
      first (Asks v learnt other) is zero e = absurd (let no : ⊥ = cc e in no)
      first (Asks v learnt other) is (suc l) e =
          let e2 : carry (λ v r k. reach say v task (Answered r ∷ []) k depth) (asked (reach say) v other l (suc depth)) ≡ Out u (Over (Ok (AsFunction p a))) left = subst (λ (f : Told). carry (λ v r k. reach say v task (([] ++ f) ++ Answered r ∷ []) k depth) (asked (reach say) v other l (suc depth)) ≡ Out u (Over (Ok (AsFunction p a))) left) is.0 e in
          absurd (after v other l (asked (reach say) v other l (suc depth)) is.1 refl e2)

  -- both ask the same call, and end with its answer
  same-reach : methods.MethodAsksIt → methods.TargetIsFirst → (w : PlainWorld) (m o a : PyObjectRef) (args : List PyObjectRef) (kw : Bindings) (units : ℕ) → methods.IsUsual w → class_at w m ≡ Some the_method → datum_at w m ≡ Some (AMethod o a) → reach say w (ToAttribute (DoInvoke (Some o) a args kw)) [] units 0 ≡ reach say w (ToCall (DoCall m args kw)) [] units 0
  unfolding say attribute_say call_job_say
  same-reach asks first w m o a args kw units usual class datum =
      reach-is say w invoke [] units 0
      ∙ ap (λ s. step (reach say) invoke [] 0 s units) (first w o a args kw)
      ∙ stepped units
      ∙ sym (reach-is say w call [] units 0 ∙ ap (λ s. step (reach say) call [] 0 s units) (asks w m o a args kw usual class datum))
    where
      invoke : PlainTask
      invoke = ToAttribute (DoInvoke (Some o) a args kw)

      call : PlainTask
      call = ToCall (DoCall m args kw)

      other : PlainTask
      other = ToCall (DoCall a (o ∷ args) kw)

      later : (v : PlainWorld) (r : Ended) (k : ℕ) → ((b : PlainAnswer) → r ≡ Ok b → IsTrue (is_of kinds.Value b)) → reach say v invoke (Answered r ∷ []) k 0 ≡ reach say v call (Answered r ∷ []) k 0
      later v (Err y) k is = reach-is say v invoke (Answered (Err y) ∷ []) k 0 ∙ sym (reach-is say v call (Answered (Err y) ∷ []) k 0)
      later v (Ok b) k is =
          let i = is-value b (is b refl) in
          subst (λ (b : PlainAnswer). reach say v invoke (Answered (Ok b) ∷ []) k 0 ≡ reach say v call (Answered (Ok b) ∷ []) k 0) (sym i.1) (reach-is say v invoke (Answered (value i.0) ∷ []) k 0 ∙ sym (reach-is say v call (Answered (value i.0) ∷ []) k 0))

      carried : (l : ℕ) (out : Outcome) → asked (reach say) w other l 1 ≡ out → carry (λ v r k. reach say v invoke (Answered r ∷ []) k 0) out ≡ carry (λ v r k. reach say v call (Answered r ∷ []) k 0) out
      carried l (Out v NoUnits k) q = refl
      carried l (Out v (Over r) k) q = later v r k (λ b same. asked-kind w v other b l 1 k (q ∙ ap (λ r. Out v (Over r) k) same))

      stepped : (n : ℕ) → step (reach say) invoke [] 0 (Asks w [] other) n ≡ step (reach say) call [] 0 (Asks w [] other) n
      stepped zero = refl
      stepped (suc l) = carried l (asked (reach say) w other l 1) refl

-- how a call that tells an object ends
abbrev back : PyResult PyObjectRef → Ending
back (Done r) = Over (value r)
back (Raised x) = Over (Err x)
back Budget = NoUnits

told-back : (told : PyResult PyObjectRef) (end : PyResult Answer) → EndsLike IsObject told end → ending_in end ≡ back told
told-back (Done r) (Done b) h = ap (λ (b : Answer). Over (Ok (answer_of b))) h
told-back (Raised x) (Raised y) h = ap (λ x. Over (Err x)) (sym h)
told-back Budget Budget h = refl
told-back (Done r) (Raised y) h = absurd h
told-back (Done r) Budget h = absurd h
told-back (Raised x) (Done b) h = absurd h
told-back (Raised x) Budget h = absurd h
told-back Budget (Done b) h = absurd h
told-back Budget (Raised y) h = absurd h

same-told : (told other : PyResult PyObjectRef) → back told ≡ back other → told ≡ other
same-told (Done r) (Done s) h = let e : r ≡ s = cc h in ap Done e
same-told (Raised x) (Raised y) h = let e : x ≡ y = cc h in ap Raised e
same-told Budget Budget h = refl
same-told (Done r) (Raised y) h = absurd (let no : ⊥ = cc h in no)
same-told (Done r) Budget h = absurd (let no : ⊥ = cc h in no)
same-told (Raised x) (Done s) h = absurd (let no : ⊥ = cc h in no)
same-told (Raised x) Budget h = absurd (let no : ⊥ = cc h in no)
same-told Budget (Done s) h = absurd (let no : ⊥ = cc h in no)
same-told Budget (Raised y) h = absurd (let no : ⊥ = cc h in no)

method-told : (m : PyMethod) (end : PyResult Answer) → EndsLike IsMethod (Done m) end → ending_in end ≡ Over (Ok (answer_of (Method m)))
method-told m (Done b) h = ap (λ (b : Answer). Over (Ok (answer_of b))) h
method-told m (Raised y) h = absurd h
method-told m Budget h = absurd h

-- a world without notes is as it is without them
still : (w : PlainWorld) → w.calls ≡ [] → without_calls w ≡ w
still w h = ap (λ (cs : List Started). record w { calls = cs }) (sym h)

made-quiet : (w : PlainWorld) (c : ℕ) (d : Datum) → (with_node w c d).calls ≡ w.calls
made-quiet w c d =
    elim (has_dict w c) as (λ b. (cond b (push_node (push_node w the_dict None (ADict [])) c (Some (ref (length w.nodes))) d) (push_node w c None d)).calls ≡ w.calls) [ true ↦ refl | false ↦ refl ]

pub loaded-is-read : AnswersAreOfTheirKinds → methods.ReadIsAMethod → (vm : State) → ((t : Reading) → methods.IsUsual (plain t vm.world)) → ((t : Reading) → (plain t vm.world).calls ≡ []) → LoadedIsRead vm
loaded-is-read law reads vm usual quiet o p a x units more loaded before read told t h g rl rr same known =
    let w = plain t vm.world in
    let c = methods.method_class (datum_at w a) in
    let d = methods.method_made (datum_at w a) o a in
    let l = h.leads in
    let end = l.1 t rl in
    let ran : unnoted (answer say w (ToAttribute (DoLoadMethod o (spelled t x))) units 0) ≡ Out (plain t loaded.world) (Over (Ok (AsFunction p a))) end.1 = end.2 ∙ ap (λ e. Out (plain t loaded.world) e end.1) (method-told (Function p a) l.0 l.2) in
    let over = over-noted (answer say w (ToAttribute (DoLoadMethod o (spelled t x))) units 0) (plain t loaded.world) (AsFunction p a) end.1 ran in
    let once = at-once law w over.0 o p a (spelled t x) units 0 over.1 (over-closed (length w.scopes) (reach say w (ToAttribute (DoLoadMethod o (spelled t x))) [] units 0) over.0 (Ok (AsFunction p a)) over.1 over.2) in
    let deep : suc (suc zero) < 1000 = omega arith in
    let r = reads say w over.0 o p a (spelled t x) more 0 rows-go (usual t) known deep once in
    let k = g.leads in
    let next = k.1 t rr in
    let from : unnoted (answer say w (ToAttribute (DoGetAttr o (spelled t x))) (suc (suc more)) 0) ≡ Out (plain t read.world) (ending_in k.0) next.1 = subst (λ (v : PlainWorld). unnoted (answer say v (ToAttribute (DoGetAttr o (spelled t x))) (suc (suc more)) 0) ≡ Out (plain t read.world) (ending_in k.0) next.1) same next.2 in
    let both : Out (without_calls (with_node w c d)) (Over (value (next_node w c))) more ≡ Out (plain t read.world) (ending_in k.0) next.1 = sym (ap unnoted r.2) ∙ from in
    let calm : without_calls (with_node w c d) ≡ with_node w c d = still (with_node w c d) (made-quiet w c d ∙ quiet t) in (
      sym over.3 ∙ ap without_calls r.0 ∙ still w (quiet t),
      r.1,
      same-told told (Done (next_node w c)) (sym (told-back told k.0 k.2) ∙ sym (same-end _ _ (Over (value (next_node w c))) (ending_in k.0) more next.1 both)),
      sym (same-world (without_calls (with_node w c d)) (plain t read.world) _ _ more next.1 both) ∙ calm,
    )

pub invoked-is-called : AnswersAreOfTheirKinds → methods.MethodAsksIt → methods.TargetIsFirst → (vm : State) → ((t : Reading) → methods.IsUsual (plain t vm.world)) → InvokedIsCalled vm
invoked-is-called law asks first vm usual m o a args kw units invoked before called told other t class datum h g rl rr same =
    let w = plain t vm.world in
    let invoke = ToAttribute (DoInvoke (Some o) a args.items (bindings t kw.items)) in
    let call = ToCall (DoCall m args.items (bindings t kw.items)) in
    let l = h.leads in
    let k = g.leads in
    let one = l.1 t rl in
    let two = k.1 t rr in
    let from : unnoted (answer say w call units 0) ≡ Out (plain t called.world) (ending_in k.0) two.1 = subst (λ (v : PlainWorld). unnoted (answer say v call units 0) ≡ Out (plain t called.world) (ending_in k.0) two.1) same two.2 in
    let alike : answer say w invoke units 0 ≡ answer say w call units 0 = ap (closing (length w.scopes)) (same-reach law asks first w m o a args.items (bindings t kw.items) units (usual t) class datum) in
    let both : Out (plain t invoked.world) (ending_in l.0) one.1 ≡ Out (plain t called.world) (ending_in k.0) two.1 = sym one.2 ∙ ap unnoted alike ∙ from in (
      same-told told other (sym (told-back told l.0 l.2) ∙ same-end _ _ (ending_in l.0) (ending_in k.0) one.1 two.1 both ∙ told-back other k.0 k.2),
      same-world (plain t invoked.world) (plain t called.world) _ _ one.1 two.1 both,
    )

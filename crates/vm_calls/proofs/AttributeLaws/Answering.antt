-- What reading an attribute comes to that is a method, and what the call of a method asks.
use Rattle.vm_calls.proofs.Below.{ℕ, suc, true, cond, nat_lt, length, List, [], Option, Some, inl, inr, refl, sym, ap, ◌∙◌, arith, nat_tests, PyObjectRef, DepthLimit, DescrGet, Call, Native, NativeEntry, OfCallable, Text, Datum, AMethod, ABuiltinMethod, AMethodDescriptor, PlainWorld, PlainTask, Bindings, DoCall, DoGetAttr, DoGeneric, DoDescrGet, ToAttribute, ToDescriptor, Ended, Answered, Chose, Told, Asks, Ends, Saying, class_at, datum_at, slot_at, with_node, next_node, class_number, for_classes, for_objects, is_for_objects, type_object, the_method, fault, value, Over, Outcome, Out, carry, step, reach, closing, reach-is, attribute_say, get_by, class-last, descriptor_say, descr_get_by, function_get, native_get, object_get, bound_native, class_get, static_get, class_of_option, call_native, call_job_say, call_by, asked_of_native, IsUsual, method_class, method_made, ReadIsAMethod, TargetIsFirst, MethodAsksIt, NativeIsAsked}
use Rattle.std.proofs.Common.{◌≡◌, ◌<◌, ◌∷◌, ◌++◌}
use Rattle.std.specs.Prelude.{is_some}
use Rattle.py_node.specs.declared.built_in.BuiltIn.TheVariants as built_in
use Rattle.py_node.specs.declared.entry.CallableNative.TheVariants as callable
use Rattle.py_node.specs.BuiltIns.{place_of}
use Rattle.vm_calls.specs.AttributeLaws.Methods.{GoesByRows}
use Rattle.vm_calls.proofs.AttributeLaws.Loading.{Loaded, loaded, has-class}
use Rattle.vm_calls.proofs.AttributeLaws.Fast.{fast-kind, known-kind, function-gets, native-gets, native-calls, method-calls, bound-calls, of-function, of-native, type-known, not-none}

-- a descriptor that makes a method of an object and itself
abbrev MakesMethod : PlainWorld → PyObjectRef → PyObjectRef → Type 0
MakesMethod w o a =
    let c = method_class (datum_at w a) in
    descriptor_say w (DoDescrGet a (Some o) (Some (type_object w o))) [] ≡ Ends (with_node w c (method_made (datum_at w a) o a)) (value (next_node w c))

class-given : (w : PlainWorld) (o : PyObjectRef) (c : ℕ) → IsUsual w → class_at w o ≡ Some c → class_of_option w (Some (type_object w o)) ≡ Some c
class-given w o c u at = ap class_number (type-known w o c u.sound at)

function-bound : (w : PlainWorld) (o a : PyObjectRef) (c : ℕ) → IsUsual w → class_at w o ≡ Some c → class_at w a ≡ Some (place_of built_in.Function) → MakesMethod w o a
unfolding descriptor_say
function-bound w o a c u at of =
    let made = of-function w o a u of in
    ap (λ e. descr_get_by w e a (Some o) (Some (type_object w o))) (function-gets w a u of)
    ∙ ap (λ k. function_get w a (Some o) k) (class-given w o c u at)
    ∙ ap (λ b. cond b (Ends w (value a)) (Ends (with_node w the_method (AMethod o a)) (value (next_node w the_method)))) (not-none w o c u at)
    ∙ sym (
    ap (λ k. Ends (with_node w k (method_made (datum_at w a) o a)) (value (next_node w k))) made.0
    ∙ ap (λ d. Ends (with_node w the_method d) (value (next_node w the_method))) made.1
    )

native-bound : (w : PlainWorld) (o a : PyObjectRef) (c : ℕ) → IsUsual w → class_at w o ≡ Some c → class_at w a ≡ Some (place_of built_in.MethodDescriptor) → is_for_objects (datum_at w a) ≡ true → MakesMethod w o a
unfolding descriptor_say
native-bound w o a c u at of for =
    let m = of-native w a u of in
    let bound = bound_native w m.0 m.1 m.2 m.4 in
    let t = type_object w o in
    let objects : for_objects m.3 ≡ true = sym (ap is_for_objects m.5) ∙ for in
    ap (λ e. descr_get_by w e a (Some o) (Some t)) (native-gets w a u of)
    ∙ ap (λ d. native_get w d a (Some o) (Some t)) m.5
    ∙ ap (λ b. cond b (object_get w a bound (Some o) (class_of_option w (Some t))) (cond (for_classes m.3) (class_get w bound (Some o) (Some t)) (static_get w a (Some o)))) objects
    ∙ ap (λ k. object_get w a bound (Some o) k) (class-given w o c u at)
    ∙ sym (ap (λ d. Ends (with_node w (method_class d) (method_made d o a)) (value (next_node w (method_class d)))) m.5)

-- how tasks are followed

ends : (say : Saying PlainTask) (w u : PlainWorld) (task : PlainTask) (told : Told) (r : Ended) (left depth : ℕ) → say w task told ≡ Ends u r → reach say w task told left depth ≡ Out u (Over r) left
ends say w u task told r left depth e =
    reach-is say w task told left depth ∙ ap (λ s. step (reach say) task told depth s left) e

asks : (say : Saying PlainTask) (w u : PlainWorld) (task other : PlainTask) (told learnt : Told) (r : Ended) (left after depth : ℕ) → nat_lt (suc depth) 1000 ≡ true → say w task told ≡ Asks w learnt other → reach say w other [] left (suc depth) ≡ Out u (Over r) after → reach say w task told (suc left) depth ≡ reach say u task ((told ++ learnt) ++ Answered r ∷ []) after depth
asks say w u task other told learnt r left after depth low e h =
    reach-is say w task told (suc left) depth
    ∙ ap (λ s. step (reach say) task told depth s (suc left)) e
    ∙ ap (λ b. carry go (cond b (reach say w other [] left (suc depth)) (Out w (Over (fault DepthLimit)) left))) low
    ∙ ap (carry go) h
  where
    go : PlainWorld → Ended → ℕ → Outcome
    go v s left = reach say v task ((told ++ learnt) ++ Answered s ∷ []) left depth

-- an attribute that is read by the class's entry of objects, of a value that gets: three rows
get-asks : (w : PlainWorld) (o a : PyObjectRef) (x : Text) → Loaded w w o o a x → attribute_say w (DoGetAttr o x) [] ≡ Asks w (Chose 0 ∷ []) (ToAttribute (DoGeneric o x))
unfolding attribute_say
get-asks w o a x l = ap (λ e. get_by w e o x) l.entry

get-ends : (w : PlainWorld) (o : PyObjectRef) (x : Text) (r : Ended) → attribute_say w (DoGetAttr o x) (Chose 0 ∷ (Answered r ∷ [])) ≡ Ends w r
unfolding attribute_say
get-ends w o x r = refl

generic-ends : (w : PlainWorld) (o : PyObjectRef) (x : Text) (r : Ended) → attribute_say w (DoGeneric o x) (Answered r ∷ []) ≡ Ends w r
unfolding attribute_say
generic-ends w o x r = refl

three : (say : Saying PlainTask) (w v : PlainWorld) (o a : PyObjectRef) (x : Text) (r : Ended) (left depth : ℕ) → GoesByRows say → suc (suc depth) < 1000 → attribute_say w (DoGetAttr o x) [] ≡ Asks w (Chose 0 ∷ []) (ToAttribute (DoGeneric o x)) → attribute_say w (DoGeneric o x) [] ≡ Asks w [] (ToDescriptor (DoDescrGet a (Some o) (Some (type_object w o)))) → descriptor_say w (DoDescrGet a (Some o) (Some (type_object w o))) [] ≡ Ends v r → reach say w (ToAttribute (DoGetAttr o x)) [] (suc (suc left)) depth ≡ Out v (Over r) left
three say w v o a x r left depth goes deep first second third =
    let get = ToAttribute (DoGetAttr o x) in
    let generic = ToAttribute (DoGeneric o x) in
    let descr = ToDescriptor (DoDescrGet a (Some o) (Some (type_object w o))) in
    let high : nat_lt (suc depth) 1000 ≡ true = grind (arith, nat_tests) in
    let higher : nat_lt (suc (suc depth)) 1000 ≡ true = grind (arith, nat_tests) in
    let inner : reach say w descr [] left (suc (suc depth)) ≡ Out v (Over r) left =
    ends say w v descr [] r left (suc (suc depth)) (goes.descriptors w _ [] ∙ third) in
    let middle : reach say w generic [] (suc left) (suc depth) ≡ Out v (Over r) left =
    asks say w v generic descr [] [] r left left (suc depth) higher (goes.attributes w _ [] ∙ second) inner
    ∙ ends say v v generic (Answered r ∷ []) r left (suc depth) (goes.attributes v _ (Answered r ∷ []) ∙ generic-ends v o x r) in
    asks say w v get generic [] (Chose 0 ∷ []) r (suc left) left depth high (goes.attributes w _ [] ∙ first) middle
    ∙ ends say v v get (Chose 0 ∷ (Answered r ∷ [])) r left depth (goes.attributes v _ (Chose 0 ∷ (Answered r ∷ [])) ∙ get-ends v o x r)

gets : {A : Type 0} (o : Option A) (x : A) → o ≡ Some x → is_some o ≡ true
gets o x e = ap is_some e

pub read-method : ReadIsAMethod
read-method say w u o p a x left depth goes usual kind deep e =
    let l = loaded w u o p a x e in
    let same : Loaded w w o o a x = record { same = refl; target = refl; entry = l.entry; found = l.found; fast = l.fast; own = l.own } in
    let c = has-class w o _ _ l.entry in
    let v = with_node w (method_class (datum_at w a)) (method_made (datum_at w a) o a) in
    let r = value (next_node w (method_class (datum_at w a))) in
    let both : (is_some (slot_at w a DescrGet) ≡ true) × MakesMethod w o a = elim (fast-kind w a usual (known-kind w a usual kind) l.fast) [
      | inl f ↦ (gets (slot_at w a DescrGet) _ (function-gets w a usual f), function-bound w o a c.0 usual c.1 f)
      | inr f ↦ (gets (slot_at w a DescrGet) _ (native-gets w a usual f.0), native-bound w o a c.0 usual c.1 f.0 f.1)
    ] in (
      l.same,
      l.target,
      ap (closing (length w.scopes)) (three say w v o a x r left depth goes deep (get-asks w o a x same) (((class-last w o x a l.found).0 l.own).0 both.0) both.1),
    )

pub target-first : TargetIsFirst
unfolding attribute_say
target-first w o a args kw = refl

-- what a native entry for calls asks, of what the object holds
asked-by : (w : PlainWorld) (f : PyObjectRef) (args : List PyObjectRef) (kw : Bindings) (n : NativeEntry) (d : Datum) → slot_at w f Call ≡ Some (Native n) → datum_at w f ≡ Some d → call_job_say w (DoCall f args kw) [] ≡ asked_of_native w (call_native n (Some d) f args kw)
unfolding call_job_say
asked-by w f args kw n d slot holds =
    ap (λ e. call_by w e f args kw) slot ∙ ap (λ d. asked_of_native w (call_native n d f args kw)) holds

pub method-asks : MethodAsksIt
method-asks w m o a args kw usual at holds =
    asked-by w m args kw (OfCallable callable.CallMethod) (AMethod o a) (method-calls w m usual at) holds

pub native-asked : NativeIsAsked
native-asked w m o a args kw k flags y n doc usual at holds of has = (
  asked-by w m args kw (OfCallable callable.CallBuiltinMethod) (ABuiltinMethod y n o k doc) (bound-calls w m usual at) holds,
  asked-by w a (o ∷ args) kw (OfCallable callable.CallMethodDescriptor) (AMethodDescriptor k y n flags doc) (native-calls w a usual of) has,
)

-- What the class of a fast method has, and what such a method holds.
use Rattle.vm_calls.proofs.Below.{ℕ, Bool, true, false, cond, not, eqb, nat_lt, List, [], Option, Some, None, inl, inr, refl, sym, ap, ◌∙◌, subst, option_map, option_and_then, slice_get, false≢true, and_parts, eqb_tells, PyObjectRef, BuiltIn, DescrGet, Call, Native, Nearest, NativeEntry, OfCallable, flags_of, all_built_ins, fixed_none, heap_type, method_descriptor, own_attrs, sort_of, slot_sorts, names_of, slot_names, filling_of, slot_fillings, place_of as slot_place, Text, BeginsWith, Class, has_flag, lin, natives_of, built_ins, first_with, lin-begins, Datum, AClass, AMethod, AMethodDescriptor, PlainWorld, ref, class_at, datum_at, slot_at, class_has_flag, is_fast, is_for_objects, object_for, type_object, nearest_built_in, the_none_type, the_method, the_builtin_method, IsSound, home, holds_as, held_by, is_object_none, IsUsual, IsBuiltIn, IsKnown, IsUnmarked, method_class, method_made}
use Rattle.std.proofs.Common.{◌≡◌, ◌&&◌, ◌∷◌, ◌⊎◌}
use Rattle.py_node.specs.declared.built_in.BuiltIn.TheVariants as built_in
use Rattle.py_node.specs.declared.entry.CallableNative.TheVariants as callable
use Rattle.py_node.specs.BuiltIns.{place_of}
use Rattle.class_model.specs.Class.{class_at as class_numbered}
use Rattle.plain_machine.specs.Objects.{or_false}
use Rattle.vm_calls.proofs.AttributeLaws.Standing.{with_flag, node-of, class-there, some-of, own-slot, marks-methods}

-- what the classes of methods have in the slots that bind and call

binds : sort_of DescrGet ≡ Nearest
unfolding sort_of slot_sorts slot_place
binds = refl

calls : sort_of Call ≡ Nearest
unfolding sort_of slot_sorts slot_place
calls = refl

function-get : natives_of (place_of built_in.Function) DescrGet ≡ Some (Native (OfCallable callable.GetFunction))
unfolding natives_of all_built_ins own_attrs place_of names_of slot_names filling_of slot_fillings slot_place
function-get = refl

pub function-gets : (w : PlainWorld) (a : PyObjectRef) → IsUsual w → class_at w a ≡ Some (place_of built_in.Function) → slot_at w a DescrGet ≡ Some (Native (OfCallable callable.GetFunction))
function-gets w a u at = own-slot w a built_in.Function DescrGet (Native (OfCallable callable.GetFunction)) u at binds function-get

native-get : natives_of (place_of built_in.MethodDescriptor) DescrGet ≡ Some (Native (OfCallable callable.GetMethodDescriptor))
unfolding natives_of all_built_ins own_attrs place_of names_of slot_names filling_of slot_fillings slot_place
native-get = refl

pub native-gets : (w : PlainWorld) (a : PyObjectRef) → IsUsual w → class_at w a ≡ Some (place_of built_in.MethodDescriptor) → slot_at w a DescrGet ≡ Some (Native (OfCallable callable.GetMethodDescriptor))
native-gets w a u at = own-slot w a built_in.MethodDescriptor DescrGet (Native (OfCallable callable.GetMethodDescriptor)) u at binds native-get

native-call : natives_of (place_of built_in.MethodDescriptor) Call ≡ Some (Native (OfCallable callable.CallMethodDescriptor))
unfolding natives_of all_built_ins own_attrs place_of names_of slot_names filling_of slot_fillings slot_place
native-call = refl

pub native-calls : (w : PlainWorld) (a : PyObjectRef) → IsUsual w → class_at w a ≡ Some (place_of built_in.MethodDescriptor) → slot_at w a Call ≡ Some (Native (OfCallable callable.CallMethodDescriptor))
native-calls w a u at = own-slot w a built_in.MethodDescriptor Call (Native (OfCallable callable.CallMethodDescriptor)) u at calls native-call

method-call : natives_of (place_of built_in.Method) Call ≡ Some (Native (OfCallable callable.CallMethod))
unfolding natives_of all_built_ins own_attrs place_of names_of slot_names filling_of slot_fillings slot_place
method-call = refl

pub method-calls : (w : PlainWorld) (m : PyObjectRef) → IsUsual w → class_at w m ≡ Some the_method → slot_at w m Call ≡ Some (Native (OfCallable callable.CallMethod))
unfolding place_of
method-calls w m u at = own-slot w m built_in.Method Call (Native (OfCallable callable.CallMethod)) u at calls method-call

bound-call : natives_of (place_of built_in.BuiltinMethod) Call ≡ Some (Native (OfCallable callable.CallBuiltinMethod))
unfolding natives_of all_built_ins own_attrs place_of names_of slot_names filling_of slot_fillings slot_place
bound-call = refl

pub bound-calls : (w : PlainWorld) (m : PyObjectRef) → IsUsual w → class_at w m ≡ Some the_builtin_method → slot_at w m Call ≡ Some (Native (OfCallable callable.CallBuiltinMethod))
unfolding place_of
bound-calls w m u at = own-slot w m built_in.BuiltinMethod Call (Native (OfCallable callable.CallBuiltinMethod)) u at calls bound-call

-- a class with the flag of methods is that of functions, or that of natives as methods

flagged : (flag : ℕ) (o : Option (Class Text)) → or_false (option_map (λ k. has_flag flag k) o) ≡ true → (k : Class Text) × (o ≡ Some k) × (has_flag flag k ≡ true)
flagged flag None e = absurd (false≢true e)
flagged flag (Some k) e = (k, refl, e)

-- a class that a script made doesn't
pub known-kind : (w : PlainWorld) (a : PyObjectRef) → IsUsual w → IsKnown w a → IsBuiltIn w a ⊎ IsUnmarked w a
known-kind w a u (inl b) = inl b
known-kind w a u (inr (inl s)) =
    let both : (has_flag heap_type s.1 && has_flag method_descriptor s.1) ≡ false = u.unmarked s.0 s.1.flags (ap (option_map (λ (k : Class Text). k.flags)) s.3) in
    inr (s.0, s.1, s.2, s.3, subst (λ b. (b && has_flag method_descriptor s.1) ≡ false) s.4 both)
known-kind w a u (inr (inr m)) = inr m

pub fast-kind : (w : PlainWorld) (a : PyObjectRef) → IsUsual w → IsBuiltIn w a ⊎ IsUnmarked w a → is_fast w a ≡ true → (class_at w a ≡ Some (place_of built_in.Function)) ⊎ ((class_at w a ≡ Some (place_of built_in.MethodDescriptor)) × (is_for_objects (datum_at w a) ≡ true))
fast-kind w a u of fast =
    let parts = and_parts (class_has_flag w method_descriptor (class_at w a)) (is_for_objects (datum_at w a)) fast in
    elim of [
      | inl p ↦
          let k = flagged method_descriptor (class_numbered w.classes (place_of p.0)) (sym (ap (class_has_flag w method_descriptor) p.1) ∙ parts.0) in
          let marked : with_flag method_descriptor (flags_of p.0) ≡ true = sym (ap (with_flag method_descriptor) (u.flags p.0 k.0 k.1)) ∙ k.2 in
          elim (marks-methods p.0 marked) [
            | inl e ↦ inl (p.1 ∙ ap (λ b. Some (place_of b)) e)
            | inr e ↦ inr (p.1 ∙ ap (λ b. Some (place_of b)) e, parts.1)
          ]
      | inr p ↦
          let none : class_has_flag w method_descriptor (Some p.0) ≡ false = ap (λ o. or_false (option_map (λ k. has_flag method_descriptor k) o)) p.3 ∙ p.4 in
          absurd (false≢true (sym none ∙ sym (ap (class_has_flag w method_descriptor) p.2) ∙ parts.0))
    ]

-- what the objects of a built-in class hold
held : (w : PlainWorld) (r : PyObjectRef) (b : BuiltIn) → IsUsual w → class_at w r ≡ Some (place_of b) → nat_lt (place_of b) built_ins ≡ true → slice_get all_built_ins (place_of b) ≡ Some b → (d : Datum) × (datum_at w r ≡ Some d) × (home d ≡ holds_as b)
held w r b u at low row =
    let n = node-of w r (place_of b) at in
    let c = place_of b in
    let line = some-of (lin w.classes c) (u.sound.classes.order c (class-there w r c u.sound at)) in
    let nearest : nearest_built_in w.classes c ≡ Some c =
    ap (option_and_then (first_with (λ d. nat_lt d built_ins))) line.1 ∙ first line.0 (lin-begins w.classes c line.0 line.1) in
    let like : Some (home n.0.datum) ≡ Some (holds_as b) =
    sym (u.sound.nodes r.0 n.0 n.1).like ∙ ap (held_by w.classes) n.2
    ∙ ap (λ o. option_map holds_as (option_and_then (slice_get all_built_ins) o)) nearest ∙ ap (option_map holds_as) row in
    (n.0.datum, ap (option_map (λ n. n.datum)) n.1, cc)
  where
    first : (line : List ℕ) → BeginsWith (place_of b) line → first_with (λ d. nat_lt d built_ins) line ≡ Some (place_of b)
    first [] h = absurd h
    first (d ∷ line) h =
        ap (λ c. cond (nat_lt c built_ins) (Some c) (first_with (λ d. nat_lt d built_ins) line)) h
        ∙ ap (λ (q : Bool). cond q (Some (place_of b)) (first_with (λ d. nat_lt d built_ins) line)) low

abbrev is_method_descriptor : BuiltIn → Bool
is_method_descriptor built_in.MethodDescriptor = true
is_method_descriptor b = false

function-made : (d : Datum) (o a : PyObjectRef) → home d ≡ built_in.Function → (method_class (Some d) ≡ the_method) × (method_made (Some d) o a ≡ AMethod o a)
function-made (AMethodDescriptor k y n flags doc) o a e = absurd (false≢true (sym (ap is_method_descriptor e)))
function-made d o a e = (refl, refl)

native-held : (d : Datum) → home d ≡ built_in.MethodDescriptor → (k : ℕ) × (y : Text) × (n : NativeEntry) × (flags : ℕ) × (doc : Option Text) × (d ≡ AMethodDescriptor k y n flags doc)
native-held (AMethodDescriptor k y n flags doc) e = (k, y, n, flags, doc, refl)
native-held d e = absurd (false≢true (ap is_method_descriptor e))

pub of-function : (w : PlainWorld) (o a : PyObjectRef) → IsUsual w → class_at w a ≡ Some (place_of built_in.Function) → (method_class (datum_at w a) ≡ the_method) × (method_made (datum_at w a) o a ≡ AMethod o a)
unfolding place_of all_built_ins
of-function w o a u at =
    let h = held w a built_in.Function u at refl refl in
    let m = function-made h.0 o a h.2 in
    (ap method_class h.1 ∙ m.0, ap (λ d. method_made d o a) h.1 ∙ m.1)

pub of-native : (w : PlainWorld) (a : PyObjectRef) → IsUsual w → class_at w a ≡ Some (place_of built_in.MethodDescriptor) → (k : ℕ) × (y : Text) × (n : NativeEntry) × (flags : ℕ) × (doc : Option Text) × (datum_at w a ≡ Some (AMethodDescriptor k y n flags doc))
unfolding place_of all_built_ins
of-native w a u at =
    let h = held w a built_in.MethodDescriptor u at refl refl in
    let m = native-held h.0 h.2 in
    (m.0, m.1, m.2, m.3, m.4, h.1 ∙ ap (λ d. Some d) m.5)

-- the object that stands for an object's class stands for it
pub type-known : (w : PlainWorld) (o : PyObjectRef) (c : ℕ) → IsSound w → class_at w o ≡ Some c → datum_at w (type_object w o) ≡ Some (AClass c)
type-known w o c s at = ap (λ k. datum_at w (object_for w k)) at ∙ s.standing c (class-there w o c s at)

-- None is of its own class
pub not-none : (w : PlainWorld) (o : PyObjectRef) (c : ℕ) → IsUsual w → class_at w o ≡ Some c → is_object_none o (Some c) ≡ false
not-none w o c u at = elim (eqb_tells o.0 fixed_none) [
  | inl p ↦
      let same : Some c ≡ Some the_none_type = sym at ∙ ap (λ n. class_at w (ref n)) p.1 ∙ u.of_none in
      let own : c ≡ the_none_type = cc in
      ap (λ b. b && not (eqb c the_none_type)) p.0 ∙ ap (λ d. not (eqb d the_none_type)) own
  | inr p ↦ ap (λ b. b && not (eqb c the_none_type)) p.0
]

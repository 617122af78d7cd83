-- What the built-in classes have in their slots, and what their objects hold.
use Rattle.vm_calls.proofs.Below.{ℕ, Bool, true, false, List, [], Option, Some, None, inl, inr, refl, ap, ◌∙◌, subst, option_map, option_and_then, bit_and, false≢true, PyObjectRef, BuiltIn, SlotId, SlotEntry, Nearest, flags_of, built_in_flags, heap_type, method_descriptor, sort_of, Text, BeginsWith, Class, is_class, lin, first_along, slot, read_along, entry, is_heap_at, natives_of, lin-begins, Node, PlainWorld, class_at, node_at, slot_at, text_keys, IsSound, IsUsual}
use Rattle.std.proofs.Common.{◌≡◌, ◌∷◌, ◌⊎◌}
use Rattle.std.specs.Prelude.{is_some, ◌==◌}
use Rattle.py_node.specs.declared.built_in.BuiltIn.TheVariants as built_in
use Rattle.py_node.specs.BuiltIns.{place_of}
use Rattle.class_model.specs.Class.{class_at as class_numbered, or_else}

abbrev pub with_flag : ℕ → ℕ → Bool
with_flag flag flags = bit_and flags flag == flag

-- an object of a class is a node of it
pub node-of : (w : PlainWorld) (r : PyObjectRef) (c : ℕ) → class_at w r ≡ Some c → (n : Node) × (node_at w r ≡ Some n) × (n.class ≡ c)
node-of w r c e = go (node_at w r) refl e
  where
    go : (o : Option Node) → node_at w r ≡ o → option_map (λ n. n.class) o ≡ Some c → (n : Node) × (node_at w r ≡ Some n) × (n.class ≡ c)
    go None h k = cc
    go (Some n) h k = (n, h, cc)

-- its class is there
pub class-there : (w : PlainWorld) (r : PyObjectRef) (c : ℕ) → IsSound w → class_at w r ≡ Some c → is_class w.classes c ≡ true
class-there w r c s e =
    let n = node-of w r c e in
    subst (λ d. is_class w.classes d ≡ true) n.2 (s.nodes r.0 n.0 n.1).class

pub some-of : {A : Type 0} (o : Option A) → is_some o ≡ true → (x : A) × (o ≡ Some x)
some-of None e = absurd (false≢true e)
some-of (Some x) e = (x, refl)

-- no built-in class was made by a script
off-heap : (b : BuiltIn) → with_flag heap_type (flags_of b) ≡ false
unfolding flags_of built_in_flags place_of
off-heap built_in.Object = refl
off-heap b = refl

not-heap : (w : PlainWorld) (b : BuiltIn) → IsUsual w → is_heap_at (class_numbered w.classes (place_of b)) ≡ false
not-heap w b u = go (class_numbered w.classes (place_of b)) (u.flags b)
  where
    go : (o : Option (Class Text)) → ((k : Class Text) → o ≡ Some k → k.flags ≡ flags_of b) → is_heap_at o ≡ false
    go None f = refl
    go (Some k) f = ap (with_flag heap_type) (f k refl) ∙ off-heap b

-- such a class has its own native in a slot that is read along the linearisation
pub own-slot : (w : PlainWorld) (r : PyObjectRef) (b : BuiltIn) (s : SlotId) (e : SlotEntry) → IsUsual w → class_at w r ≡ Some (place_of b) → sort_of s ≡ Nearest → natives_of (place_of b) s ≡ Some e → slot_at w r s ≡ Some e
own-slot w r b s e u at sort native =
    let c = place_of b in
    let line = some-of (lin w.classes c) (u.sound.classes.order c (class-there w r c u.sound at)) in
    ap (option_and_then (λ c. slot text_keys natives_of w.classes c s)) at
    ∙ ap (option_and_then (λ line. read_along own (sort_of s) c line s)) line.1
    ∙ ap (λ q. read_along own q c line.0 s) sort
    ∙ first line.0 (lin-begins w.classes c line.0 line.1)
  where
    own : ℕ → SlotId → Option SlotEntry
    own = entry text_keys natives_of w.classes

    here : entry text_keys natives_of w.classes (place_of b) s ≡ Some e
    here = rw (not-heap w b u, sort, native) refl

    first : (line : List ℕ) → BeginsWith (place_of b) line → read_along (entry text_keys natives_of w.classes) Nearest (place_of b) line s ≡ Some e
    first [] h = absurd h
    first (d ∷ line) h = ap (λ c. or_else (entry text_keys natives_of w.classes c s) (first_along (λ d. entry text_keys natives_of w.classes d s) line)) h ∙ ap (λ o. or_else o (first_along (λ d. entry text_keys natives_of w.classes d s) line)) here

-- the built-in classes that mark methods
pub marks-methods : (b : BuiltIn) → with_flag method_descriptor (flags_of b) ≡ true → (b ≡ built_in.Function) ⊎ (b ≡ built_in.MethodDescriptor)
unfolding flags_of built_in_flags place_of
marks-methods built_in.Function e = inl refl
marks-methods built_in.MethodDescriptor e = inr refl
marks-methods b e = absurd (false≢true e)

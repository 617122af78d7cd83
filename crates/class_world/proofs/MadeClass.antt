-- A class is made with its node, or neither is.
use Rattle.class_world.proofs.Below.{ℕ, false, List, length, Some, Result, Ok, Err, IfOk, OnOk, OnErr, sym, ap, ◌∙◌, subst, length-map, BuiltIn, TypeType, Node, PyStrInterned, PyTypeRef, with_class, Class, Classes, rekeyed, best_of, AreSound, AreThere, ref, with_new_class, Change, Keeps, IsLogged, Held, HasClassNode, Reading, Reads, node_of, spelled, plain, IsNode, IsClass, IsOf, AreNames, Holds, AllHold, Grows, Sound, is_marked_heap, of_binding, of_each}
use Rattle.std.proofs.Common.{◌≡◌}
use Rattle.class_world.proofs.Growth.{grows-itself}
use Rattle.class_world.proofs.ClassChanges.{class_made, made-grows, class-made, class-made-of, node-made, made-sound, made-read}

-- the class of a metaclass and its node are the last ones now, or the tables are as they were
pub record IsMade {E : Type 0} (w : Held) (meta : PyTypeRef) (k : Class PyStrInterned) (ks : Classes PyStrInterned) (ns : List Node) (log : List Change) (o : Result PyTypeRef E) : Type 0 where
  pub added : OnOk o (ks ≡ with_class w.classes k)
  pub node : IfOk o (λ c. HasClassNode w.classes w.nodes ns meta c)
  pub number : IfOk o (λ c. c.0 ≡ length w.nodes)
  pub err : OnErr o (ks ≡ w.classes)
  pub no_node : OnErr o (ns ≡ w.nodes)
  pub unlogged : OnErr o (log ≡ w.log)

-- as many nodes as a reading has
count-read : (w old : Held) → w ≡ old → (t : Reading) → length w.nodes ≡ length (plain t old).nodes
unfolding plain
count-read w old v t = subst (λ (n : Held). length w.nodes ≡ length (plain t n).nodes) v (sym (length-map w.nodes (node_of t w.classes)))

module _ (w : Held) (meta : PyTypeRef) (k : Class PyStrInterned) (i : k.number ≡ length w.nodes) (ks : Classes PyStrInterned) (ns : List Node) (log : List Change) (keeps : Keeps w.log log) where
  abbrev after : Held
  after = record w { nodes = ns; classes = ks; log = log }

  whole : (c : PyTypeRef) → ks ≡ with_class w.classes k → (node : HasClassNode w.classes w.nodes ns meta c) → class_made w meta k node.0 log keeps c ≡ after
  whole c p node = let q = node.2 in λ j. record w { nodes = sym q j; classes = sym p j; log = log }

  same : ks ≡ w.classes → ns ≡ w.nodes → log ≡ w.log → w ≡ after
  same p q r = λ j. record w { nodes = sym q j; classes = sym p j; log = sym r j }

  pub sound-after : {E : Type 0} (o : Result PyTypeRef E) → IsMade w meta k ks ns log o → IsLogged log ks → Sound w → is_marked_heap k.flags ≡ false → Holds w (AreNames k.members) → Holds w (IsClass meta.0) → Holds w (IsOf meta.0 TypeType) → AllHold w (of_each of_binding k.attrs) → Sound after
  sound-after (Ok c) h law s u m p q a = subst Sound (whole c h.added h.node) (made-sound w meta k h.node.0 log keeps c h.number i s h.node.1 (subst (IsLogged log) h.added law) u m p q a)
  sound-after (Err x) h law s u m p q a = subst Sound (same h.err h.no_node h.unlogged) s

  pub grows-after : {E : Type 0} (o : Result PyTypeRef E) → IsMade w meta k ks ns log o → Grows w after
  grows-after (Ok c) h = subst (Grows w) (whole c h.added h.node) (made-grows w meta k h.node.0 log keeps c)
  grows-after (Err x) h = subst (Grows w) (same h.err h.no_node h.unlogged) (grows-itself w)

  pub class-after : {E : Type 0} (o : Result PyTypeRef E) → IsMade w meta k ks ns log o → Sound w → IfOk o (λ c. Holds after (IsClass c.0))
  class-after (Ok c) h s = subst (λ (n : Held). Holds n (IsClass c.0)) (whole c h.added h.node) (class-made w meta k h.node.0 log keeps c h.number i s)
  class-after (Err x) h s = tt

  pub node-after : {E : Type 0} (o : Result PyTypeRef E) → IsMade w meta k ks ns log o → IfOk o (λ c. Holds after (IsNode (ref c.0)))
  node-after (Ok c) h = subst (λ (n : Held). Holds n (IsNode (ref c.0))) (whole c h.added h.node) (node-made w meta k h.node.0 log keeps c (ref c.0) h.number)
  node-after (Err x) h = tt

  -- a class holds what its best base does
  pub of-after : {E : Type 0} (o : Result PyTypeRef E) → IsMade w meta k ks ns log o → Sound w → AreSound w.classes → AreSound ks → AreThere w.classes k.bases → IfOk o (λ c. (d : ℕ) (b : BuiltIn) → best_of w.classes k.bases ≡ Some d → Holds w (IsOf d b) → Holds after (IsOf c.0 b))
  of-after (Ok c) h s was is there = λ d b best of.
      subst (λ (n : Held). Holds n (IsOf c.0 b)) (whole c h.added h.node) (class-made-of w meta k h.node.0 log keeps c h.number i s d b was (subst AreSound h.added is) there best of)
  of-after (Err x) h s was is there = tt

  -- the same as the world before is seen
  module _ (old : Held) (v : w ≡ old) where
    pub reads-after : (t : Reading) → Reads t after → Reads t old
    reads-after t r = subst (Reads t) v (record { names = r.names; trees = r.trees })

    pub not-after : {E : Type 0} (o : Result PyTypeRef E) → IsMade w meta k ks ns log o → OnErr o (after ≡ old)
    not-after (Ok c) h = tt
    not-after (Err x) h = sym (same h.err h.no_node h.unlogged) ∙ v

    pub number-after : {E : Type 0} (o : Result PyTypeRef E) → IsMade w meta k ks ns log o → IfOk o (λ c. (t : Reading) → c.0 ≡ length (plain t old).nodes)
    number-after (Ok c) h = λ t. h.number ∙ count-read w old v t
    number-after (Err x) h = tt

    -- the class has the number of its node
    pub plain-after : {E : Type 0} (o : Result PyTypeRef E) → IsMade w meta k ks ns log o → Sound w → OnOk o ((t : Reading) → plain t after ≡ with_new_class (plain t old) meta.0 (record (rekeyed (spelled t) k) { number = length (plain t old).nodes }))
    plain-after (Ok c) h s = λ t.
        subst (λ (n : Held). plain t n ≡ with_new_class (plain t old) meta.0 (rekeyed (spelled t) k)) (whole c h.added h.node) (made-read w meta k h.node.0 log keeps old c v (i ∙ sym h.number) h.node.1 s.nodes t)
        ∙ ap (λ (n : ℕ). with_new_class (plain t old) meta.0 (record (rekeyed (spelled t) k) { number = n })) (i ∙ count-read w old v t)
    plain-after (Err x) h s = tt

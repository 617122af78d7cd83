-- One node that is changed, and tells for ever what it told.
use Rattle.class_world.proofs.Below.{ℕ, zero, suc, false, List, [], length, map, get_or, refl, ap, ◌∙◌, subst, arith, slice_set, PyObjectRef, Node as StoredNode, with_node_changed, with_object_changed, PyStrInterned, Classes, class_at, is_heap_at, keeps-itself, Held, Reading, node_of, plain, class_in, AllHold, Grows, Sound, of_node}
use Rattle.std.proofs.Common.{◌≡◌, ◌<◌, ◌∷◌}
use Rattle.plain_machine.specs.Plain.{Node}
use Rattle.class_world.proofs.Claims.{all-grow}
use Rattle.class_world.proofs.Growth.{Lasting, lasting, like-itself, grows, grows-lasts}
use Rattle.class_world.proofs.Changes.{fixed-grow, built_in-grow}
use Rattle.class_world.proofs.Defined.{set-length, each-set, stays-set, class-set}

module _ (w : Held) (r : PyObjectRef) (n new : StoredNode) (is : n ≡ get_or w.nodes r.0 n) (same : lasting new.payload ≡ lasting n.payload) (of : is_heap_at (class_at w.classes n.class.0) ≡ false → new.class ≡ n.class) where
  abbrev pub changed : Held
  changed = record w { nodes = slice_set w.nodes r.0 new }

  pub change-grows : Grows w changed
  change-grows =
      let l = set-length w.nodes r.0 new in
      grows w changed (keeps-itself w.log) refl refl (λ m x h. h) (omega arith) (λ m f h. h) (omega arith) (record { stays = stays-set w.classes w.nodes r.0 n new is same of }) (like-itself w.classes)

  pub change-sound : AllHold w (of_node new) → Sound w → Sound changed
  change-sound there s =
      let more = change-grows in
      let go = all-grow w changed more in
      let class : class_in new.payload ≡ class_in n.payload = ap (λ (l : Lasting). l.class) same in
      record { forms = go _ s.forms; below = s.below; nodes = go _ (each-set w of_node w.nodes r.0 new s.nodes there); classes = go _ s.classes; vars = go _ s.vars; scopes = go _ s.scopes; fixed = fixed-grow w changed s.fixed (grows-lasts w changed more); built_in = built_in-grow w changed s.built_in (grows-lasts w changed more); own = λ b. more.still _ (s.own b); flags = λ b. more.still _ (s.flags b); of_none = more.still _ s.of_none; unmarked = s.unmarked; standing = λ c e. more.still _ (s.standing c e); itself = λ m c q. s.itself m c (class-set w.nodes r.0 n new is class m c q); apart = s.apart; scopes_apart = s.scopes_apart; known = s.known; logged = s.logged }

nodes-read : (t : Reading) (ks : Classes PyStrInterned) (f : Node → Node) (n new : StoredNode) → node_of t ks new ≡ f (node_of t ks n) → (ns : List StoredNode) (i : ℕ) → i < length ns → n ≡ get_or ns i n → map (node_of t ks) (slice_set ns i new) ≡ with_node_changed f (map (node_of t ks) ns) i
nodes-read t ks f n new e [] i l is = absurd (omega arith)
nodes-read t ks f n new e (m ∷ ns) zero l is =
    ap (λ x. x ∷ map (node_of t ks) ns) e ∙ ap (λ (n : StoredNode). f (node_of t ks n) ∷ map (node_of t ks) ns) is
nodes-read t ks f n new e (m ∷ ns) (suc i) l is = ap (λ ms. node_of t ks m ∷ ms) (nodes-read t ks f n new e ns i (omega arith) is)

pub change-read : (w now : Held) (v : w ≡ now) (r : PyObjectRef) (n new : StoredNode) (f : Node → Node) (t : Reading) → r.0 < length w.nodes → n ≡ get_or w.nodes r.0 n → node_of t w.classes new ≡ f (node_of t w.classes n) → plain t (record w { nodes = slice_set w.nodes r.0 new }) ≡ with_object_changed (plain t now) f r
unfolding plain
change-read w now v r n new f t l is e =
    subst (λ u. plain t (record w { nodes = slice_set w.nodes r.0 new }) ≡ with_object_changed (plain t u) f r) v
    (ap (λ (ns : List Node). record (plain t w) { nodes = ns }) (nodes-read t w.classes f n new e w.nodes r.0 l is))

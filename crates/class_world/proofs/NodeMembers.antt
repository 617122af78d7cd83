-- Members of objects in a world: what is read of them, and how one is set.
use Rattle.class_world.proofs.Below.{ℕ, zero, suc, true, false, cond, eqb, List, [], Option, Some, None, IfSome, refl, sym, ap, ◌∙◌, subst, length, get_or, slice_get, slice_set, option_map, option_and_then, eq-eqb, MemberPlace, Node as StoredNode, PyObjectRef, PySetterValue, Assign, Delete, value_at, is_sub, place_at, offset_of, AreSound, place-offset, offset-below, offset-inherited, offset-anywhere, offset-nowhere, PlainWorld, node_at, with_node_changed, with_place, value_at_place, with_value_at_place, derives, is_instance, of_setter, Held, Reading, places_of, spelled, node_of, plain, setter_value, IsNode, StandsThere, with_members, Holds, AllHold, Grows, Sound, of_node}
use Rattle.std.proofs.Common.{◌≡◌, ◌<◌, ◌&&◌, ◌∷◌}
use Rattle.plain_machine.specs.Plain.{Node}
use Rattle.class_world.proofs.Claims.{each-get}
use Rattle.class_world.proofs.Growth.{lasting}
use Rattle.class_world.proofs.Look.{node-read, node-holds}
use Rattle.class_world.proofs.MemberPlaces.{value-there, places-set, members-length, members-set}
use Rattle.class_world.proofs.NodeChanges.{change-grows, change-sound, change-read}
use Rattle.class_world.proofs.OfClasses.{sub-seen}
use Rattle.class_world.proofs.Placed.{place_at-renamed}

-- a place, by its numbers
abbrev pub place-told : Option MemberPlace → Option (ℕ × ℕ)
place-told o = option_map (λ (p : MemberPlace). (p.class.0, p.index)) o

pub place-seen : (w now : Held) → w ≡ now → (t : Reading) (c n : ℕ) → place_at (plain t now).classes c n ≡ place_at w.classes c n
unfolding plain
place-seen w now v t c n = subst (λ u. place_at (plain t u).classes c n ≡ place_at w.classes c n) v (place_at-renamed (spelled t) w.classes c n)

-- what stands in a place that was set
changed-there : (f : Node → Node) (ns : List Node) (i : ℕ) (x : Node) → slice_get ns i ≡ Some x → slice_get (with_node_changed f ns i) i ≡ Some (f x)
changed-there f [] i x e = cc
changed-there f (n ∷ ns) zero x e = let same : n ≡ x = cc in ap (λ n. Some (f n)) same
changed-there f (n ∷ ns) (suc i) x e = changed-there f ns i x e

place-stands : (u : PlainWorld) (r : PyObjectRef) (p : ℕ × ℕ) (v : Option PyObjectRef) (x : Node) → node_at u r ≡ Some x → value_at_place (with_value_at_place u r (Some p) v) r (Some p) ≡ v
place-stands u r p v x e =
    ap (option_and_then (λ (n : Node). n.members p.0 p.1)) (changed-there (λ n. record n { members = with_place n.members p.0 p.1 v }) u.nodes r.0 x e)
    ∙ ap (λ b. cond (b && eqb p.1 p.1) v (x.members p.0 p.1)) (eq-eqb p.0 p.0 refl)
    ∙ ap (λ b. cond b v (x.members p.0 p.1)) (eq-eqb p.1 p.1 refl)

module _ (w now : Held) (v : w ≡ now) (r : PyObjectRef) (n : StoredNode) (at : slice_get w.nodes r.0 ≡ Some n) where
  seen : (d i : ℕ) (t : Reading) → value_at_place (plain t now) r (Some (d, i)) ≡ places_of w.classes n.class.0 n.members d i
  seen d i t = ap (option_and_then (λ (x : Node). x.members d i)) (node-read w now r n v at t)

  -- a place that the object's class gives, at the offset that it has in the objects of some class
  pub member-read : AreSound w.classes → (c k : ℕ) (p : MemberPlace) → place_at w.classes c k ≡ Some (p.class.0, p.index) → is_sub w.classes n.class.0 p.class.0 ≡ true → (t : Reading) → value_at_place (plain t now) r (Some (p.class.0, p.index)) ≡ value_at n.members k
  unfolding places_of
  member-read ok c k p e s t =
      seen p.class.0 p.index t
      ∙ ap (option_and_then (value_at n.members)) (offset-anywhere w.classes ok c n.class.0 p.class.0 p.index k (place-offset w.classes c k p.class.0 p.index e) s)

  -- one that it does not give
  pub member-none : (p : MemberPlace) → is_sub w.classes n.class.0 p.class.0 ≡ false → (t : Reading) → value_at_place (plain t now) r (Some (p.class.0, p.index)) ≡ None
  unfolding places_of
  member-none p s t = seen p.class.0 p.index t ∙ ap (option_and_then (value_at n.members)) (offset-nowhere w.classes n.class.0 p.class.0 p.index s)

  pub member-there : Sound w → (k : ℕ) → IfSome (value_at n.members k) (λ m. Holds now (IsNode m))
  unfolding Holds
  member-there s k = go (value_at n.members k) refl
    where
      go : (o : Option PyObjectRef) → value_at n.members k ≡ o → IfSome o (λ m. Holds now (IsNode m))
      go None e = tt
      go (Some m) e = value-there (length now.nodes) n.members k m (node-holds w now r n v s at).1.1.0.1 e

  pub instance-sub : (t : Reading) (c : ℕ) → is_instance (plain t now) r c ≡ true → is_sub w.classes n.class.0 c ≡ true
  instance-sub t c h =
      sym (sub-seen w now v t n.class.0 c) ∙ sym (ap (λ o. derives (plain t now) (option_map (λ (x : Node). x.class) o) c) (node-read w now r n v at t)) ∙ h

  -- an offset of a class from which the object's class derives
  module _ (s : Sound w) (ok : AreSound w.classes) (c k : ℕ) (p : ℕ × ℕ) (e : place_at w.classes c k ≡ Some p) (sub : is_sub w.classes n.class.0 c ≡ true) where
    offset-is : offset_of w.classes n.class.0 p.0 p.1 ≡ Some k
    offset-is = offset-inherited w.classes ok n.class.0 c p.0 p.1 k sub (place-offset w.classes c k p.0 p.1 e)

    pub offset-fits : k < length n.members
    unfolding Holds
    offset-fits = offset-below w.classes n.class.0 p.0 p.1 k (length n.members) offset-is (each-get w of_node w.nodes r.0 n at s.nodes).1.1.0.0

    -- a value at the offset
    module _ (value : PySetterValue) (new : StoredNode) (set : new ≡ with_members n (slice_set n.members k (setter_value value))) (is : n ≡ get_or w.nodes r.0 n) where
      abbrev after : Held
      after = record w { nodes = slice_set w.nodes r.0 new }

      kept : lasting new.payload ≡ lasting n.payload
      kept = ap (λ (x : StoredNode). lasting x.payload) set

      of : new.class ≡ n.class
      of = ap (λ (x : StoredNode). x.class) set

      stands : (value : PySetterValue) → AllHold w (of_setter value) → StandsThere (length w.nodes) (setter_value value)
      unfolding Holds
      stands (Assign m) h = h.0
      stands Delete h = tt

      holds : AllHold w (of_setter value) → AllHold w (of_node new)
      unfolding Holds
      holds h =
          let all = each-get w of_node w.nodes r.0 n at s.nodes in
          let count = all.1.1.0.0 ∙ ap Some (sym (members-length n.members k (setter_value value))) in
          subst (λ m. AllHold w (of_node m)) (sym set) (all.0, (all.1.0, ((count, members-set (length w.nodes) n.members k (setter_value value) (stands value h) all.1.1.0.1), all.1.1.1)))

      pub member-sound : AllHold w (of_setter value) → Sound after
      member-sound h = change-sound w r n new is kept (λ h. of) (holds h) s

      pub member-grows : Grows w after
      member-grows = change-grows w r n new is kept (λ h. of)

      pub member-set : r.0 < length w.nodes → (t : Reading) → plain t after ≡ with_value_at_place (plain t now) r (place_at (plain t now).classes c k) (setter_value value)
      member-set l t =
          change-read w now v r n new (λ x. record x { members = with_place x.members p.0 p.1 (setter_value value) }) t l is
          (ap (node_of t w.classes) set ∙ ap (λ ms. record (node_of t w.classes n) { members = ms }) (places-set w.classes n.class.0 n.members p.0 p.1 k (setter_value value) offset-is offset-fits))
          ∙ ap (λ o. with_value_at_place (plain t now) r o (setter_value value)) (sym (place-seen w now v t c k ∙ e))

      pub member-stands : r.0 < length w.nodes → (t : Reading) → value_at_place (plain t after) r (place_at (plain t now).classes c k) ≡ setter_value value
      member-stands l t =
          ap (λ u. value_at_place u r (place_at (plain t now).classes c k)) (member-set l t)
          ∙ ap (λ o. value_at_place (with_value_at_place (plain t now) r o (setter_value value)) r o) (place-seen w now v t c k ∙ e)
          ∙ place-stands (plain t now) r p (setter_value value) (node_of t w.classes n) (node-read w now r n v at t)

-- What stands in the places of objects, each at its offset.
use Rattle.class_world.proofs.Below.{ℕ, zero, suc, Bool, true, false, cond, eqb, List, [], length, Option, Some, None, refl, ap, ◌∙◌, subst, arith, option_map, option_and_then, slice_set, AllByRecursion, eqb-true, eqb-false, PyObjectRef, PyStrInterned, value_at, Classes, is_place, first_place, offset_of, offset-apart, with_place, Held, places_of, AreMembers, StandsThere, Holds}
use Rattle.std.proofs.Common.{◌≡◌, ◌+◌, ◌<◌, ◌∷◌}
use Rattle.std.specs.Prelude.{◌&&◌}

abbrev Members : Type 0
Members = List (Option PyObjectRef)

stands-there : (n : ℕ) (r : PyObjectRef) (o : Option PyObjectRef) → o ≡ Some r → StandsThere n o → r.0 < n
stands-there n r o e h = subst (StandsThere n) e h

pub value-there : (n : ℕ) (ms : Members) (k : ℕ) (r : PyObjectRef) → AllByRecursion (StandsThere n) ms → value_at ms k ≡ Some r → r.0 < n
value-there n [] k r h e = cc
value-there n (m ∷ ms) zero r h e = stands-there n r m e h.0
value-there n (m ∷ ms) (suc k) r h e = value-there n ms k r h.1 e

-- what stands in a place is there, and the place is one of the class's objects
pub member-is : (w : Held) (c d i : ℕ) (r : PyObjectRef) (ms : Members) → Holds w (AreMembers c ms) → places_of w.classes c ms d i ≡ Some r → (is_place w.classes c d i ≡ true) × (r.0 < length w.nodes)
unfolding Holds places_of
member-is w c d i r ms h e = go (is_place w.classes c d i) refl e
  where
    at : (o : Option ℕ) → option_and_then (value_at ms) o ≡ Some r → r.0 < length w.nodes
    at None e = cc
    at (Some n) e = value-there (length w.nodes) ms n r h.1 e

    go : (b : Bool) → is_place w.classes c d i ≡ b → option_and_then (value_at ms) (cond b (option_map (λ n. n + i) (first_place w.classes c d)) None) ≡ Some r → (is_place w.classes c d i ≡ true) × (r.0 < length w.nodes)
    go false q e = cc
    go true q e = (q, at (option_map (λ n. n + i) (first_place w.classes c d)) e)

-- an offset that is set

value-same : (ms : Members) (n : ℕ) (v : Option PyObjectRef) → n < length ms → value_at (slice_set ms n v) n ≡ v
value-same [] n v l = absurd (omega arith)
value-same (m ∷ ms) zero v l = refl
value-same (m ∷ ms) (suc n) v l = value-same ms n v (omega arith)

value-other : (ms : Members) (n k : ℕ) (v : Option PyObjectRef) → (k ≡ n → ⊥) → value_at (slice_set ms n v) k ≡ value_at ms k
value-other [] n k v d = refl
value-other (m ∷ ms) zero zero v d = absurd (d refl)
value-other (m ∷ ms) zero (suc k) v d = refl
value-other (m ∷ ms) (suc n) zero v d = refl
value-other (m ∷ ms) (suc n) (suc k) v d = value-other ms n k v (λ e. d (omega (arith, e)))

-- the place that has the offset has the value then, and all others have what they had
pub places-set : (t : Classes PyStrInterned) (c : ℕ) (ms : Members) (d i n : ℕ) (v : Option PyObjectRef) → offset_of t c d i ≡ Some n → n < length ms → places_of t c (slice_set ms n v) ≡ with_place (places_of t c ms) d i v
unfolding places_of
places-set t c ms d i n v h l = λ x e j. at e j x
  where
    other : (e j : ℕ) → (offset_of t c e j ≡ Some n → ⊥) → option_and_then (value_at (slice_set ms n v)) (offset_of t c e j) ≡ option_and_then (value_at ms) (offset_of t c e j)
    other e j apart = each (offset_of t c e j) refl
      where
        each : (o : Option ℕ) → offset_of t c e j ≡ o → option_and_then (value_at (slice_set ms n v)) o ≡ option_and_then (value_at ms) o
        each None q = refl
        each (Some k) q = value-other ms n k v (λ s. apart (q ∙ ap Some s))

    at : (e j : ℕ) → option_and_then (value_at (slice_set ms n v)) (offset_of t c e j) ≡ cond (eqb e d && eqb j i) v (option_and_then (value_at ms) (offset_of t c e j))
    at e j = go (eqb e d) refl (eqb j i) refl
      where
        go : (a : Bool) → eqb e d ≡ a → (b : Bool) → eqb j i ≡ b → option_and_then (value_at (slice_set ms n v)) (offset_of t c e j) ≡ cond (a && b) v (option_and_then (value_at ms) (offset_of t c e j))
        go true p true q =
            ap (λ e. option_and_then (value_at (slice_set ms n v)) (offset_of t c e j)) (eqb-true e d p)
            ∙ ap (λ j. option_and_then (value_at (slice_set ms n v)) (offset_of t c d j)) (eqb-true j i q)
            ∙ ap (option_and_then (value_at (slice_set ms n v))) h
            ∙ value-same ms n v l
        go true p false q = other e j (λ k. eqb-false j i q (offset-apart t c e j d i n k h).1)
        go false p b q = other e j (λ k. eqb-false e d p (offset-apart t c e j d i n k h).0)

pub members-length : (ms : Members) (n : ℕ) (v : Option PyObjectRef) → length (slice_set ms n v) ≡ length ms
members-length [] n v = refl
members-length (m ∷ ms) zero v = refl
members-length (m ∷ ms) (suc n) v = ap suc (members-length ms n v)

pub members-set : (k : ℕ) (ms : Members) (n : ℕ) (v : Option PyObjectRef) → StandsThere k v → AllByRecursion (StandsThere k) ms → AllByRecursion (StandsThere k) (slice_set ms n v)
members-set k [] n v s h = tt
members-set k (m ∷ ms) zero v s h = (s, h.1)
members-set k (m ∷ ms) (suc n) v s h = (h.0, members-set k ms n v s h.1)

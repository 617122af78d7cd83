-- Nodes are read alike under classes with equal layouts and as many members, and where nothing stands in any place.
use Rattle.class_world.proofs.Below.{ℕ, suc, List, [], length, map, Option, Some, None, refl, ap, option_and_then, AllByRecursion, Node as StoredNode, PyObjectRef, PyStrInterned, value_at, Classes, renamed, place_count, offset_of, along-there, offset-alike, no_members, Change, AreEmpty, Held, Reading, places_of, datum, node_of, spelled, plain, AreMembers, StandsThere, Holds, AllHold, of_each, of_node}
use Rattle.std.proofs.Common.{◌≡◌, ◌∷◌}
use Rattle.plain_machine.specs.Plain.{Node}
use Rattle.class_world.proofs.Claims.{all-first, all-rest}
use Rattle.class_world.proofs.Growth.{Like, layout-still}

module _ (old new : Classes PyStrInterned) (l : Like old new) where
  places-same : (c k : ℕ) (ms : List (Option PyObjectRef)) → place_count old c ≡ Some k → places_of new c ms ≡ places_of old c ms
  unfolding places_of
  places-same c k ms h = λ i d j. option_and_then (value_at ms) (offset-alike new old c c (layout-still old new l c k h) (λ x m. l.counts x (along-there old c x m)) d j i)

  node-same : (t : Reading) (n : StoredNode) → place_count old n.class.0 ≡ Some (length n.members) → node_of t new n ≡ node_of t old n
  node-same t n h = let members = places-same n.class.0 (length n.members) n.members h in λ i. record { class = n.class.0; dict = n.dict; members = members i; datum = datum t n.payload }

module _ (w : Held) (new : Classes PyStrInterned) (l : Like w.classes new) (t : Reading) where
  pub nodes-same : (ns : List StoredNode) → AllHold w (of_each of_node ns) → map (node_of t new) ns ≡ map (node_of t w.classes) ns
  unfolding Holds
  nodes-same [] h = refl
  nodes-same (n ∷ ns) h =
      let first = node-same w.classes new l t n (all-first w (of_node n) (of_each of_node ns) h).1.1.0.0 in
      let rest = nodes-same ns (all-rest w (of_node n) (of_each of_node ns) h) in
      λ i. first i ∷ rest i

  -- so a change of classes that keeps these changes no object
  pub classes-read : (log : List Change) → AllHold w (of_each of_node w.nodes) → plain t (record w { classes = new; log = log }) ≡ record (plain t w) { classes = renamed (spelled t) new }
  unfolding plain
  classes-read log h = ap (λ (ns : List Node). record (plain t w) { nodes = ns; classes = renamed (spelled t) new }) (nodes-same w.nodes h)

-- an object in which nothing stands
pub none-read : (t : Classes PyStrInterned) (c : ℕ) (ms : List (Option PyObjectRef)) → ((n : ℕ) → value_at ms n ≡ None) → places_of t c ms ≡ no_members
unfolding places_of
none-read t c ms h = λ i d j. at (offset_of t c d j) i
  where
    at : (o : Option ℕ) → option_and_then (value_at ms) o ≡ None
    at None = refl
    at (Some n) = h n

pub empty-hold : (w : Held) (t : Classes PyStrInterned) (c : ℕ) (ms : List (Option PyObjectRef)) → w.classes ≡ t → AreEmpty t c ms → Holds w (AreMembers c ms)
unfolding Holds
empty-hold w t c ms e h = rw e (h.0, each ms h.1)
  where
    stands : (o : Option PyObjectRef) → o ≡ None → StandsThere (length w.nodes) o
    stands None e = tt
    stands (Some r) e = cc

    each : (ms : List (Option PyObjectRef)) → ((n : ℕ) → value_at ms n ≡ None) → AllByRecursion (StandsThere (length w.nodes)) ms
    each [] h = tt
    each (m ∷ ms) h = (stands m (h 0), each ms (λ n. h (suc n)))

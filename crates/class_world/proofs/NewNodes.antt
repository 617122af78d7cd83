-- What a new node holds, and what the others hold still.
use Rattle.class_world.proofs.Below.{ℕ, zero, suc, Bool, true, false, List, [], length, Option, Some, None, inl, inr, refl, ap, subst, length-append, slice_get, option_map, PyObjectRef, Datum, ADict, no_members, PlainWorld, ref, datum_at, push_node, with_node, next_node, the_dict}
use Rattle.std.proofs.Common.{◌≡◌, ◌+◌, ◌⊎◌, ◌∷◌, ◌++◌}
use Rattle.std.specs.Prelude.{cond}
use Rattle.plain_machine.specs.Plain.{Node}
use Rattle.plain_machine.specs.World.{has_dict}
use Rattle.class_world.proofs.Claims.{get-end}

abbrev pub held : Option Node → Option Datum
held o = option_map (λ (n : Node). n.datum) o

pub get-cases : {A : Type 0} (xs : List A) (y : A) (i : ℕ) (z : A) → slice_get (xs ++ y ∷ []) i ≡ Some z → (slice_get xs i ≡ Some z) ⊎ ((i ≡ length xs) × (y ≡ z))
get-cases [] y zero z e = inr (refl, cc)
get-cases [] y (suc i) z e = cc
get-cases (x ∷ xs) y zero z e = inl e
get-cases (x ∷ xs) y (suc i) z e = elim (get-cases xs y i z e) [ inl a ↦ inl a | inr b ↦ inr (ap suc b.0, b.1) ]

datum-push : (ns : List Node) (x : Node) (n : ℕ) (d : Datum) → held (slice_get ns n) ≡ Some d → held (slice_get (ns ++ x ∷ []) n) ≡ Some d
datum-push [] x n d e = cc
datum-push (y ∷ ns) x zero d e = e
datum-push (y ∷ ns) x (suc n) d e = datum-push ns x n d e

-- what a node holds stays, and a new one holds what it was made with
module _ (w : PlainWorld) (c : ℕ) (d : Datum) where
  abbrev the_dict_node : Node
  the_dict_node = record { class = the_dict; dict = None; members = no_members; datum = ADict [] }

  abbrev node_with : Option PyObjectRef → Node
  node_with dict = record { class = c; dict = dict; members = no_members; datum = d }

  pub datum-stays : (e : Datum) (r : PyObjectRef) → datum_at w r ≡ Some e → datum_at (with_node w c d) r ≡ Some e
  datum-stays e r h = go (has_dict w c)
    where
      go : (b : Bool) → datum_at (cond b (push_node (push_node w the_dict None (ADict [])) c (Some (ref (length w.nodes))) d) (push_node w c None d)) r ≡ Some e
      go true = datum-push (w.nodes ++ the_dict_node ∷ []) (node_with (Some (ref (length w.nodes)))) r.0 e (datum-push w.nodes the_dict_node r.0 e h)
      go false = datum-push w.nodes (node_with None) r.0 e h

  pub datum-new : datum_at (with_node w c d) (next_node w c) ≡ Some d
  datum-new = go (has_dict w c)
    where
      go : (b : Bool) → datum_at (cond b (push_node (push_node w the_dict None (ADict [])) c (Some (ref (length w.nodes))) d) (push_node w c None d)) (ref (cond b (length w.nodes + 1) (length w.nodes))) ≡ Some d
      go true =
          let x = node_with (Some (ref (length w.nodes))) in
          let size : length (w.nodes ++ the_dict_node ∷ []) ≡ length w.nodes + 1 = length-append w.nodes (the_dict_node ∷ []) in
          subst (λ n. held (slice_get ((w.nodes ++ the_dict_node ∷ []) ++ x ∷ []) n) ≡ Some d) size (ap held (get-end (w.nodes ++ the_dict_node ∷ []) x))
      go false = ap held (get-end w.nodes (node_with None))

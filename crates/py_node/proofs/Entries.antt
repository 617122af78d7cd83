-- Names with values: the words of the map are those of the attributes.
use Rattle.py_node.proofs.Below.{subst, arith, ℕ, zero, suc, Bool, true, false, cond, eqb, List, [], take, refl, sym, ap, ◌∙◌, eqb-true, AllByRecursion, IsDistinct, keys_of, insert_entry, shift_remove_entry, PyStrInterned, with_value, without_key, is_same_name, AreNamesDistinct}
use Rattle.std.proofs.Common.{◌≡◌, ◌∷◌, slice_get, Some}

same_turned : (a b : PyStrInterned) → is_same_name a b ≡ is_same_name b a
same_turned a b = grind arith

module _ {V : Type 0} where
  -- an insertion gives the name the value
  pub insert_entry-with_value : (attrs : List (PyStrInterned × V)) (name : PyStrInterned) (v : V) → insert_entry is_same_name attrs name v ≡ with_value is_same_name attrs name v
  insert_entry-with_value [] name v = refl
  insert_entry-with_value (a ∷ attrs) name v =
      ap (λ b. cond b ((a.0, v) ∷ attrs) (a ∷ insert_entry is_same_name attrs name v)) (same_turned name a.0)
      ∙ ap (λ r. cond (is_same_name a.0 name) ((a.0, v) ∷ attrs) (a ∷ r)) (insert_entry-with_value attrs name v)

  -- what holds of all names holds of the name at a place
  name_at : (P : PyStrInterned → Type 0) (attrs : List (PyStrInterned × V)) (i : ℕ) (e : PyStrInterned × V) → AllByRecursion P (keys_of attrs) → slice_get attrs i ≡ Some e → P e.0
  name_at P [] i e all at = cc
  name_at P (a ∷ attrs) zero e all at = subst (λ d. P d.0) (let same : a ≡ e = cc at in same) all.0
  name_at P (a ∷ attrs) (suc i) e all at = name_at P attrs i e all.1 at

  -- the attributes from the front on, each inserted behind those before it
  pub with_value-next : (attrs : List (PyStrInterned × V)) (i : ℕ) (e : PyStrInterned × V) → AreNamesDistinct attrs → slice_get attrs i ≡ Some e → with_value is_same_name (take i attrs) e.0 e.1 ≡ take (suc i) attrs
  unfolding IsDistinct
  with_value-next [] i e apart at = cc
  with_value-next (a ∷ attrs) zero e apart at = ap (λ d. d ∷ []) (let same : e ≡ a = cc at in same)
  with_value-next (a ∷ attrs) (suc i) e apart at =
      ap (λ b. cond b ((a.0, e.1) ∷ take i attrs) (a ∷ with_value is_same_name (take i attrs) e.0 e.1)) (name_at (λ k. is_same_name a.0 k ≡ false) attrs i e apart.0 at)
      ∙ ap (λ r. a ∷ r) (with_value-next attrs i e apart.1 at)

  -- a name that is not there is not taken out
  pub without-absent : (n : PyStrInterned) (attrs : List (PyStrInterned × V)) → AllByRecursion (λ k. is_same_name n k ≡ false) (keys_of attrs) → without_key is_same_name attrs n ≡ attrs
  without-absent n [] h = refl
  without-absent n (a ∷ attrs) h =
      ap (λ b. cond b (without_key is_same_name attrs n) (a ∷ without_key is_same_name attrs n)) (same_turned a.0 n ∙ h.0) ∙ ap (λ r. a ∷ r) (without-absent n attrs h.1)

  -- where no name stands twice, the first that is taken out is the only one
  pub removed-without : (attrs : List (PyStrInterned × V)) (n : PyStrInterned) → AreNamesDistinct attrs → shift_remove_entry (is_same_name n) attrs ≡ without_key is_same_name attrs n
  unfolding IsDistinct
  removed-without [] n d = refl
  removed-without (a ∷ attrs) n d = go (is_same_name n a.0) refl (removed-without attrs n d.1)
    where
      go : (b : Bool) → is_same_name n a.0 ≡ b → shift_remove_entry (is_same_name n) attrs ≡ without_key is_same_name attrs n → cond b attrs (a ∷ shift_remove_entry (is_same_name n) attrs) ≡ cond (is_same_name a.0 n) (without_key is_same_name attrs n) (a ∷ without_key is_same_name attrs n)
      go true e more =
          let same : n.0 ≡ a.0.0 = eqb-true n.0 a.0.0 e in
          let apart : AllByRecursion (λ k. is_same_name n k ≡ false) (keys_of attrs) =
          subst (λ (m : ℕ). AllByRecursion (λ k. eqb m k.0 ≡ false) (keys_of attrs)) (sym same) d.0 in
          sym (without-absent n attrs apart) ∙ ap (λ b. cond b (without_key is_same_name attrs n) (a ∷ without_key is_same_name attrs n)) (sym (same_turned a.0 n ∙ e))
      go false e more = ap (λ r. a ∷ r) more ∙ ap (λ b. cond b (without_key is_same_name attrs n) (a ∷ without_key is_same_name attrs n)) (sym (same_turned a.0 n ∙ e))

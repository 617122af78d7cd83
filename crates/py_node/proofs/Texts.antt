-- Texts in a table: one more at the end, and what a look-up says.
use Rattle.py_node.proofs.Below.{ℕ, zero, suc, inl, inr, Bool, true, false, cond, List, [], map, length, refl, sym, ap, ◌∙◌, true≢false, find, list_any, bytes_eq, bytes_eq-Decides, insert_key, AreDistinct, Stands}
use Rattle.std.proofs.Common.{◌≡◌, ◌⊎◌, ◌||◌, if◌then◌else◌, ◌∷◌, ◌++◌, slice_get, Some}

module _ {X : Type 0} where
  -- a list keeps its items where more come behind
  pub get-append : (xs ys : List X) (n : ℕ) (x : X) → slice_get xs n ≡ Some x → slice_get (xs ++ ys) n ≡ Some x
  get-append [] ys n x h = cc
  get-append (a ∷ xs) ys zero x h = h
  get-append (a ∷ xs) ys (suc n) x h = get-append xs ys n x h

  -- the item behind a list stands at its length
  pub get-last : (xs : List X) (x : X) → slice_get (xs ++ x ∷ []) (length xs) ≡ Some x
  get-last [] x = refl
  get-last (a ∷ xs) x = get-last xs x

  -- what stands in a list with one more stands in the list, or is the one more
  pub get-pushed : (xs : List X) (y : X) (n : ℕ) (x : X) → slice_get (xs ++ y ∷ []) n ≡ Some x → (slice_get xs n ≡ Some x) ⊎ ((n ≡ length xs) × (y ≡ x))
  get-pushed [] y zero x h = let e : y ≡ x = cc h in inr (refl, e)
  get-pushed [] y (suc n) x h = cc
  get-pushed (a ∷ xs) y zero x h = inl h
  get-pushed (a ∷ xs) y (suc n) x h =
      elim (get-pushed xs y n x h) [
        | inl e ↦ inl e
        | inr e ↦ inr (ap suc e.0, e.1)
      ]

-- a text that the table lacks keeps it distinct
pub AreDistinct-push : (texts : List (List ℕ)) (t : List ℕ) → AreDistinct texts → (Stands texts t → ⊥) → AreDistinct (texts ++ t ∷ [])
AreDistinct-push texts t apart new n m x at also =
    elim (get-pushed texts t n x at) [
      | inl a ↦ elim (get-pushed texts t m x also) [
        | inl b ↦ apart n m x a b
        | inr b ↦ absurd (new (n, a ∙ ap Some (sym b.1)))
      ]
      | inr a ↦ elim (get-pushed texts t m x also) [
        | inl b ↦ absurd (new (m, b ∙ ap Some (sym a.1)))
        | inr b ↦ a.0 ∙ sym b.0
      ]
    ]

module _ {X : Type 0} (f : X → List ℕ) (t : List ℕ) where
  -- what a search by the text finds is spelled so
  pub found_is : (ks : List X) (x : X) → find (λ k. bytes_eq t (f k)) ks ≡ Some x → t ≡ f x
  found_is [] x h = cc
  found_is (k ∷ ks) x h = by (bytes_eq t (f k)) refl (found_is ks x)
    where
      by : (b : Bool) → bytes_eq t (f k) ≡ b → (find (λ k. bytes_eq t (f k)) ks ≡ Some x → t ≡ f x) → t ≡ f x
      by true e rest =
          let same : Some k ≡ Some x = sym (ap (λ b. cond b (Some k) (find (λ k. bytes_eq t (f k)) ks)) e) ∙ h in
          let it : k ≡ x = cc same in
          (bytes_eq-Decides t (f k)).0 e ∙ ap f it
      by false e rest = rest (sym (ap (λ b. cond b (Some k) (find (λ k. bytes_eq t (f k)) ks)) e) ∙ h)

  -- a text that no key has does not stand among theirs
  pub none_stands : (ks : List X) → list_any (λ k. bytes_eq t (f k)) ks ≡ false → (n : ℕ) → slice_get (map f ks) n ≡ Some t → ⊥
  none_stands [] h n at = cc
  none_stands (k ∷ ks) h n at = by (bytes_eq t (f k)) refl (none_stands ks) n at
    where
      by : (b : Bool) → bytes_eq t (f k) ≡ b
          → (list_any (λ k. bytes_eq t (f k)) ks ≡ false → (n : ℕ) → slice_get (map f ks) n ≡ Some t → ⊥)
          → (n : ℕ) → slice_get (f k ∷ map f ks) n ≡ Some t → ⊥
      by true e rest n at = true≢false (sym (ap (λ b. b || list_any (λ k. bytes_eq t (f k)) ks) e) ∙ h)
      by false e rest zero at =
          let same : t ≡ f k = cc at in
          true≢false (sym ((bytes_eq-Decides t (f k)).1 same) ∙ e)
      by false e rest (suc n) at = rest (sym (ap (λ b. b || list_any (λ k. bytes_eq t (f k)) ks) e) ∙ h) n at

  -- and a text that does not stand is no key's
  pub stands_not : (ks : List X) → (Stands (map f ks) t → ⊥) → list_any (λ k. bytes_eq t (f k)) ks ≡ false
  stands_not [] new = refl
  stands_not (k ∷ ks) new = by (bytes_eq t (f k)) refl (stands_not ks (λ s. new (suc s.0, s.1)))
    where
      by : (b : Bool) → bytes_eq t (f k) ≡ b → list_any (λ k. bytes_eq t (f k)) ks ≡ false → list_any (λ k. bytes_eq t (f k)) (k ∷ ks) ≡ false
      by true e rest = absurd (new (0, ap Some (sym ((bytes_eq-Decides t (f k)).0 e))))
      by false e rest = ap (λ b. b || list_any (λ k. bytes_eq t (f k)) ks) e ∙ rest

  -- the texts of keys with one more
  pub texts-push : (ks : List X) (k : X) → map f (ks ++ k ∷ []) ≡ map f ks ++ f k ∷ []
  texts-push [] k = refl
  texts-push (a ∷ ks) k = ap (λ ts. f a ∷ ts) (texts-push ks k)

  -- the texts of keys after a new one is inserted
  pub texts-insert : (ks : List X) (k : X) → t ≡ f k → (Stands (map f ks) t → ⊥) → map f (insert_key (λ a b. bytes_eq (f a) (f b)) ks k) ≡ map f ks ++ t ∷ []
  texts-insert ks k same new =
      ap (λ b. map f (if b then ks else ks ++ k ∷ [])) (ap (λ u. list_any (λ x. bytes_eq u (f x)) ks) (sym same) ∙ stands_not ks new)
      ∙ texts-push ks k ∙ ap (λ u. map f ks ++ u ∷ []) (sym same)

-- The keys of names, where the code holds the names by reference.
use Rattle.order_check.proofs.Below.{ℕ, suc, nat_lt, Bool, true, false, not, cond, List, [], length, map, Option, Some, None, position, refl, ap, sym, ◌∙◌, arith, Bor, list_any, position_or_len, bytes_eq, option_and_then, lt-ltb, le-ltb, length-map, Data, as_str, Text, key_of, texts, base_key}
use Rattle.std.proofs.Common.{◌≡◌, ◌+◌, ◌<◌, ◌≤◌, ◌||◌, ◌∷◌, is_some}

module _ {A B : Type 0} (f : A → B) (p : B → Bool) where
  position_or_len-map : (xs : List A) → position_or_len p (map f xs) ≡ position_or_len (λ x. p (f x)) xs
  position_or_len-map [] = refl
  position_or_len-map (x ∷ xs) = ap (λ n. cond (not (p (f x))) (1 + n) 0) (position_or_len-map xs)

  -- the place in what a list holds
  position-map : (xs : List A) → position p (map f xs) ≡ position (λ x. p (f x)) xs
  position-map xs =
      let same = position_or_len-map xs in
      ap (λ n. cond (nat_lt n (length (map f xs))) (Some n) None) same
      ∙ ap (λ m. cond (nat_lt (position_or_len (λ x. p (f x)) xs) m) (Some (position_or_len (λ x. p (f x)) xs)) None) (length-map xs f)

module _ {X : Type 0} (q : X → Bool) where
  place-found : (xs : List X) → list_any q xs ≡ true → position_or_len q xs < length xs
  place-found [] h = cc
  place-found (x ∷ xs) h = by (q x) refl (place-found xs)
    where
      by : (b : Bool) → q x ≡ b → (list_any q xs ≡ true → position_or_len q xs < length xs) → position_or_len q (x ∷ xs) < suc (length xs)
      by true e rest = rw e (omega arith)
      by false e rest = let less = rest (sym (ap (λ b. b || list_any q xs) e) ∙ h) in rw e (omega arith)

  place-missing : (xs : List X) → list_any q xs ≡ false → position_or_len q xs ≡ length xs
  place-missing [] h = refl
  place-missing (x ∷ xs) h = by (q x) refl (place-missing xs)
    where
      by : (b : Bool) → q x ≡ b → (list_any q xs ≡ false → position_or_len q xs ≡ length xs) → position_or_len q (x ∷ xs) ≡ suc (length xs)
      by true e rest = let no : true ≡ false = sym (ap (λ b. b || list_any q xs) e) ∙ h in cc
      by false e rest = let same = rest (sym (ap (λ b. b || list_any q xs) e) ∙ h) in rw e (omega arith)

  position-found : (xs : List X) → list_any q xs ≡ true → is_some (position q xs) ≡ true
  position-found xs h = ap (λ b. is_some (cond b (Some (position_or_len q xs)) None)) (lt-ltb (position_or_len q xs) (length xs) (place-found xs h))

  position-missing : (xs : List X) → list_any q xs ≡ false → position q xs ≡ None
  position-missing xs h =
      let past : length xs ≤ position_or_len q xs = omega (arith, place-missing xs h) in
      ap (λ b. cond b (Some (position_or_len q xs)) None) (le-ltb (position_or_len q xs) (length xs) past)

module _ (names : List (Bor Text)) (name : Text) where
  -- the key of a name, as the table of names gives it
  key_of-texts : key_of (texts names) name ≡ position (λ n. bytes_eq name n.now) names
  key_of-texts = position-map (λ (n : Bor Text). n.now) (bytes_eq name) names

  -- a name that the table has
  pub key-found : list_any (λ n. bytes_eq name n.now) names ≡ true → is_some (key_of (texts names) name) ≡ true
  key-found h = ap is_some key_of-texts ∙ position-found (λ (n : Bor Text). bytes_eq name n.now) names h

  -- a name that it lacks has no key
  pub key-missing : list_any (λ n. bytes_eq name n.now) names ≡ false → key_of (texts names) name ≡ None
  key-missing h = key_of-texts ∙ position-missing (λ (n : Bor Text). bytes_eq name n.now) names h

  -- and is put behind the others
  pub place-next : list_any (λ n. bytes_eq name n.now) names ≡ false → position_or_len (λ n. bytes_eq name n.now) names ≡ length (texts names)
  place-next h = place-missing (λ (n : Bor Text). bytes_eq name n.now) names h ∙ sym (length-map names (λ (n : Bor Text). n.now))

  -- the key that an item names
  pub base_key-is : (d : Data) (k : Option ℕ) → as_str d ≡ Some name → k ≡ position (λ n. bytes_eq name n.now) names → base_key (texts names) d ≡ k
  base_key-is d k is found = ap (option_and_then (key_of (texts names))) is ∙ key_of-texts ∙ sym found

-- what the table says of a new name
pub was_there : (b : Bool) → false ≡ not b → b ≡ true
was_there true h = refl
was_there false h = cc

pub was_new : (b : Bool) → true ≡ not b → b ≡ false
was_new true h = cc
was_new false h = refl

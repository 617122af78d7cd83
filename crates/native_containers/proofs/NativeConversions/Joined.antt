-- The text of a container, as it is put together.
use Rattle.native_containers.proofs.Below.{◌∙◌, ℕ, suc, true, false, cond, List, length, get_or, drop, Ok, Err, refl, sym, ap, arith, append_assoc, append-nil, length-append, tests, drop_all, drop_more, length-map, TooLong, PyObjectRef, raised, Text, PlainWorld, fault, most_items, in_length, Container, before, closing, container_text, opening, text_at, texts_at, texts_from}
use Rattle.std.proofs.Common.{◌≡◌, ◌+◌, ◌<◌, ◌≤◌, ◌∷◌, ◌++◌, nat_le}

-- so many bytes are not too long, or they are
pub short : (x : Text) (n : ℕ) → n ≡ length x → nat_le n most_items ≡ true → in_length x ≡ Ok x
short x n e h = ap (λ b. cond b (Ok x) (fault TooLong)) (ap (λ n. nat_le n most_items) (sym e) ∙ h)

pub long : (x : Text) (n : ℕ) → n ≡ length x → nat_le n most_items ≡ false → in_length x ≡ Err (raised TooLong)
long x n e h = ap (λ b. cond b (Ok x) (fault TooLong)) (ap (λ n. nat_le n most_items) (sym e) ∙ h)

module _ (u : PlainWorld) (c : Container) (vs : List PyObjectRef) where
  -- what there is before the end
  abbrev pub whole : Text
  whole = opening c ++ texts_from c 0 (texts_at u vs)

  -- this is there before the part at a place
  abbrev pub UpTo : Text → ℕ → Type 0
  UpTo x i = whole ≡ x ++ texts_from c i (texts_at u (drop i vs))

  pub part-more : (x new : Text) (i : ℕ) (v d : PyObjectRef) → i < length vs → v ≡ get_or vs i d → new ≡ x ++ (before c i ++ text_at u v) → UpTo x i → UpTo new (i + 1)
  part-more x new i v d l is made h =
      let rest = texts_from c (i + 1) (texts_at u (drop (i + 1) vs)) in
      let here : drop i vs ≡ v ∷ drop (i + 1) vs = drop_more vs i d l ∙ ap (λ v. v ∷ drop (i + 1) vs) (sym is) in
      let next : suc i ≡ i + 1 = omega arith in
      h
      ∙ ap (λ ws. x ++ texts_from c i (texts_at u ws)) here
      ∙ ap (λ n. x ++ (before c i ++ (text_at u v ++ texts_from c n (texts_at u (drop (i + 1) vs))))) next
      ∙ ap (λ y. x ++ y) (sym (append_assoc (before c i) (text_at u v) rest))
      ∙ sym (append_assoc x (before c i ++ text_at u v) rest)
      ∙ ap (λ y. y ++ rest) (sym made)

  -- what is too long before the end is so at the end
  pub too-long : (x : Text) (n i : ℕ) → n ≡ length x → most_items < n → UpTo x i → in_length (container_text c (texts_at u vs)) ≡ Err (raised TooLong)
  too-long x n i e l h =
      let all = container_text c (texts_at u vs) in
      let rest = texts_from c i (texts_at u (drop i vs)) in
      let behind = closing c (length (texts_at u vs)) in
      let count : length all ≡ (n + length rest) + length behind = length-append whole behind ∙ ap (λ k. k + length behind) (ap length h ∙ length-append x rest ∙ ap (λ k. k + length rest) (sym e)) in
      long all (length all) refl (over (length all) (omega (arith, count)))
    where
      over : (k : ℕ) → most_items < k → nat_le k most_items ≡ false
      over k l = grind (arith, tests)

  -- past all parts
  pub closed : (x new : Text) (i n : ℕ) → length vs ≤ i → n ≡ length vs → new ≡ x ++ closing c n → UpTo x i → container_text c (texts_at u vs) ≡ new
  closed x new i n l e made h =
      ap (λ y. y ++ closing c (length (texts_at u vs))) (h ∙ ap (λ ws. x ++ texts_from c i (texts_at u ws)) (drop_all i vs l) ∙ append-nil x)
      ∙ ap (λ k. x ++ closing c k) (length-map vs (text_at u) ∙ sym e)
      ∙ sym made

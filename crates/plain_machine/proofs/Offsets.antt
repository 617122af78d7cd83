-- Offsets stay those of places where classes keep their layouts and their members, and where one more class is made.
use Rattle.plain_machine.proofs.Below.{ℕ, Bool, true, false, cond, not, List, [], Option, Some, None, inl, inr, refl, sym, ap, ◌∙◌, arith, nat_lt, is_some, option_map, option_and_then, ltb-true, ltb-false, Includes, Class, Classes, class_at, lin, with_class, with_changed, built_ins, is_empty, has_members, is_solid, layout_along, layout, member_count, members_in, place_along, place_at, at-before, at-changed, lin-classes, lin-push, is_solid-push, layout_along-agrees, layout-agrees, lin-kept, member_count-kept, is_below, is_offset}
use Rattle.std.proofs.Common.{◌≡◌, ◌+◌, ◌-◌, ◌<◌, ◌||◌, ◌∷◌, ◌++◌}

module _ {K : Type 0} (t u : Classes K) where
  members-agree : (line : List ℕ) → ((x : ℕ) → member_count (class_at t x) ≡ member_count (class_at u x)) → members_in t line ≡ members_in u line
  members-agree [] h = refl
  members-agree (c ∷ cs) h =
      let a = h c in
      let r = members-agree cs h in
      omega (arith, a, r)

  counts-agree : (o : Option (List ℕ)) → ((x : ℕ) → member_count (class_at t x) ≡ member_count (class_at u x)) → option_map (members_in t) o ≡ option_map (members_in u) o
  counts-agree None h = refl
  counts-agree (Some line) h = ap Some (members-agree line h)

  -- a class with one layout in both, whose classes have as many members
  pub offset-agrees : (c : ℕ) (o : Option ℕ) → layout t c ≡ layout u c → ((x : ℕ) → member_count (class_at t x) ≡ member_count (class_at u x)) → is_offset t c o ≡ is_offset u c o
  offset-agrees c None e h = refl
  offset-agrees c (Some n) e h = ap (λ k. is_below k n) (ap (option_map (members_in t)) e ∙ counts-agree (layout u c) h)

module _ {K : Type 0} (f : Class K → Class K) (numbers : (k : Class K) → (f k).number ≡ k.number) (t : Classes K) (c : ℕ) (bases : (k : Class K) → (f k).bases ≡ k.bases) (members : (k : Class K) → (f k).members ≡ k.members) where
  solid-kept : (x : ℕ) → is_solid (with_changed f t c) x ≡ is_solid t x
  solid-kept x =
      ap (λ w. nat_lt x built_ins || w) (at-changed f numbers has_members (λ k. ap (λ ms. not (is_empty ms)) (members k)) t c x)

  -- one class is changed, and keeps its number, its bases and its members
  pub offset-kept : (x : ℕ) (o : Option ℕ) → is_offset (with_changed f t c) x o ≡ is_offset t x o
  offset-kept x o =
      offset-agrees (with_changed f t c) t x o (layout-agrees (with_changed f t c) t x (lin-kept f numbers t c bases members x) (λ line y e h. solid-kept y)) (member_count-kept f numbers t c members)

module _ {K : Type 0} where
  pub members-append : (t : Classes K) (xs ys : List ℕ) → members_in t (xs ++ ys) ≡ members_in t xs + members_in t ys
  members-append t [] ys = omega arith
  members-append t (x ∷ xs) ys = let r = members-append t xs ys in omega (arith, r)

  -- along a layout, whose classes are of the line
  along-agrees : (t u : Classes K) (line : List ℕ) → ((x : ℕ) → Includes line x → member_count (class_at t x) ≡ member_count (class_at u x)) → members_in t (layout_along t line) ≡ members_in u (layout_along t line)
  along-agrees t u [] h = refl
  along-agrees t u (c ∷ cs) h =
      let own = cond (is_solid t c) (c ∷ []) [] in
      let a = members-append t (layout_along t cs) own in
      let b = members-append u (layout_along t cs) own in
      let r = along-agrees t u cs (λ x k. h x (inr k)) in
      let s = alone (is_solid t c) in
      omega (arith, a, b, r, s)
    where
      alone : (w : Bool) → members_in t (cond w (c ∷ []) []) ≡ members_in u (cond w (c ∷ []) [])
      alone true = ap (λ n. n + 0) (h c (inl refl))
      alone false = refl

  -- one more class
  pub offset-push : (t : Classes K) (k : Class K) (c : ℕ) (o : Option ℕ) → is_offset t c o ≡ true → is_offset (with_class t k) c o ≡ true
  offset-push t k c None e = refl
  offset-push t k c (Some n) e = go (lin t c) refl e
    where
      go : (l : Option (List ℕ)) → lin t c ≡ l → is_below (option_map (members_in t) (option_and_then (λ line. Some (layout_along t line)) l)) n ≡ true → is_offset (with_class t k) c (Some n) ≡ true
      go None l h = cc
      go (Some line) l h =
          let more = with_class t k in
          ap (λ o. is_below (option_map (members_in more) (option_and_then (λ line. Some (layout_along more line)) o)) n) (lin-push t k c line l)
          ∙ ap (λ xs. nat_lt n (members_in more xs)) (sym (layout_along-agrees t more line (λ x m. sym (is_solid-push t k x (lin-classes t c line x l m)))))
          ∙ ap (nat_lt n) (sym (along-agrees t more line (λ x m. ap member_count (sym (at-before t k x (lin-classes t c line x l m))))))
          ∙ h

  along-there : (t : Classes K) (line : List ℕ) (n : ℕ) → n < members_in t line → is_some (place_along t line n) ≡ true
  along-there t [] n l = absurd (omega arith)
  along-there t (c ∷ cs) n l = go (nat_lt n (member_count (class_at t c))) refl (along-there t cs (n - member_count (class_at t c)))
    where
      go : (b : Bool) → nat_lt n (member_count (class_at t c)) ≡ b → (n - member_count (class_at t c) < members_in t cs → is_some (place_along t cs (n - member_count (class_at t c))) ≡ true) → is_some (cond b (Some (c, n)) (place_along t cs (n - member_count (class_at t c)))) ≡ true
      go true e more = refl
      go false e more = let past = ltb-false n (member_count (class_at t c)) e in more (omega (arith, l, past))

  -- an offset stands for a place
  pub offset-place : (t : Classes K) (c n : ℕ) → is_offset t c (Some n) ≡ true → is_some (place_at t c n) ≡ true
  offset-place t c n e = go (layout t c) e
    where
      go : (o : Option (List ℕ)) → is_below (option_map (members_in t) o) n ≡ true → is_some (option_and_then (λ line. place_along t line n) o) ≡ true
      go None e = cc
      go (Some line) e = along-there t line n (ltb-true n (members_in t line) e)

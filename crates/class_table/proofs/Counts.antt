-- How many places the objects of a class have: the members of the classes along its linearisation, since only solid classes have any.
use Rattle.class_table.proofs.Below.{ℕ, Bool, true, false, cond, List, [], length, Option, Some, None, inl, inr, refl, sym, ap, ◌∙◌, arith, nat_lt, option_map, option_and_then, ltb-true, ltb-false, lt-ltb, Includes, Class, Classes, class_at, lin, limit, built_ins, has_members, is_solid, layout_along, member_count, members_in, place_along, place_count, with_class, Includes-equal, at-before, at-last, old-or-last, lin-classes, lin-distinct, lin-push}
use Rattle.std.proofs.Common.{◌≡◌, ◌+◌, ◌-◌, ◌<◌, ◌≤◌, ◌||◌, ◌∷◌, ◌++◌}

module _ {K : Type 0} where
  members-append : (t : Classes K) (xs ys : List ℕ) → members_in t (xs ++ ys) ≡ members_in t xs + members_in t ys
  members-append t [] ys = omega arith
  members-append t (x ∷ xs) ys = let r = members-append t xs ys in omega (arith, r)

  none-of : (o : Option (Class K)) (a : Bool) → (a || has_members o) ≡ false → member_count o ≡ 0
  none-of None a e = refl
  none-of (Some k) true e = cc
  none-of (Some k) false e = empty k.members e
    where
      empty : (ms : List K) → has_members (Some (record k { members = ms })) ≡ false → length ms ≡ 0
      empty [] e = refl
      empty (m ∷ ms) e = cc

  members-layout : (t : Classes K) (line : List ℕ) → members_in t (layout_along t line) ≡ members_in t line
  members-layout t [] = refl
  members-layout t (c ∷ cs) = go (is_solid t c) refl (members-layout t cs)
    where
      go : (w : Bool) → is_solid t c ≡ w → members_in t (layout_along t cs) ≡ members_in t cs → members_in t (layout_along t cs ++ cond w (c ∷ []) []) ≡ member_count (class_at t c) + members_in t cs
      go true e r = let a = members-append t (layout_along t cs) (c ∷ []) in omega (arith, a, r)
      go false e r =
          let a = members-append t (layout_along t cs) [] in
          let n = none-of (class_at t c) (nat_lt c built_ins) e in
          omega (arith, a, r, n)

  pub count-line : (t : Classes K) (c : ℕ) (line : List ℕ) → lin t c ≡ Some line → place_count t c ≡ Some (members_in t line)
  count-line t c line e =
      ap (λ o. option_map (members_in t) (option_and_then (λ line. Some (layout_along t line)) o)) e ∙ ap Some (members-layout t line)

  pub members-agree : (t u : Classes K) (line : List ℕ) → ((x : ℕ) → Includes line x → member_count (class_at t x) ≡ member_count (class_at u x)) → members_in t line ≡ members_in u line
  members-agree t u [] h = refl
  members-agree t u (c ∷ cs) h =
      let a = h c (inl refl) in
      let r = members-agree t u cs (λ x k. h x (inr k)) in
      omega (arith, a, r)

  -- a class with the same linearisation in two tables, whose classes have as many members in both
  pub count-agrees : (t u : Classes K) (c : ℕ) (line : List ℕ) → lin t c ≡ Some line → lin u c ≡ Some line → ((x : ℕ) → Includes line x → member_count (class_at t x) ≡ member_count (class_at u x)) → place_count t c ≡ place_count u c
  count-agrees t u c line e f h = count-line t c line e ∙ ap Some (members-agree t u line h) ∙ sym (count-line u c line f)

  -- one more class
  pub count-push : (t : Classes K) (k : Class K) (c : ℕ) (line : List ℕ) → lin t c ≡ Some line → place_count (with_class t k) c ≡ place_count t c
  count-push t k c line e =
      count-agrees (with_class t k) t c line (lin-push t k c line e) e (λ x h. ap member_count (at-before t k x (lin-classes t c line x e h)))

  pub count-last : (t : Classes K) (k : Class K) (rest : List ℕ) → limit t ≤ k.number → lin (with_class t k) k.number ≡ Some (k.number ∷ rest) → place_count (with_class t k) k.number ≡ Some (length k.members + members_in t rest)
  count-last t k rest l e =
      let once = lin-distinct (with_class t k) k.number (k.number ∷ rest) e in
      let own = ap member_count (at-last t k l) in
      let others = members-agree (with_class t k) t rest (λ x h. ap member_count (elim (old-or-last t k x (lin-classes (with_class t k) k.number (k.number ∷ rest) x e (inr h))) [
        | inl p ↦ at-before t k x p
        | inr q ↦ absurd (once.0 (Includes-equal rest x k.number q h))
      ])) in
      count-line (with_class t k) k.number (k.number ∷ rest) e ∙ ap Some (omega (arith, own, others))

  -- the place that an offset stands for, along lists that follow one another
  along-first : (t : Classes K) (xs ys : List ℕ) (n : ℕ) → n < members_in t xs → place_along t (xs ++ ys) n ≡ place_along t xs n
  along-first t [] ys n l = absurd (omega arith)
  along-first t (x ∷ xs) ys n l = go (nat_lt n (member_count (class_at t x))) refl (along-first t xs ys (n - member_count (class_at t x)))
    where
      go : (b : Bool) → nat_lt n (member_count (class_at t x)) ≡ b → (n - member_count (class_at t x) < members_in t xs → place_along t (xs ++ ys) (n - member_count (class_at t x)) ≡ place_along t xs (n - member_count (class_at t x))) → cond b (Some (x, n)) (place_along t (xs ++ ys) (n - member_count (class_at t x))) ≡ cond b (Some (x, n)) (place_along t xs (n - member_count (class_at t x)))
      go true e more = refl
      go false e more = let past = ltb-false n (member_count (class_at t x)) e in more (omega (arith, l, past))

  along-rest : (t : Classes K) (xs ys : List ℕ) (n : ℕ) → members_in t xs ≤ n → place_along t (xs ++ ys) n ≡ place_along t ys (n - members_in t xs)
  along-rest t [] ys n l = ap (place_along t ys) (omega arith)
  along-rest t (x ∷ xs) ys n l = go (nat_lt n (member_count (class_at t x))) refl (along-rest t xs ys (n - member_count (class_at t x)))
    where
      go : (b : Bool) → nat_lt n (member_count (class_at t x)) ≡ b → (members_in t xs ≤ n - member_count (class_at t x) → place_along t (xs ++ ys) (n - member_count (class_at t x)) ≡ place_along t ys ((n - member_count (class_at t x)) - members_in t xs)) → cond b (Some (x, n)) (place_along t (xs ++ ys) (n - member_count (class_at t x))) ≡ place_along t ys (n - (member_count (class_at t x) + members_in t xs))
      go true e more = let below = ltb-true n (member_count (class_at t x)) e in absurd (omega (arith, l, below))
      go false e more =
          let past = ltb-false n (member_count (class_at t x)) e in more (omega (arith, l, past)) ∙ ap (place_along t ys) (omega (arith, l, past))

  -- no place is past the last
  pub along-none : (t : Classes K) (xs : List ℕ) (n : ℕ) → members_in t xs ≤ n → place_along t xs n ≡ None
  along-none t [] n l = refl
  along-none t (x ∷ xs) n l = go (nat_lt n (member_count (class_at t x))) refl (along-none t xs (n - member_count (class_at t x)))
    where
      go : (b : Bool) → nat_lt n (member_count (class_at t x)) ≡ b → (members_in t xs ≤ n - member_count (class_at t x) → place_along t xs (n - member_count (class_at t x)) ≡ None) → cond b (Some (x, n)) (place_along t xs (n - member_count (class_at t x))) ≡ None
      go true e more = let below = ltb-true n (member_count (class_at t x)) e in absurd (omega (arith, l, below))
      go false e more = let past = ltb-false n (member_count (class_at t x)) e in more (omega (arith, l, past))

  pub layout-none : (t : Classes K) (line : List ℕ) (n : ℕ) → members_in t line ≤ n → place_along t (layout_along t line) n ≡ None
  layout-none t line n l = let same = members-layout t line in along-none t (layout_along t line) n (omega (arith, l, same))

  -- the first class of a linearisation has the last places
  pub layout-below : (t : Classes K) (c : ℕ) (cs : List ℕ) (n : ℕ) → n < members_in t cs → place_along t (layout_along t (c ∷ cs)) n ≡ place_along t (layout_along t cs) n
  layout-below t c cs n l = let same = members-layout t cs in along-first t (layout_along t cs) (cond (is_solid t c) (c ∷ []) []) n (omega (arith, l, same))

  pub layout-own : (t : Classes K) (c : ℕ) (cs : List ℕ) (n : ℕ) → members_in t cs ≤ n → n < members_in t (c ∷ cs) → place_along t (layout_along t (c ∷ cs)) n ≡ Some (c, n - members_in t cs)
  layout-own t c cs n l m =
      let same = members-layout t cs in
      along-rest t (layout_along t cs) (cond (is_solid t c) (c ∷ []) []) n (omega (arith, l, same))
      ∙ ap (λ k. place_along t (cond (is_solid t c) (c ∷ []) []) (n - k)) same
      ∙ go (is_solid t c) refl
    where
      own : nat_lt (n - members_in t cs) (member_count (class_at t c)) ≡ true
      own = lt-ltb (n - members_in t cs) (member_count (class_at t c)) (omega (arith, l, m))

      go : (w : Bool) → is_solid t c ≡ w → place_along t (cond w (c ∷ []) []) (n - members_in t cs) ≡ Some (c, n - members_in t cs)
      go true e = ap (λ b. cond b (Some (c, n - members_in t cs)) None) own
      go false e = let none = none-of (class_at t c) (nat_lt c built_ins) e in absurd (omega (arith, l, m, none))

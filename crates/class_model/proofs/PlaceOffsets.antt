-- Each place of a class's objects has an offset of its own, below the count of their places, and the same one in every subclass.
use Rattle.class_model.proofs.Below.{ℕ, Bool, true, false, cond, eqb, not, List, [], Option, Some, None, inl, inr, refl, sym, ap, subst, ◌∙◌, arith, is_some, nat_lt, option_map, option_and_then, and_parts, both_ways, eq-eqb, eqb-false, eqb-true, le-ltb, lt-ltb, ltb-false, ltb-true, ne_eqb, Includes, Distinct, Class, Classes, class_at, is_along, is_class, is_sub, lin, built_ins, is_empty, has_members, is_solid, layout_along, layout, member_count, is_place, members_in, before, place_count, first_place, place_along, place_at, with_changed, offset_of, AreSound}
use Rattle.std.proofs.Common.{◌≡◌, ◌+◌, ◌-◌, ◌<◌, ◌≤◌, ◌||◌, ◌∷◌, ◌++◌}
use Rattle.std.specs.Prelude.{◌&&◌}
use Rattle.class_model.proofs.Held.{Includes-equal, Includes-left, Includes-right, Includes-sides}
use Rattle.class_model.proofs.Tests.{Decides-has}
use Rattle.class_model.proofs.Kept.{layout-agrees, lin-kept}
use Rattle.class_model.proofs.Numbers.{at-changed, some-of}
use Rattle.class_model.proofs.Rule.{lin-distinct, lin-classes, lin-held, lin-member}
use Rattle.class_model.proofs.Offsets.{place-keeps}

-- a list with no repeats, and one more at its end
distinct-last : (xs : List ℕ) (c : ℕ) → Distinct xs → (Includes xs c → ⊥) → Distinct (xs ++ c ∷ [])
distinct-last [] c d n = ((λ h. h), tt)
distinct-last (x ∷ xs) c d n =
    ((λ h. elim (Includes-sides xs (c ∷ []) x h) [ inl a ↦ d.0 a | inr b ↦ elim b [ inl e ↦ n (inl (sym e)) | inr f ↦ f ] ]), distinct-last xs c d.1 (λ h. n (inr h)))

module _ {K : Type 0} (t : Classes K) where
  -- a layout has the solid classes of a line
  pub in-layout : (line : List ℕ) (e : ℕ) → Includes (layout_along t line) e → Includes line e × (is_solid t e ≡ true)
  in-layout [] e h = absurd h
  in-layout (c ∷ cs) e h = elim (Includes-sides (layout_along t cs) (cond (is_solid t c) (c ∷ []) []) e h) [ inl k ↦ let r = in-layout cs e k in (inr r.0, r.1) | inr k ↦ go (is_solid t c) refl k ]
    where
      go : (b : Bool) → is_solid t c ≡ b → Includes (cond b (c ∷ []) []) e → Includes (c ∷ cs) e × (is_solid t e ≡ true)
      go true s (inl q) = (inl q, ap (is_solid t) (sym q) ∙ s)
      go true s (inr q) = absurd q
      go false s k = absurd k

  layout-distinct : (line : List ℕ) → Distinct line → Distinct (layout_along t line)
  layout-distinct [] d = tt
  layout-distinct (c ∷ cs) d = go (is_solid t c) (layout-distinct cs d.1)
    where
      go : (b : Bool) → Distinct (layout_along t cs) → Distinct (layout_along t cs ++ cond b (c ∷ []) [])
      go true rest = distinct-last (layout_along t cs) c rest (λ h. d.0 (in-layout cs c h).0)
      go false rest = subst Distinct (sym (nothing-more (layout_along t cs))) rest
        where
          nothing-more : (xs : List ℕ) → xs ++ [] ≡ xs
          nothing-more [] = refl
          nothing-more (x ∷ xs) = ap (λ ys. x ∷ ys) (nothing-more xs)

  -- what an offset tells along a layout
  abbrev IsAt : List ℕ → ℕ → ℕ → ℕ → Type 0
  IsAt xs n d i = Includes xs d × (i < member_count (class_at t d)) × (members_in t (before d xs) + i ≡ n)

  along-at : (xs : List ℕ) (n d i : ℕ) → Distinct xs → place_along t xs n ≡ Some (d, i) → IsAt xs n d i
  along-at [] n d i a q = cc
  along-at (x ∷ xs) n d i a q = go (nat_lt n (member_count (class_at t x))) refl (along-at xs (n - member_count (class_at t x)) d i a.1) q
    where
      go : (b : Bool) → nat_lt n (member_count (class_at t x)) ≡ b → (place_along t xs (n - member_count (class_at t x)) ≡ Some (d, i) → IsAt xs (n - member_count (class_at t x)) d i) → cond b (Some (x, n)) (place_along t xs (n - member_count (class_at t x))) ≡ Some (d, i) → IsAt (x ∷ xs) n d i
      go true h more q =
          let class : Some x ≡ Some d = ap (option_map (λ (p : ℕ × ℕ). p.0)) q in
          let index : Some n ≡ Some i = ap (option_map (λ (p : ℕ × ℕ). p.1)) q in
          let same : x ≡ d = cc in
          let place : n ≡ i = cc in
          let few = ltb-true n (member_count (class_at t x)) h in
          let counts = ap (λ c. member_count (class_at t c)) same in
          (inl same, omega (arith, few, place, counts), ap (λ b. members_in t (cond b [] (x ∷ before d xs)) + i) (eq-eqb x d same) ∙ omega (arith, place))
      go false h more q =
          let rest = more q in
          let past = ltb-false n (member_count (class_at t x)) h in
          let sum = rest.2 in
          let apart : eqb x d ≡ false = ne_eqb x d (λ e. a.0 (Includes-equal xs d x (sym e) rest.0)) in
          (inr rest.0, rest.1, ap (λ b. members_in t (cond b [] (x ∷ before d xs)) + i) apart ∙ omega (arith, past, sum))

  -- and the other way round
  at-along : (xs : List ℕ) (d i : ℕ) → Includes xs d → i < member_count (class_at t d) → place_along t xs (members_in t (before d xs) + i) ≡ Some (d, i)
  at-along [] d i h few = absurd h
  at-along (x ∷ xs) d i h few = go (eqb x d) refl (at-along xs d i)
    where
      go : (b : Bool) → eqb x d ≡ b → (Includes xs d → i < member_count (class_at t d) → place_along t xs (members_in t (before d xs) + i) ≡ Some (d, i)) → place_along t (x ∷ xs) (members_in t (cond b [] (x ∷ before d xs)) + i) ≡ Some (d, i)
      go true e more =
          let same = eqb-true x d e in
          let counts = ap (λ c. member_count (class_at t c)) same in
          let first : 0 + i ≡ i = omega arith in
          ap (place_along t (x ∷ xs)) first
          ∙ ap (λ b. cond b (Some (x, i)) (place_along t xs (i - member_count (class_at t x)))) (lt-ltb i (member_count (class_at t x)) (omega (arith, few, counts)))
          ∙ ap (λ c. Some (c, i)) same
      go false e more =
          let n = (member_count (class_at t x) + members_in t (before d xs)) + i in
          let on : Includes xs d = elim h [ inl q ↦ absurd (eqb-false x d e q) | inr k ↦ k ] in
          let past : n - member_count (class_at t x) ≡ members_in t (before d xs) + i = omega arith in
          ap (λ b. cond b (Some (x, n)) (place_along t xs (n - member_count (class_at t x)))) (le-ltb n (member_count (class_at t x)) (omega arith))
          ∙ ap (place_along t xs) past
          ∙ more on few

  -- the places that a class gives end with the count
  at-below : (xs : List ℕ) (d : ℕ) → Includes xs d → members_in t (before d xs) + member_count (class_at t d) ≤ members_in t xs
  at-below [] d h = absurd h
  at-below (x ∷ xs) d h = go (eqb x d) refl (at-below xs d)
    where
      go : (b : Bool) → eqb x d ≡ b → (Includes xs d → members_in t (before d xs) + member_count (class_at t d) ≤ members_in t xs) → members_in t (cond b [] (x ∷ before d xs)) + member_count (class_at t d) ≤ member_count (class_at t x) + members_in t xs
      go true e more = let counts = ap (λ c. member_count (class_at t c)) (eqb-true x d e) in omega (arith, counts)
      go false e more =
          let on : Includes xs d = elim h [ inl q ↦ absurd (eqb-false x d e q) | inr k ↦ k ] in
          let rest = more on in
          omega (arith, rest)

  -- a class of the layout is there
  pub along-there : (c d : ℕ) → is_along d (layout t c) ≡ true → is_class t d ≡ true
  along-there c d h = go (lin t c) refl h
    where
      go : (o : Option (List ℕ)) → lin t c ≡ o → is_along d (option_and_then (λ line. Some (layout_along t line)) o) ≡ true → is_class t d ≡ true
      go None l h = cc
      go (Some line) l h = lin-classes t c line d l (in-layout line d ((Decides-has (layout_along t line) d).0 h)).0

  -- what an offset of a class says
  record HasOffset (c d i n : ℕ) : Type 0 where
    line : List ℕ
    of_class : lin t c ≡ Some line
    on : Includes (layout_along t line) d
    few : i < member_count (class_at t d)
    sum : members_in t (before d (layout_along t line)) + i ≡ n

  has-offset : (c d i n : ℕ) → offset_of t c d i ≡ Some n → HasOffset c d i n
  has-offset c d i n e = go (lin t c) refl e
    where
      go : (o : Option (List ℕ)) → lin t c ≡ o → cond (is_along d (option_and_then (λ line. Some (layout_along t line)) o) && nat_lt i (member_count (class_at t d))) (option_map (λ n. n + i) (option_map (λ line. members_in t (before d line)) (option_and_then (λ line. Some (layout_along t line)) o))) None ≡ Some n → HasOffset c d i n
      go None l e = cc
      go (Some line) l e = on (is_along d (Some (layout_along t line)) && nat_lt i (member_count (class_at t d))) refl e
        where
          on : (b : Bool) → (is_along d (Some (layout_along t line)) && nat_lt i (member_count (class_at t d))) ≡ b → cond b (Some (members_in t (before d (layout_along t line)) + i)) None ≡ Some n → HasOffset c d i n
          on true q e =
              let both = and_parts (is_along d (Some (layout_along t line))) (nat_lt i (member_count (class_at t d))) q in
              record { line = line; of_class = l; on = (Decides-has (layout_along t line) d).0 both.0; few = ltb-true i (member_count (class_at t d)) both.1; sum = cc }
          on false q e = cc

  -- the place that an offset stands for has that offset
  pub place-offset : (c n d i : ℕ) → place_at t c n ≡ Some (d, i) → offset_of t c d i ≡ Some n
  place-offset c n d i e = go (lin t c) refl e
    where
      go : (o : Option (List ℕ)) → lin t c ≡ o → option_and_then (λ line. place_along t line n) (option_and_then (λ line. Some (layout_along t line)) o) ≡ Some (d, i) → offset_of t c d i ≡ Some n
      go None l e = cc
      go (Some line) l e =
          let xs = layout_along t line in
          let at = along-at xs n d i (layout-distinct line (lin-distinct t c line l)) e in
          let on : is_place t c d i ≡ true =
          ap (λ o. is_along d (option_and_then (λ line. Some (layout_along t line)) o) && nat_lt i (member_count (class_at t d))) l
          ∙ ap (λ b. b && nat_lt i (member_count (class_at t d))) ((Decides-has xs d).1 at.0)
          ∙ lt-ltb i (member_count (class_at t d)) at.1 in
          ap (λ b. cond b (option_map (λ n. n + i) (first_place t c d)) None) on
          ∙ ap (λ o. option_map (λ n. n + i) (option_map (λ line. members_in t (before d line)) (option_and_then (λ line. Some (layout_along t line)) o))) l
          ∙ ap Some at.2

  -- and an offset stands for the place that has it
  pub offset-place : (c n d i : ℕ) → offset_of t c d i ≡ Some n → place_at t c n ≡ Some (d, i)
  offset-place c n d i e =
      let h = has-offset c d i n e in
      ap (λ o. option_and_then (λ line. place_along t line n) (option_and_then (λ line. Some (layout_along t line)) o)) h.of_class
      ∙ ap (place_along t (layout_along t h.line)) (sym h.sum)
      ∙ at-along (layout_along t h.line) d i h.on h.few

  some-same : (x y : ℕ) → Some x ≡ Some y → x ≡ y
  some-same x y e = cc

  -- places with one offset are the same
  pub offset-apart : (c d i e j n : ℕ) → offset_of t c d i ≡ Some n → offset_of t c e j ≡ Some n → (d ≡ e) × (i ≡ j)
  offset-apart c d i e j n p q =
      let same : Some (d, i) ≡ Some (e, j) = sym (offset-place c n d i p) ∙ offset-place c n e j q in
      let class : Some d ≡ Some e = ap (option_map (λ (p : ℕ × ℕ). p.0)) same in
      let index : Some i ≡ Some j = ap (option_map (λ (p : ℕ × ℕ). p.1)) same in
      (some-same d e class, some-same i j index)

  pub offset-below : (c d i n k : ℕ) → offset_of t c d i ≡ Some n → place_count t c ≡ Some k → n < k
  offset-below c d i n k e p =
      let h = has-offset c d i n e in
      let all : Some (members_in t (layout_along t h.line)) ≡ Some k = sym (ap (λ o. option_map (members_in t) (option_and_then (λ line. Some (layout_along t line)) o)) h.of_class) ∙ p in
      let count : members_in t (layout_along t h.line) ≡ k = cc in
      let end = at-below (layout_along t h.line) d h.on in
      let few = h.few in
      let sum = h.sum in
      omega (arith, count, end, few, sum)

  -- a place has an offset
  pub place-has : (c d i : ℕ) → is_place t c d i ≡ true → is_some (offset_of t c d i) ≡ true
  place-has c d i h =
      ap (λ b. is_some (cond b (option_map (λ n. n + i) (first_place t c d)) None)) h ∙ there (lin t c) refl (and_parts (is_along d (layout t c)) (nat_lt i (member_count (class_at t d))) h).0
    where
      there : (o : Option (List ℕ)) → lin t c ≡ o → is_along d (option_and_then (λ line. Some (layout_along t line)) o) ≡ true → is_some (option_map (λ n. n + i) (option_map (λ line. members_in t (before d line)) (option_and_then (λ line. Some (layout_along t line)) o))) ≡ true
      there None l k = cc
      there (Some line) l k = refl

  -- the same one in the objects of each class that derives from the class
  pub offset-inherited : AreSound t → (c b d i n : ℕ) → is_sub t c b ≡ true → offset_of t b d i ≡ Some n → offset_of t c d i ≡ Some n
  offset-inherited ok c b d i n s e =
      let h = has-offset b d i n e in
      let count : place_count t b ≡ Some (members_in t (layout_along t h.line)) = ap (λ o. option_map (members_in t) (option_and_then (λ line. Some (layout_along t line)) o)) h.of_class in
      place-offset c n d i (place-keeps t ok c b n (members_in t (layout_along t h.line)) s count (offset-below b d i n (members_in t (layout_along t h.line)) e count) ∙ offset-place b n d i e)

  layout-has : (line : List ℕ) (e : ℕ) → Includes line e → is_solid t e ≡ true → Includes (layout_along t line) e
  layout-has [] e h s = absurd h
  layout-has (c ∷ cs) e (inl q) s =
      Includes-right (layout_along t cs) (cond (is_solid t c) (c ∷ []) []) e (subst (λ b. Includes (cond b (c ∷ []) []) e) (sym (ap (is_solid t) q ∙ s)) (inl q))
  layout-has (c ∷ cs) e (inr k) s = Includes-left (layout_along t cs) (cond (is_solid t c) (c ∷ []) []) e (layout-has cs e k s)

  -- and in those of the class that gives the place
  offset-own : AreSound t → (c d i n : ℕ) → offset_of t c d i ≡ Some n → offset_of t d d i ≡ Some n
  offset-own ok c d i n e =
      let h = has-offset c d i n e in
      let on = in-layout h.line d h.on in
      let own = lin-member t c h.line d h.of_class on.0 in
      let place : is_place t d d i ≡ true =
      ap (λ o. is_along d (option_and_then (λ line. Some (layout_along t line)) o) && nat_lt i (member_count (class_at t d))) own.1
      ∙ ap (λ b. b && nat_lt i (member_count (class_at t d))) ((Decides-has (layout_along t own.0) d).1 (layout-has own.0 d (lin-held t d own.0 own.1) on.1))
      ∙ lt-ltb i (member_count (class_at t d)) h.few in
      let some = some-of (offset_of t d d i) (place-has d d i place) in
      let sub : is_sub t c d ≡ true = ap (is_along d) h.of_class ∙ (Decides-has h.line d).1 on.0 in
      some.1 ∙ sym (offset-inherited ok c d d i some.0 sub some.1) ∙ e

  -- so a place has one offset in the objects of all classes that derive from the class that gives it
  pub offset-anywhere : AreSound t → (c b d i n : ℕ) → offset_of t c d i ≡ Some n → is_sub t b d ≡ true → offset_of t b d i ≡ Some n
  offset-anywhere ok c b d i n e s = offset-inherited ok b d d i n s (offset-own ok c d i n e)

  -- and none in those of other classes
  pub offset-nowhere : (b d i : ℕ) → is_sub t b d ≡ false → offset_of t b d i ≡ None
  offset-nowhere b d i s = go (offset_of t b d i) refl
    where
      go : (o : Option ℕ) → offset_of t b d i ≡ o → o ≡ None
      go None e = refl
      go (Some n) e =
          let h = has-offset b d i n e in
          absurd (both_ways (is_sub t b d) s (ap (is_along d) h.of_class ∙ (Decides-has h.line d).1 (in-layout h.line d h.on).0))

-- equal layouts, whose classes have as many members
module _ {K L : Type 0} (t : Classes K) (u : Classes L) where
  members-alike : (line : List ℕ) → ((x : ℕ) → Includes line x → member_count (class_at t x) ≡ member_count (class_at u x)) → members_in t line ≡ members_in u line
  members-alike [] h = refl
  members-alike (c ∷ cs) h =
      let a = h c (inl refl) in
      let r = members-alike cs (λ x k. h x (inr k)) in
      omega (arith, a, r)

  before-alike : (line : List ℕ) (d : ℕ) → ((x : ℕ) → Includes line x → member_count (class_at t x) ≡ member_count (class_at u x)) → members_in t (before d line) ≡ members_in u (before d line)
  before-alike [] d h = refl
  before-alike (c ∷ cs) d h = go (eqb c d) (before-alike cs d (λ x k. h x (inr k)))
    where
      go : (b : Bool) → members_in t (before d cs) ≡ members_in u (before d cs) → members_in t (cond b [] (c ∷ before d cs)) ≡ members_in u (cond b [] (c ∷ before d cs))
      go true r = refl
      go false r = let a = h c (inl refl) in omega (arith, a, r)

  module _ (c e : ℕ) (same : layout t c ≡ layout u e) (counts : (x : ℕ) → is_along x (layout u e) ≡ true → member_count (class_at t x) ≡ member_count (class_at u x)) where
    along : (line : List ℕ) → layout u e ≡ Some line → (x : ℕ) → Includes line x → member_count (class_at t x) ≡ member_count (class_at u x)
    along line l x h = counts x (ap (is_along x) l ∙ (Decides-has line x).1 h)

    pub place_count-alike : place_count t c ≡ place_count u e
    place_count-alike = ap (option_map (members_in t)) same ∙ go (layout u e) refl
      where
        go : (o : Option (List ℕ)) → layout u e ≡ o → option_map (members_in t) o ≡ option_map (members_in u) o
        go None l = refl
        go (Some line) l = ap Some (members-alike line (along line l))

    -- give equal offsets
    pub offset-alike : (d i : ℕ) → offset_of t c d i ≡ offset_of u e d i
    offset-alike d i =
        ap (λ o. cond (is_along d o && nat_lt i (member_count (class_at t d))) (option_map (λ n. n + i) (option_map (λ line. members_in t (before d line)) o)) None) same ∙ go (layout u e) refl
      where
        go : (o : Option (List ℕ)) → layout u e ≡ o → cond (is_along d o && nat_lt i (member_count (class_at t d))) (option_map (λ n. n + i) (option_map (λ line. members_in t (before d line)) o)) None ≡ cond (is_along d o && nat_lt i (member_count (class_at u d))) (option_map (λ n. n + i) (option_map (λ line. members_in u (before d line)) o)) None
        go None l = refl
        go (Some line) l = on (is_along d (Some line)) refl
          where
            sums : members_in t (before d line) ≡ members_in u (before d line)
            sums = before-alike line d (along line l)

            on : (b : Bool) → is_along d (Some line) ≡ b → cond (b && nat_lt i (member_count (class_at t d))) (Some (members_in t (before d line) + i)) None ≡ cond (b && nat_lt i (member_count (class_at u d))) (Some (members_in u (before d line) + i)) None
            on false q = refl
            on true q =
                let count = counts d (ap (is_along d) l ∙ q) in
                ap (λ m. cond (nat_lt i m) (Some (members_in t (before d line) + i)) None) count ∙ ap (λ m. cond (nat_lt i (member_count (class_at u d))) (Some (m + i)) None) sums

-- one class is changed, and keeps its number, its bases and its members
module _ {K : Type 0} (f : Class K → Class K) (numbers : (k : Class K) → (f k).number ≡ k.number) (t : Classes K) (c : ℕ) (bases : (k : Class K) → (f k).bases ≡ k.bases) (members : (k : Class K) → (f k).members ≡ k.members) where
  solid-kept : (x : ℕ) → is_solid (with_changed f t c) x ≡ is_solid t x
  solid-kept x =
      ap (λ w. nat_lt x built_ins || w) (at-changed f numbers has_members (λ k. ap (λ ms. not (is_empty ms)) (members k)) t c x)

  pub layout-same : (x : ℕ) → layout (with_changed f t c) x ≡ layout t x
  layout-same x = layout-agrees (with_changed f t c) t x (lin-kept f numbers t c bases members x) (λ line y e h. solid-kept y)

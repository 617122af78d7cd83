-- The places that a class gives its objects itself.
use Rattle.proto_call.proofs.Below.{ℕ, Bool, true, false, cond, List, [], length, Option, Some, None, inl, inr, refl, sym, ap, ◌∙◌, arith, nat_lt, is_some, option_map, option_and_then, slice_get, ne_eqb, eq-eqb, slice_get_within, PyObjectRef, Text, Includes, BeginsWith, Class, Classes, is_class, bases_of, lin, built_ins, has_members, is_solid, layout_along, member_count, members_in, before, place_along, place_count, first_place, place_at, solid, best_of, limit, AreSound, solid-rule, limit-within, some-of, at-last, lin-begins, lin-distinct, count-line, layout-own, AClass, PlainWorld, IsSound, datum_at, with_new_class, with_definer, members-append, holder, in-layout, defined, functions_of, or_zero, places_from, with_functions}
use Rattle.std.proofs.Common.{◌≡◌, ◌<◌, ◌≤◌, ◌+◌, ◌-◌, ◌||◌, ◌∷◌, ◌++◌}
use Rattle.class_model.specs.Class.{class_at}
use Rattle.class_model.specs.Change.{with_class}

module _ {K : Type 0} (t : Classes K) where
  own-within : (c : ℕ) (line : List ℕ) → BeginsWith c line → member_count (class_at t c) ≤ members_in t line
  own-within c [] h = absurd h
  own-within c (x ∷ xs) h = let same = ap (λ x. member_count (class_at t x)) h in omega (arith, same)

  -- a class's own members are no more than the places of its objects
  pub own-counted : (c count : ℕ) → place_count t c ≡ Some count → member_count (class_at t c) ≤ count
  own-counted c count e = go (lin t c) refl e
    where
      go : (o : Option (List ℕ)) → lin t c ≡ o → option_map (members_in t) (option_and_then (λ line. Some (layout_along t line)) o) ≡ Some count → member_count (class_at t c) ≤ count
      go None l e = cc
      go (Some line) l f =
          let counted : Some (members_in t line) ≡ Some count = sym (count-line t c line l) ∙ e in
          let same : members_in t line ≡ count = cc in
          let own = own-within c line (lin-begins t c line l) in
          omega (arith, same, own)

  none-own : (o : Option (Class K)) (a : Bool) → (a || has_members o) ≡ false → member_count o ≡ 0
  none-own None a e = refl
  none-own (Some k) true e = cc
  none-own (Some k) false e = empty k.members e
    where
      empty : (ms : List K) → has_members (Some (record k { members = ms })) ≡ false → length ms ≡ 0
      empty [] e = refl
      empty (m ∷ ms) e = cc

  has-own : (a : Bool) (k : Class K) (i : ℕ) → i < length k.members → (a || has_members (Some k)) ≡ true
  has-own true k i l = refl
  has-own false k i l = some k.members l
    where
      some : (ms : List K) → i < length ms → has_members (Some (record k { members = ms })) ≡ true
      some [] l = absurd (omega arith)
      some (m ∷ ms) l = refl

  before-past : (c : ℕ) (xs ys : List ℕ) → (Includes xs c → ⊥) → before c (xs ++ ys) ≡ xs ++ before c ys
  before-past c [] ys h = refl
  before-past c (x ∷ xs) ys h =
      ap (λ b. cond b [] (x ∷ before c (xs ++ ys))) (ne_eqb x c (λ e. h (inl e))) ∙ ap (λ zs. x ∷ zs) (before-past c xs ys (λ k. h (inr k)))

  module _ (c : ℕ) (k : Class K) (rest : List ℕ) (at : class_at t c ≡ Some k) (line : lin t c ≡ Some (c ∷ rest)) where
    all-counted : place_count t c ≡ Some (length k.members + members_in t rest)
    all-counted = count-line t c (c ∷ rest) line ∙ ap (λ o. Some (member_count o + members_in t rest)) at

    apart : Includes (layout_along t rest) c → ⊥
    apart h = (lin-distinct t c (c ∷ rest) line).0 (in-layout t rest c h).0

    abbrev own : Bool → List ℕ
    own b = cond b (c ∷ []) []

    none-before : (b : Bool) → before c (own b) ≡ []
    none-before true = ap (λ b. cond b [] (c ∷ [])) (eq-eqb c c refl)
    none-before false = refl

    -- those before it in the layout have as many members as those after it along the line
    counted-before : members_in t (layout_along t rest) ≡ members_in t rest
    counted-before = go (is_solid t c) refl
      where
        go : (b : Bool) → is_solid t c ≡ b → members_in t (layout_along t rest) ≡ members_in t rest
        go b e =
            let both : Some (members_in t (layout_along t rest ++ own b)) ≡ Some (length k.members + members_in t rest) =
            ap (λ b. Some (members_in t (layout_along t rest ++ own b))) (sym e) ∙ sym (ap (λ o. option_map (members_in t) (option_and_then (λ line. Some (layout_along t line)) o)) line) ∙ all-counted in
            let sum : members_in t (layout_along t rest ++ own b) ≡ length k.members + members_in t rest = cc in
            let parts = members-append t (layout_along t rest) (own b) in
            let here = alone b e in
            omega (arith, sum, parts, here)
          where
            alone : (b : Bool) → is_solid t c ≡ b → members_in t (own b) ≡ length k.members
            alone true e = let n = ap member_count at in omega (arith, n)
            alone false e = sym (none-own (class_at t c) (nat_lt c built_ins) e) ∙ ap member_count at

    first-is : first_place t c c ≡ Some (members_in t rest)
    first-is =
        ap (λ o. option_map (λ line. members_in t (before c line)) (option_and_then (λ line. Some (layout_along t line)) o)) line
        ∙ ap (λ xs. Some (members_in t xs)) (before-past c (layout_along t rest) (own (is_solid t c)) apart ∙ ap (λ ys. layout_along t rest ++ ys) (none-before (is_solid t c)))
        ∙ ap Some (last (members-append t (layout_along t rest) []))
      where
        last : members_in t (layout_along t rest ++ []) ≡ members_in t (layout_along t rest) + 0 → members_in t (layout_along t rest ++ []) ≡ members_in t rest
        last e = let same = counted-before in omega (arith, e, same)

    from-is : or_zero (place_count t c) - length k.members ≡ members_in t rest
    from-is = ap (λ o. or_zero o - length k.members) all-counted ∙ omega arith

    place-is : (i : ℕ) → i < length k.members → place_at t c (members_in t rest + i) ≡ Some (c, i)
    place-is i l =
        let n = ap member_count at in
        let past : (members_in t rest + i) - members_in t rest ≡ i = omega arith in
        ap (λ o. option_and_then (λ xs. place_along t xs (members_in t rest + i)) (option_and_then (λ line. Some (layout_along t line)) o)) line
        ∙ layout-own t c rest (members_in t rest + i) (omega arith) (omega (arith, n, l))
        ∙ ap (λ j. Some (c, j)) past

    solid-is : AreSound t → (i : ℕ) → i < length k.members → solid t c ≡ Some c
    solid-is ok i l =
        let solid_class : is_solid t c ≡ true = ap (λ o. nat_lt c built_ins || has_members o) at ∙ has-own (nat_lt c built_ins) k i l in
        solid-rule t ok c (c ∷ rest) line ∙ ap (λ b. cond b (Some c) (option_and_then (λ bs. option_and_then (solid t) (best_of t bs)) (bases_of t c))) solid_class

begun : (c : ℕ) (line : List ℕ) → BeginsWith c line → (rest : List ℕ) × (line ≡ c ∷ rest)
begun c [] h = absurd h
begun c (x ∷ xs) h = (xs, ap (λ y. y ∷ xs) h)

-- the classes of a sound world
module _ (w : PlainWorld) (s : IsSound w) where
  lined : (c : ℕ) (k : Class Text) → class_at w.classes c ≡ Some k → (rest : List ℕ) × (lin w.classes c ≡ Some (c ∷ rest))
  lined c k at =
      let line = some-of (lin w.classes c) (s.classes.order c (ap is_some at)) in
      let rest = begun c line.0 (lin-begins w.classes c line.0 line.1) in
      (rest.0, line.1 ∙ ap Some rest.1)

  pub places-begin : (c : ℕ) (k : Class Text) → class_at w.classes c ≡ Some k → first_place w.classes c c ≡ Some (places_from w c k.members)
  places-begin c k at =
      let l = lined c k at in
      first-is w.classes c k l.0 at l.1 ∙ ap Some (sym (from-is w.classes c k l.0 at l.1))

  pub members-solid : (c i : ℕ) (k : Class Text) → class_at w.classes c ≡ Some k → i < length k.members → solid w.classes c ≡ Some c
  members-solid c i k at l = let m = lined c k at in solid-is w.classes c k m.0 at m.1 s.classes i l

  pub members-placed : (c i : ℕ) (k : Class Text) → class_at w.classes c ≡ Some k → i < length k.members → place_at w.classes c (places_from w c k.members + i) ≡ Some (c, i)
  members-placed c i k at l =
      let m = lined c k at in
      ap (λ n. place_at w.classes c (n + i)) (from-is w.classes c k m.0 at m.1) ∙ place-is w.classes c k m.0 at m.1 i l

  -- a class's number is that of a node
  numbered : (c : ℕ) → is_class w.classes c ≡ true → c < length w.nodes
  numbered c e = let h = holder (slice_get w.nodes c) (AClass c) (s.standing c e) in slice_get_within w.nodes c h.0 h.1

  defined-classes : (c : ℕ) (fs : List PyObjectRef) (u : PlainWorld) → (defined c u fs).classes ≡ u.classes
  defined-classes c [] u = refl
  defined-classes c (f ∷ fs) u = defined-classes c fs (with_definer u c f)

  functions-classes : (c : ℕ) (vs : List PyObjectRef) (u : PlainWorld) → (with_functions c u vs).classes ≡ u.classes
  functions-classes c [] u = refl
  functions-classes c (v ∷ vs) u =
      let fs = functions_of v (datum_at u v) in
      functions-classes c vs (defined c u fs) ∙ defined-classes c fs u

  -- a class that was made, and the functions that it defines, has the members that it was made with
  pub made-own : (v f : PlainWorld) (meta c : ℕ) (k : Class Text) (vs : List PyObjectRef) → v ≡ with_new_class w meta k → f ≡ with_functions c v vs → c ≡ length w.nodes → k.number ≡ length w.nodes → member_count (class_at f.classes c) ≡ length k.members
  made-own v f meta c k vs made functions is number =
      let within = limit-within w.classes (length w.nodes) numbered in
      let fresh : limit w.classes ≤ k.number = omega (arith, within, number) in
      ap (λ (u : PlainWorld). member_count (class_at u.classes c)) functions
      ∙ ap (λ ks. member_count (class_at ks c)) (functions-classes c vs v)
      ∙ ap (λ (u : PlainWorld). member_count (class_at u.classes c)) made
      ∙ ap (λ n. member_count (class_at (with_class w.classes k) n)) (is ∙ sym number)
      ∙ ap member_count (at-last w.classes k fresh)

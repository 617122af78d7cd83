-- The layout of a class begins with those of the classes that it derives from, so that a place keeps its offset in every subclass.
use Rattle.class_model.proofs.Below.{ℕ, zero, suc, Bool, true, false, cond, List, [], map, length, Option, Some, None, inl, inr, refl, sym, ap, subst, ◌∙◌, append_assoc, arith, is_some, nat_lt, option_map, option_and_then, both_ways, ltb-false, linear, BeginsWith, Includes, Distinct, Subsequence, Classes, class_at, bases_of, lin, is_sub, is_along, is_empty, is_solid, solid, best_of, base, layout_along, member_count, members_in, place_count, place_along, place_at, AreSound}
use Rattle.std.proofs.Common.{◌≡◌, ◌-◌, ◌<◌, ◌∷◌, ◌++◌, append-nil}
use Rattle.std.specs.Prelude.{◌⊎◌, not}
use Rattle.class_model.proofs.Held.{Includes-equal, Subsequence-holds, Subsequence-rest, from_flat_map}
use Rattle.class_model.proofs.Tests.{Decides-has}
use Rattle.class_model.proofs.Arranged.{least_order-order}
use Rattle.class_model.proofs.Linear.{linear-made, linear-zero, all_some-holds}
use Rattle.class_model.proofs.Numbers.{some-of}
use Rattle.class_model.proofs.Rule.{all_some-map, lin-from, lin-within, lin-least, lin-member}
use Rattle.class_model.proofs.Solid.{first_best-held, solid-held, solid-solid}
use Rattle.class_model.proofs.Layouts.{solid-rule, best-along, lines-at, line-of}

-- what is struck out of a line is not solid
layout-kept : {K : Type 0} (t : Classes K) (l xs : List ℕ) → Subsequence l xs → Distinct xs → ((x : ℕ) → Includes xs x → is_solid t x ≡ true → Includes l x) → layout_along t l ≡ layout_along t xs
layout-kept t [] [] s d h = refl
layout-kept t (z ∷ l) [] s d h = absurd s
layout-kept t [] (y ∷ xs) s d h = go (is_solid t y) refl (layout-kept t [] xs tt d.1 (λ x k. h x (inr k)))
  where
    go : (w : Bool) → is_solid t y ≡ w → [] ≡ layout_along t xs → [] ≡ layout_along t xs ++ cond w (y ∷ []) []
    go true e more = absurd (h y (inl refl) e)
    go false e more = more ∙ sym (append-nil (layout_along t xs))
layout-kept t (z ∷ l) (y ∷ xs) (inl p) d h =
    let rest = layout-kept t l xs p.1 d.1 (λ x k q. elim (h x (inr k) q) [ inl i ↦ absurd (d.0 (Includes-equal xs x y (sym (sym p.0 ∙ i)) k)) | inr j ↦ j ]) in
    ap (λ m. m ++ cond (is_solid t z) (z ∷ []) []) rest ∙ ap (λ v. layout_along t xs ++ cond (is_solid t v) (v ∷ []) []) p.0
layout-kept t (z ∷ l) (y ∷ xs) (inr s) d h = go (is_solid t y) refl (layout-kept t (z ∷ l) xs s d.1 (λ x k q. h x (inr k) q))
  where
    go : (w : Bool) → is_solid t y ≡ w → layout_along t (z ∷ l) ≡ layout_along t xs → layout_along t (z ∷ l) ≡ layout_along t xs ++ cond w (y ∷ []) []
    go true e more = absurd (d.0 (Subsequence-holds (z ∷ l) xs y s (h y (inl refl) e)))
    go false e more = more ∙ sym (append-nil (layout_along t xs))

-- a list begins with another
abbrev Begins : List ℕ → List ℕ → Type 0
Begins part whole = (rest : List ℕ) × (whole ≡ part ++ rest)

begins-further : (a b c : List ℕ) → Begins a b → Begins b c → Begins a c
begins-further a b c h k = (h.0 ++ k.0, k.1 ∙ ap (λ m. m ++ k.0) h.1 ∙ append_assoc a h.0 k.0)

same-begins : (a b c : List ℕ) → a ≡ b → Begins b c → Begins a c
same-begins a b c e k = (k.0, k.1 ∙ ap (λ m. m ++ k.0) (sym e))

module _ {K : Type 0} (t : Classes K) (ok : AreSound t) where
  -- the layout of a class is that of its best base, and the class itself where it is solid
  best-layout : (c : ℕ) (line : List ℕ) (b : ℕ) (lb : List ℕ) → lin t c ≡ Some line → base t c ≡ Some b → lin t b ≡ Some lb → layout_along t line ≡ layout_along t lb ++ cond (is_solid t c) (c ∷ []) []
  best-layout c line b lb e q l =
      let least = lin-least t c line e in
      let order = least.least.order in
      let best : best_of t least.bases ≡ Some b = sym (ap (option_and_then (best_of t)) least.of_class) ∙ q in
      let held = first_best-held t (solid t) least.bases least.bases b best in
      let at = line-of (lin t) least.bases least.lines b least.of_bases held in
      let is : at.0 ≡ lb = let p = at.2 in cc in
      let sub : Subsequence lb line = let P : List ℕ → Type 0 = λ m. Subsequence m line in subst P is (order.keeps at.0 at.1) in
      let apart : Includes lb c → ⊥ = λ h. both_ways (is_sub t b c) (ok.apart c b least.bases least.of_class held) (ap (is_along c) l ∙ (Decides-has lb c).1 h) in
      let within : (x : ℕ) → Includes line x → is_solid t x ≡ true → (c ≡ x) ⊎ Includes lb x =
      λ x h s. (elim (order.members_only x h) [
        | inl i ↦ inl i
        | inr f ↦
            let r = from_flat_map (λ l. l) least.lines x f in
            let d = lines-at (lin t) least.bases least.lines r.0 least.of_bases r.1 in
            inr (best-along t ok least.bases b d.0 x lb r.0 best l d.1 d.2 r.2 s)
      ]) in
      go line order.begins order.distinct sub apart within
    where
      go : (line : List ℕ) → BeginsWith c line → Distinct line → Subsequence lb line → (Includes lb c → ⊥) → ((x : ℕ) → Includes line x → is_solid t x ≡ true → (c ≡ x) ⊎ Includes lb x) → layout_along t line ≡ layout_along t lb ++ cond (is_solid t c) (c ∷ []) []
      go [] begins distinct sub apart within = absurd begins
      go (y ∷ rest) begins distinct sub apart within =
          let P : ℕ → Type 0 = λ x. Includes lb x in
          let less = Subsequence-rest lb rest y sub (λ h. apart (subst P begins h)) in
          let kept = layout-kept t lb rest less distinct.1 (λ x k s. elim (within x (inr k) s) [ inl i ↦ absurd (distinct.0 (Includes-equal rest x y (sym (begins ∙ i)) k)) | inr j ↦ j ]) in
          ap (λ m. m ++ cond (is_solid t y) (y ∷ []) []) (sym kept) ∙ ap (λ v. layout_along t lb ++ cond (is_solid t v) (v ∷ []) []) begins

  -- a class that has bases has a best one
  best-there : (m c : ℕ) (line direct : List ℕ) (lines : List (List ℕ)) (x : ℕ) → lin t c ≡ Some line → bases_of t c ≡ Some direct → Includes direct x → (b : ℕ) × (best_of t direct ≡ Some b)
  best-there m c line direct lines x e of h =
      let root = ok.root c direct of in
      let some = ok.best c (lin-within t c line e) in
      some-of (best_of t direct) (ap is_some (sym (ap (option_and_then (best_of t)) of)) ∙ some ∙ ap not (sym root ∙ filled direct h))
    where
      filled : (bs : List ℕ) → Includes bs x → is_empty bs ≡ false
      filled [] h = absurd h
      filled (b ∷ bs) h = refl

  -- a class has the layout of its solid class
  solid-layout : (m c : ℕ) (line : List ℕ) (s : ℕ) (ls : List ℕ) → linear (bases_of t) m c ≡ Some line → solid t c ≡ Some s → lin t s ≡ Some ls → layout_along t line ≡ layout_along t ls
  solid-layout zero c line s ls e f g = absurd (linear-zero (bases_of t) c line e)
  solid-layout (suc m) c line s ls e f g =
      let l = lin-from t (suc m) c line e in
      go (is_solid t c) refl (sym (solid-rule t ok c line l) ∙ f) (λ b lb k q. solid-layout m b lb s ls k q g)
    where
      go : (w : Bool) → is_solid t c ≡ w → cond w (Some c) (option_and_then (λ bs. option_and_then (solid t) (best_of t bs)) (bases_of t c)) ≡ Some s → ((b : ℕ) (lb : List ℕ) → linear (bases_of t) m b ≡ Some lb → solid t b ≡ Some s → layout_along t lb ≡ layout_along t ls) → layout_along t line ≡ layout_along t ls
      go true w f more =
          let same : c ≡ s = cc in
          let l = lin-from t (suc m) c line e in
          let k = ap (lin t) same in
          let lines : line ≡ ls = cc in
          ap (layout_along t) lines
      go false w f more =
          let made = linear-made (bases_of t) m c line e in
          best (best_of t made.direct) refl (sym (ap (option_and_then (λ bs. option_and_then (solid t) (best_of t bs))) made.of_class) ∙ f)
        where
          best : (o : Option ℕ) → best_of t (linear-made (bases_of t) m c line e).direct ≡ o → option_and_then (solid t) o ≡ Some s → layout_along t line ≡ layout_along t ls
          best None h f = cc
          best (Some b) h f =
              let made = linear-made (bases_of t) m c line e in
              let held = first_best-held t (solid t) made.direct made.direct b h in
              let r = line-of (linear (bases_of t) m) made.direct made.lines b (all_some-map (map (linear (bases_of t) m) made.direct) made.lines made.of_bases) held in
              let of : base t c ≡ Some b = ap (option_and_then (best_of t)) made.of_class ∙ h in
              best-layout c line b r.0 (lin-from t (suc m) c line e) of (lin-from t m b r.0 r.2)
              ∙ ap (λ v. layout_along t r.0 ++ cond v (c ∷ []) []) w
              ∙ append-nil (layout_along t r.0)
              ∙ more b r.0 r.2 f

  -- the layout of a class begins with that of each class that it derives from
  begins-deep : (m c : ℕ) (line : List ℕ) (d : ℕ) (ld : List ℕ) → linear (bases_of t) m c ≡ Some line → Includes line d → lin t d ≡ Some ld → Begins (layout_along t ld) (layout_along t line)
  begins-deep zero c line d ld e h g = absurd (linear-zero (bases_of t) c line e)
  begins-deep (suc m) c line d ld e h g =
      let l = lin-from t (suc m) c line e in
      let made = linear-made (bases_of t) m c line e in
      let order = least_order-order c made.direct made.lines line made.is in
      elim (order.members_only d h) [
        | inl q ↦
            let k = ap (lin t) q in
            let same : line ≡ ld = cc in
            ([], ap (layout_along t) same ∙ sym (append-nil (layout_along t ld)))
        | inr f ↦
            let r = from_flat_map (λ l. l) made.lines d f in
            let q = all_some-holds (linear (bases_of t) m) made.direct made.lines r.0 made.of_bases r.1 in
            let a = q.0 in
            let la = lin-from t m a r.0 q.2 in
            -- the solid class of the base
            let s = some-of (solid t a) (ok.solid a (lin-within t a r.0 la)) in
            let on = solid-held t a r.0 s.0 la s.1 in
            let ls = lin-member t a r.0 s.0 la on in
            -- the best base
            let b = best-there m c line made.direct made.lines a l made.of_class q.1 in
            let held = first_best-held t (solid t) made.direct made.direct b.0 b.1 in
            let p = line-of (linear (bases_of t) m) made.direct made.lines b.0 (all_some-map (map (linear (bases_of t) m) made.direct) made.lines made.of_bases) held in
            let lb = lin-from t m b.0 p.0 p.2 in
            let there = best-along t ok made.direct b.0 a s.0 p.0 r.0 b.1 lb q.1 la on (solid-solid t (length t) a s.0 s.1) in
            let of : base t c ≡ Some b.0 = ap (option_and_then (best_of t)) made.of_class ∙ b.1 in
            let one = begins-deep m a r.0 d ld q.2 r.2 g in
            let two : Begins (layout_along t r.0) (layout_along t p.0) = same-begins (layout_along t r.0) (layout_along t ls.0) (layout_along t p.0) (solid-layout m a r.0 s.0 ls.0 q.2 s.1 ls.1) (begins-deep m b.0 p.0 s.0 ls.0 p.2 there ls.1) in
            let three : Begins (layout_along t p.0) (layout_along t line) = (cond (is_solid t c) (c ∷ []) [], best-layout c line b.0 p.0 l of lb) in
            begins-further (layout_along t ld) (layout_along t r.0) (layout_along t line) one (begins-further (layout_along t r.0) (layout_along t p.0) (layout_along t line) two three)
      ]

-- the places of some classes stay where they are, whatever classes follow
place-front : {K : Type 0} (t : Classes K) (part rest : List ℕ) (n : ℕ) → n < members_in t part → place_along t (part ++ rest) n ≡ place_along t part n
place-front t [] rest n h = absurd (omega (arith, h))
place-front t (c ∷ cs) rest n h = go (nat_lt n (member_count (class_at t c))) refl (place-front t cs rest (n - member_count (class_at t c)))
  where
    go : (w : Bool) → nat_lt n (member_count (class_at t c)) ≡ w → (n - member_count (class_at t c) < members_in t cs → place_along t (cs ++ rest) (n - member_count (class_at t c)) ≡ place_along t cs (n - member_count (class_at t c))) → cond w (Some (c, n)) (place_along t (cs ++ rest) (n - member_count (class_at t c))) ≡ cond w (Some (c, n)) (place_along t cs (n - member_count (class_at t c)))
    go true e more = refl
    go false e more = more (omega (arith, h, ltb-false n (member_count (class_at t c)) e))

pub place-keeps : {K : Type 0} (t : Classes K) → AreSound t → (c d n k : ℕ) → is_sub t c d ≡ true → place_count t d ≡ Some k → n < k → place_at t c n ≡ place_at t d n
place-keeps t ok c d n k h e few = lines (lin t c) refl (lin t d) refl
  where
    lines : (o : Option (List ℕ)) → lin t c ≡ o → (p : Option (List ℕ)) → lin t d ≡ p → place_at t c n ≡ place_at t d n
    lines None l p q = absurd (both_ways (is_sub t c d) (ap (is_along d) l) h)
    lines (Some line) l None q = let none = ap (λ o. option_map (members_in t) (option_and_then (λ line. Some (layout_along t line)) o)) q in cc
    lines (Some line) l (Some ld) q =
        let on = (Decides-has line d).0 (ap (is_along d) (sym l) ∙ h) in
        let begins = begins-deep t ok (length t) c line d ld l on q in
        let count : members_in t (layout_along t ld) ≡ k = (let some = ap (λ o. option_map (members_in t) (option_and_then (λ line. Some (layout_along t line)) o)) q in cc) in
        ap (λ o. option_and_then (λ line. place_along t line n) (option_and_then (λ line. Some (layout_along t line)) o)) l
        ∙ ap (λ m. place_along t m n) begins.1
        ∙ place-front t (layout_along t ld) begins.0 n (omega (arith, few, count))
        ∙ sym (ap (λ o. option_and_then (λ line. place_along t line n) (option_and_then (λ line. Some (layout_along t line)) o)) q)

-- The solid class of a class derives from all solid classes along its linearisation, and a class has the same first built-in class along it as its best base.
use Rattle.class_model.proofs.Below.{ℕ, zero, suc, Bool, true, false, cond, List, [], map, length, Option, Some, None, inl, inr, refl, sym, ap, subst, ◌∙◌, arith, nat_lt, option_and_then, flat_map, ltb-true, both_ways, linear, all_some, Includes, Distinct, Subsequence, Class, Classes, class_at, is_class, bases_of, lin, is_sub, is_along, limit, built_ins, has_members, is_solid, derives_all, solid_within, solid, best_of, with_class, first_with, AreSound}
use Rattle.std.proofs.Common.{◌≡◌, ◌≤◌, ◌||◌, ◌∷◌}
use Rattle.class_model.proofs.Held.{Includes-equal, Subsequence-holds, from_flat_map}
use Rattle.class_model.proofs.Tests.{Decides-has}
use Rattle.class_model.proofs.Arranged.{least_order-order}
use Rattle.class_model.proofs.Linear.{linear-made, linear-zero, all_some-holds}
use Rattle.class_model.proofs.Numbers.{some-of}
use Rattle.class_model.proofs.Rule.{lin-from, lin-within, lin-inside, lin-least, lin-member}
use Rattle.class_model.proofs.Changed.{bases_of-last}
use Rattle.class_model.proofs.Solid.{first_best-held, solid_within-grows, solid-held}
use Rattle.class_model.proofs.Made.{lin-made}
use Rattle.class_model.proofs.Best.{sub-trans, derives-each, first-derives}

module _ {K : Type 0} (t : Classes K) (ok : AreSound t) where
  -- the solid class, with no depth in what is said
  pub solid-rule : (c : ℕ) (line : List ℕ) → lin t c ≡ Some line → solid t c ≡ cond (is_solid t c) (Some c) (option_and_then (λ bs. option_and_then (solid t) (best_of t bs)) (bases_of t c))
  unfolding solid_within
  solid-rule c line e =
      solid_within-grows t t (λ x. Unit {0}) (λ x bs b p e h. tt) (λ x p. refl) (λ x p. refl) (λ x p. refl) (length t) (suc (length t)) c line (omega arith) e tt

  -- where each base's solid class derives from a class, so does that of the best base
  best-derives : (bs : List ℕ) (d sd b sb : ℕ) → best_of t bs ≡ Some d → solid t d ≡ Some sd → Includes bs b → solid t b ≡ Some sb → is_sub t sd sb ≡ true
  best-derives bs d sd b sb e f h g =
      let all = first-derives t (solid t) bs bs d e in
      derives-each t sd (solid t) bs b sb (ap (λ o. derives_all t o (map (solid t) bs)) (sym f) ∙ all) h g

  pub top-deep : (m c : ℕ) (line : List ℕ) (s x : ℕ) → linear (bases_of t) m c ≡ Some line → solid t c ≡ Some s → Includes line x → is_solid t x ≡ true → is_sub t s x ≡ true
  top-deep zero c line s x e f h k = absurd (linear-zero (bases_of t) c line e)
  top-deep (suc m) c line s x e f h k =
      let l = lin-from t (suc m) c line e in
      go (is_solid t c) refl (sym (solid-rule c line l) ∙ f) (λ b lb sb. top-deep m b lb sb x)
    where
      below : (direct : List ℕ) (lines : List (List ℕ)) → bases_of t c ≡ Some direct → all_some (map (linear (bases_of t) m) direct) ≡ Some lines → Includes (flat_map (λ l. l) lines) x → option_and_then (λ bs. option_and_then (solid t) (best_of t bs)) (bases_of t c) ≡ Some s → ((b : ℕ) (lb : List ℕ) (sb : ℕ) → linear (bases_of t) m b ≡ Some lb → solid t b ≡ Some sb → Includes lb x → is_solid t x ≡ true → is_sub t sb x ≡ true) → is_sub t s x ≡ true
      below direct lines of all held f more =
          let r = from_flat_map (λ l. l) lines x held in
          let q = all_some-holds (linear (bases_of t) m) direct lines r.0 all r.1 in
          let b = q.0 in
          let there = lin-within t b r.0 (lin-from t m b r.0 q.2) in
          let sb = some-of (solid t b) (ok.solid b there) in
          let up = more b r.0 sb.0 q.2 sb.1 r.2 k in
          best (best_of t direct) refl (sym (ap (option_and_then (λ bs. option_and_then (solid t) (best_of t bs))) of) ∙ f) b sb.0 q.1 sb.1 up
        where
          best : (o : Option ℕ) → best_of t direct ≡ o → option_and_then (solid t) o ≡ Some s → (b sb : ℕ) → Includes direct b → solid t b ≡ Some sb → is_sub t sb x ≡ true → is_sub t s x ≡ true
          best None e f b sb h g up = cc
          best (Some d) e f b sb h g up = sub-trans t s sb x (best-derives direct d s b sb e f h g) up

      go : (w : Bool) → is_solid t c ≡ w → cond w (Some c) (option_and_then (λ bs. option_and_then (solid t) (best_of t bs)) (bases_of t c)) ≡ Some s → ((b : ℕ) (lb : List ℕ) (sb : ℕ) → linear (bases_of t) m b ≡ Some lb → solid t b ≡ Some sb → Includes lb x → is_solid t x ≡ true → is_sub t sb x ≡ true) → is_sub t s x ≡ true
      go true w f more =
          let same : c ≡ s = cc in
          ap (λ z. is_sub t z x) (sym same) ∙ ap (is_along x) (lin-from t (suc m) c line e) ∙ (Decides-has line x).1 h
      go false w f more =
          let made = linear-made (bases_of t) m c line e in
          let o = least_order-order c made.direct made.lines line made.is in
          elim (o.members_only x h) [
            | inl q ↦ absurd (both_ways (is_solid t c) w (ap (is_solid t) q ∙ k))
            | inr q ↦ below made.direct made.lines made.of_class made.of_bases q f more
          ]

  pub top : (c : ℕ) (line : List ℕ) (s x : ℕ) → lin t c ≡ Some line → solid t c ≡ Some s → Includes line x → is_solid t x ≡ true → is_sub t s x ≡ true
  top c line s x e f h k = top-deep (length t) c line s x e f h k

  -- a solid class along a base's linearisation is along that of the best base
  pub best-along : (bs : List ℕ) (d b x : ℕ) (ld lb : List ℕ) → best_of t bs ≡ Some d → lin t d ≡ Some ld → Includes bs b → lin t b ≡ Some lb → Includes lb x → is_solid t x ≡ true → Includes ld x
  best-along bs d b x ld lb e l h m k i =
      let sd = some-of (solid t d) (ok.solid d (lin-within t d ld l)) in
      let sb = some-of (solid t b) (ok.solid b (lin-within t b lb m)) in
      let down = sub-trans t sd.0 sb.0 x (best-derives bs d sd.0 b sb.0 e sd.1 h sb.1) (top b lb sb.0 x m sb.1 k i) in
      let held = solid-held t d ld sd.0 l sd.1 in
      let r = lin-member t d ld sd.0 l held in
      lin-inside t d ld sd.0 r.0 x l held r.1 ((Decides-has r.0 x).0 (ap (is_along x) (sym r.1) ∙ down))

-- what is struck out does not pass the test
pub first-kept : (test : ℕ → Bool) (l xs : List ℕ) → Subsequence l xs → Distinct xs → ((x : ℕ) → Includes xs x → test x ≡ true → Includes l x) → first_with test l ≡ first_with test xs
first-kept test [] [] s d h = refl
first-kept test (z ∷ l) [] s d h = absurd s
first-kept test [] (y ∷ xs) s d h = go (test y) refl (first-kept test [] xs tt d.1 (λ x k. h x (inr k)))
  where
    go : (w : Bool) → test y ≡ w → None ≡ first_with test xs → None ≡ cond w (Some y) (first_with test xs)
    go true e more = absurd (h y (inl refl) e)
    go false e more = more
first-kept test (z ∷ l) (y ∷ xs) (inl p) d h = go (test y) refl (λ e. first-kept test l xs p.1 d.1 (λ x k q. elim (h x (inr k) q) [ inl i ↦ absurd (d.0 (Includes-equal xs x y (sym (sym p.0 ∙ i)) k)) | inr j ↦ j ]))
  where
    go : (w : Bool) → test y ≡ w → (test y ≡ false → first_with test l ≡ first_with test xs) → cond (test z) (Some z) (first_with test l) ≡ cond w (Some y) (first_with test xs)
    go true e more = ap (λ v. cond v (Some z) (first_with test l)) (ap test p.0 ∙ e) ∙ ap Some p.0
    go false e more = ap (λ v. cond v (Some z) (first_with test l)) (ap test p.0 ∙ e) ∙ more e
first-kept test (z ∷ l) (y ∷ xs) (inr s) d h = go (test y) refl (first-kept test (z ∷ l) xs s d.1 (λ x k q. h x (inr k) q))
  where
    go : (w : Bool) → test y ≡ w → first_with test (z ∷ l) ≡ first_with test xs → first_with test (z ∷ l) ≡ cond w (Some y) (first_with test xs)
    go true e more = absurd (d.0 (Subsequence-holds (z ∷ l) xs y s (h y (inl refl) e)))
    go false e more = more

-- each line is one of a base
pub lines-at : (f : ℕ → Option (List ℕ)) (bs : List ℕ) (ls : List (List ℕ)) (l : List ℕ) → map f bs ≡ map Some ls → Includes ls l → (b : ℕ) × Includes bs b × (f b ≡ Some l)
lines-at f [] [] l e h = absurd h
lines-at f [] (m ∷ ls) l e h = cc
lines-at f (b ∷ bs) [] l e h = absurd h
lines-at f (b ∷ bs) (m ∷ ls) l e (inl q) = let here : f b ≡ Some m = cc in (b, inl refl, here ∙ ap Some q)
lines-at f (b ∷ bs) (m ∷ ls) l e (inr h) = let rest : map f bs ≡ map Some ls = cc in let r = lines-at f bs ls l rest h in (r.0, inr r.1, r.2)

-- and each base has one
pub line-of : (f : ℕ → Option (List ℕ)) (bs : List ℕ) (ls : List (List ℕ)) (b : ℕ) → map f bs ≡ map Some ls → Includes bs b → (l : List ℕ) × Includes ls l × (f b ≡ Some l)
line-of f [] ls b e h = absurd h
line-of f (c ∷ bs) [] b e h = cc
line-of f (c ∷ bs) (m ∷ ls) b e (inl q) = let here : f c ≡ Some m = cc in (m, inl refl, ap f (sym q) ∙ here)
line-of f (c ∷ bs) (m ∷ ls) b e (inr h) = let rest : map f bs ≡ map Some ls = cc in let r = line-of f bs ls b rest h in (r.0, inr r.1, r.2)

-- a class that is made, past the built-in ones
module _ {K : Type 0} (t : Classes K) (k : Class K) (ok : AreSound t) (fresh : limit t ≤ k.number) (late : built_ins ≤ k.number) (bases : (b : ℕ) → Includes k.bases b → is_class t b ≡ true) where
  pub first-built_in : (line : List ℕ) (d : ℕ) (ld : List ℕ) → lin (with_class t k) k.number ≡ Some line → best_of t k.bases ≡ Some d → lin t d ≡ Some ld → first_with (λ x. nat_lt x built_ins) line ≡ first_with (λ x. nat_lt x built_ins) ld
  first-built_in line d ld e best l =
      let u = with_class t k in
      let least = lin-least u k.number line e in
      let order = least.least.order in
      let same : least.bases ≡ k.bases = let q = least.of_class in let r = bases_of-last t k fresh k.bases refl in cc in
      let held : Includes least.bases d = let P : List ℕ → Type 0 = λ bs. Includes bs d in subst P (sym same) (first_best-held t (solid t) k.bases k.bases d best) in
      let at = line-of (lin u) least.bases least.lines d least.of_bases held in
      let in_bases : (b : ℕ) → Includes least.bases b → Includes k.bases b = λ b h. (let P : List ℕ → Type 0 = λ bs. Includes bs b in subst P same h) in
      let there : (b : ℕ) → Includes least.bases b → lin t b ≡ lin u b = λ b h. sym (lin-made t k ok b (bases b (in_bases b h))) in
      let is : at.0 ≡ ld = let q = sym (there d held) ∙ l in let r = at.2 in cc in
      let sub : Subsequence ld line = let P : List ℕ → Type 0 = λ m. Subsequence m line in subst P is (order.keeps at.0 at.1) in
      let within : (x : ℕ) → Includes line x → nat_lt x built_ins ≡ true → Includes ld x =
      λ x h q. (let small = ltb-true x built_ins q in elim (order.members_only x h) [
        | inl i ↦ absurd (omega arith)
        | inr f ↦
            let r = from_flat_map (λ l. l) least.lines x f in
            let b = lines-at (lin u) least.bases least.lines r.0 least.of_bases r.1 in
            best-along t ok k.bases d b.0 x ld r.0 best l (in_bases b.0 b.1) (there b.0 b.1 ∙ b.2) r.2 (ap (λ w. w || has_members (class_at t x)) q)
      ]) in
      sym (first-kept (λ x. nat_lt x built_ins) ld line sub order.distinct within)

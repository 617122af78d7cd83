-- The solid classes along a linearisation, where one class has other bases whose best has the solid class of the best base of before.
use Rattle.class_table.proofs.Below.{ℕ, zero, suc, Bool, true, false, cond, not, List, [], map, length, Option, Some, None, inl, inr, refl, sym, ap, subst, ◌∙◌, nat_lt, is_some, option_map, option_and_then, cases_eq, ne_eqb, has, linear, all_some, Includes, Class, Classes, class_at, is_class, bases_of, lin, is_along, is_sub, with_bases, NoneIsBlamed, built_ins, is_empty, has_members, is_solid, derives_all, first_best, solid_within, solid, best_of, base, ascend_from, has_dict, dict_with, keeps_dict, AreSound, Includes-equal, from_flat_map, Decides-has, linear-made, linear-zero, all_some-has, all_some-holds, some-of, numbers-changed, at-changed, bind-agrees, lin-from, lin-held, lin-member, lin-inside, lin-bases, lin-classes, lin-within, lin-least, all_some-some, alike-same, dicts-rebased, top, best-along, solid-rule, first_best-held, solid-held, solid-solid}
use Rattle.std.proofs.Common.{◌≡◌, ◌⊎◌, ◌||◌, ◌&&◌, ◌∷◌}
use Rattle.class_table.proofs.Rebased.{base-apart, bases-away, bases-here, classes-kept, line-base, order-rebased, not-root}

maps-same : (f g : ℕ → Option ℕ) (ws : List ℕ) → ((b : ℕ) → Includes ws b → f b ≡ g b) → map f ws ≡ map g ws
maps-same f g [] h = refl
maps-same f g (b ∷ ws) h =
    let a = h b (inl refl) in
    let r = maps-same f g ws (λ x k. h x (inr k)) in
    cc (a, r)

first-by : {K : Type 0} (u : Classes K) (f g : ℕ → Option ℕ) (all ws : List ℕ) → ((b : ℕ) → Includes all b → f b ≡ g b) → ((b : ℕ) → Includes ws b → Includes all b) → first_best u f all ws ≡ first_best u g all ws
first-by u f g all [] h within = refl
first-by u f g all (b ∷ ws) h within =
    ap (λ w. cond w (Some b) (first_best u f all ws)) (ap (λ o. derives_all u o (map f all)) (h b (within b (inl refl))) ∙ ap (derives_all u (g b)) (maps-same f g all h))
    ∙ ap (cond (derives_all u (g b) (map g all)) (Some b)) (first-by u f g all ws h (λ x k. within x (inr k)))

pub held-some : (bs : List ℕ) (b : ℕ) → Includes bs b → is_empty bs ≡ false
held-some [] b h = absurd h
held-some (x ∷ bs) b h = refl

class-of-bases : {K : Type 0} (t : Classes K) (x : ℕ) (ws : List ℕ) → bases_of t x ≡ Some ws → is_class t x ≡ true
class-of-bases t x ws e = go (class_at t x) e
  where
    go : {K : Type 0} (o : Option (Class K)) → option_map (λ (k : Class K). k.bases) o ≡ Some ws → is_some o ≡ true
    go None e = cc
    go (Some k) e = refl

-- where a class of a linearisation comes from
pub record IsOfBase {K : Type 0} (t : Classes K) (ds : List ℕ) (y : ℕ) : Type 0 where
  pub base : ℕ
  pub line : List ℕ
  pub direct : Includes ds base
  pub of_base : lin t base ≡ Some line
  pub held : Includes line y

module _ {K : Type 0} (t : Classes K) where
  pub came : (x : ℕ) (line ds : List ℕ) (y : ℕ) → lin t x ≡ Some line → bases_of t x ≡ Some ds → Includes line y → (x ≡ y) ⊎ IsOfBase t ds y
  came x line ds y e f h =
      let least = lin-least t x line e in
      let s : least.bases ≡ ds = let q = least.of_class in cc in
      elim (least.least.order.members_only y h) [
        | inl q ↦ inl q
        | inr q ↦
            let r = from_flat_map (λ l. l) least.lines y q in
            let all : all_some (map (lin t) least.bases) ≡ Some least.lines = ap all_some least.of_bases ∙ all_some-some least.lines in
            let b = all_some-holds (lin t) least.bases least.lines r.0 all r.1 in
            let P : List ℕ → Type 0 = λ ws. Includes ws b.0 in
            inr (record { base = b.0; line = r.0; direct = subst P s b.1; of_base = b.2; held = r.2 })
      ]

  goes : (x : ℕ) (line ds : List ℕ) (y : ℕ) → lin t x ≡ Some line → bases_of t x ≡ Some ds → IsOfBase t ds y → Includes line y
  goes x line ds y e f o = lin-inside t x line o.base o.line y e (lin-bases t x line ds o.base e f o.direct) o.of_base o.held

-- a class is solid as before
pub solid-kept : {K : Type 0} (t : Classes K) (c : ℕ) (bs : List ℕ) (x : ℕ) → is_solid (with_bases t c bs) x ≡ is_solid t x
solid-kept t c bs x =
    ap (λ w. nat_lt x built_ins || w) (at-changed (λ k. record k { bases = bs }) (λ k. refl) has_members (λ k. refl) t c x)

module _ {K : Type 0} (t : Classes K) (c : ℕ) (bs : List ℕ) (none : NoneIsBlamed (with_bases t c bs)) (ok : AreSound t) (here : is_class t c ≡ true) (there : (b : ℕ) → Includes bs b → is_class t b ≡ true) (apart : (b : ℕ) → Includes bs b → is_sub t b c ≡ false) (d e s : ℕ) (best : best_of t bs ≡ Some d) (old : base t c ≡ Some e) (top-new : solid t d ≡ Some s) (top-old : solid t e ≡ Some s) where
  -- of bases whose best has that solid class, each solid class along their lines is along its line
  under : (ds : List ℕ) (b : ℕ) → best_of t ds ≡ Some b → solid t b ≡ Some s → is_class t b ≡ true → (y : ℕ) → is_solid t y ≡ true → IsOfBase t ds y → is_sub t s y ≡ true
  under ds b is of held y k o =
      let l = some-of (lin t b) (ok.order b held) in
      top t ok b l.0 s y l.1 of (best-along t ok ds b o.base y l.0 o.line is l.1 o.direct o.of_base o.held k) k

  -- and the other way round
  over : (ds : List ℕ) (b : ℕ) → best_of t ds ≡ Some b → solid t b ≡ Some s → is_class t b ≡ true → (y : ℕ) → is_sub t s y ≡ true → IsOfBase t ds y
  over ds b is of held y k =
      let l = some-of (lin t b) (ok.order b held) in
      let at = solid-held t b l.0 s l.1 of in
      let m = lin-member t b l.0 s l.1 at in
      record {
        base = b;
        line = l.0;
        direct = first_best-held t (solid t) ds ds b is;
        of_base = l.1;
        held = lin-inside t b l.0 s m.0 y l.1 at m.1 ((Decides-has m.0 y).0 (ap (is_along y) (sym m.1) ∙ k));
      }

  new-there : is_class t d ≡ true
  new-there = there d (first_best-held t (solid t) bs bs d best)

  to-old : (y : ℕ) → IsOfBase (with_bases t c bs) bs y → IsOfBase t bs y
  to-old y o = record { base = o.base; line = o.line; direct = o.direct; of_base = sym (line-base t c bs none ok here there apart o.base o.direct) ∙ o.of_base; held = o.held }

  to-new : (y : ℕ) → IsOfBase t bs y → IsOfBase (with_bases t c bs) bs y
  to-new y o = record { base = o.base; line = o.line; direct = o.direct; of_base = line-base t c bs none ok here there apart o.base o.direct ∙ o.of_base; held = o.held }

  -- two lists have a class both or neither
  Alike : List ℕ → List ℕ → ℕ → Type 0
  Alike l m y = (Includes l y → Includes m y) × (Includes m y → Includes l y)

  -- the class itself
  own-alike : (line lu : List ℕ) (y : ℕ) → lin t c ≡ Some line → lin (with_bases t c bs) c ≡ Some lu → is_solid t y ≡ true → Alike lu line y
  unfolding Alike
  own-alike line lu y l m k =
      let u = with_bases t c bs in
      let least = lin-least t c line l in
      let ds = least.bases in
      let of : bases_of t c ≡ Some ds = least.of_class in
      let is : best_of t ds ≡ Some e = ap (option_and_then (best_of t)) (sym of) ∙ old in
      let old-there = ok.there c e ds of (first_best-held t (solid t) ds ds e is) in
      let on : bases_of u c ≡ Some bs = bases-here t c bs here in (
        λ h. elim (came u c lu bs y m on h) [
          | inl q ↦ Includes-equal line c y q (lin-held t c line l)
          | inr o ↦ goes t c line ds y l of (over ds e is top-old old-there y (under bs d best top-new new-there y k (to-old y o)))
        ],
        λ h. elim (came t c line ds y l of h) [
          | inl q ↦ Includes-equal lu c y q (lin-held u c lu m)
          | inr o ↦ goes u c lu bs y m on (to-new y (over bs d best top-new new-there y (under ds e is top-old old-there y k o)))
        ],
      )

  -- a class, after its bases
  step : (n x : ℕ) (line lu : List ℕ) (y : ℕ) → linear (bases_of t) (suc n) x ≡ Some line → lin (with_bases t c bs) x ≡ Some lu → is_solid t y ≡ true → ((b : ℕ) (l m : List ℕ) → linear (bases_of t) n b ≡ Some l → lin (with_bases t c bs) b ≡ Some m → Alike m l y) → Alike lu line y
  unfolding Alike
  step n x line lu y l m k more = elim (cases_eq x c) [
    | inl i ↦ own-alike line lu y (ap (lin t) (sym i) ∙ lin-from t (suc n) x line l) (ap (lin (with_bases t c bs)) (sym i) ∙ m) k
    | inr away ↦
        let u = with_bases t c bs in
        let made = linear-made (bases_of t) n x line l in
        let whole = lin-from t (suc n) x line l in
        let on : bases_of u x ≡ Some made.direct = bases-away t c bs x away ∙ made.of_class in (
          λ h. elim (came u x lu made.direct y m on h) [
            | inl q ↦ Includes-equal line x y q (lin-held t x line whole)
            | inr o ↦
                let r = all_some-has (linear (bases_of t) n) made.direct made.lines o.base made.of_bases o.direct in
                goes t x line made.direct y whole made.of_class (record { base = o.base; line = r.0; direct = o.direct; of_base = lin-from t n o.base r.0 r.2; held = (more o.base r.0 o.line r.2 o.of_base).0 o.held })
          ],
          λ h. elim (came t x line made.direct y whole made.of_class h) [
            | inl q ↦ Includes-equal lu x y q (lin-held u x lu m)
            | inr o ↦
                let r = all_some-has (linear (bases_of t) n) made.direct made.lines o.base made.of_bases o.direct in
                let same : o.line ≡ r.0 = let a = o.of_base in let b = lin-from t n o.base r.0 r.2 in cc in
                let P : List ℕ → Type 0 = λ ws. Includes ws y in
                let v = lin-member u x lu o.base m (lin-bases u x lu made.direct o.base m on o.direct) in
                goes u x lu made.direct y m on (record { base = o.base; line = v.0; direct = o.direct; of_base = v.1; held = (more o.base r.0 v.0 r.2 v.1).1 (subst P same o.held) })
          ],
        )
  ]

  deep : (n x : ℕ) (line lu : List ℕ) (y : ℕ) → linear (bases_of t) n x ≡ Some line → lin (with_bases t c bs) x ≡ Some lu → is_solid t y ≡ true → Alike lu line y
  deep zero x line lu y l m k = absurd (linear-zero (bases_of t) x line l)
  deep (suc n) x line lu y l m k = step n x line lu y l m k (λ b p q h j. deep n b p q y h j k)

  same-tests : (a b : Bool) → (a ≡ true → b ≡ true) → (b ≡ true → a ≡ true) → a ≡ b
  same-tests true true f g = refl
  same-tests true false f g = sym (f refl)
  same-tests false true f g = g refl
  same-tests false false f g = refl

  -- a class derives from the same solid classes
  pub sub-kept : (x y : ℕ) → is_class t x ≡ true → is_solid t y ≡ true → is_sub (with_bases t c bs) x y ≡ is_sub t x y
  unfolding Alike
  sub-kept x y l k =
      let a = some-of (lin t x) (ok.order x l) in
      let b = some-of (lin (with_bases t c bs) x) (order-rebased t c bs none ok here there apart x l) in
      let r = deep (length t) x a.0 b.0 y a.1 b.1 k in
      let p = Decides-has a.0 y in
      let q = Decides-has b.0 y in
      ap (is_along y) b.1 ∙ same-tests (has b.0 y) (has a.0 y) (λ h. p.1 (r.0 (q.0 h))) (λ h. q.1 (r.1 (p.0 h))) ∙ sym (ap (is_along y) a.1)

  derives-same : (f : ℕ → Option ℕ) (o : Option ℕ) (all : List ℕ) → ((x : ℕ) → o ≡ Some x → is_class t x ≡ true) → ((b x : ℕ) → Includes all b → f b ≡ Some x → is_solid t x ≡ true) → derives_all (with_bases t c bs) o (map f all) ≡ derives_all t o (map f all)
  derives-same f None all h k = refl
  derives-same f (Some x) [] h k = refl
  derives-same f (Some x) (b ∷ all) h k = go (f b) refl (derives-same f (Some x) all h (λ a y p q. k a y (inr p) q))
    where
      go : (o : Option ℕ) → f b ≡ o → derives_all (with_bases t c bs) (Some x) (map f all) ≡ derives_all t (Some x) (map f all) → derives_all (with_bases t c bs) (Some x) (o ∷ map f all) ≡ derives_all t (Some x) (o ∷ map f all)
      go None q more = refl
      go (Some y) q more =
          ap (λ w. w && derives_all (with_bases t c bs) (Some x) (map f all)) (sub-kept x y (h x refl) (k b y (inl refl) q)) ∙ ap (λ w. is_sub t x y && w) more

  first-same : (f : ℕ → Option ℕ) (all ws : List ℕ) → ((b x : ℕ) → Includes all b → f b ≡ Some x → (is_class t x ≡ true) × (is_solid t x ≡ true)) → ((b : ℕ) → Includes ws b → Includes all b) → first_best (with_bases t c bs) f all ws ≡ first_best t f all ws
  first-same f all [] h within = refl
  first-same f all (b ∷ ws) h within =
      ap (λ w. cond w (Some b) (first_best (with_bases t c bs) f all ws)) (derives-same f (f b) all (λ x q. (h b x (within b (inl refl)) q).0) (λ a x p q. (h a x p q).1))
      ∙ ap (cond (derives_all t (f b) (map f all)) (Some b)) (first-same f all ws h (λ x k. within x (inr k)))

  best-same : (f : ℕ → Option ℕ) (ws : List ℕ) → ((b : ℕ) → Includes ws b → is_class t b ≡ true) → ((b : ℕ) → Includes ws b → f b ≡ solid t b) → first_best (with_bases t c bs) f ws ws ≡ best_of t ws
  best-same f ws classes same =
      first-by (with_bases t c bs) f (solid t) ws ws same (λ b h. h)
      ∙ first-same (solid t) ws ws (λ b x h q. (let r = some-of (lin t b) (ok.order b (classes b h)) in lin-classes t b r.0 x r.1 (solid-held t b r.0 x r.1 q), solid-solid t (length t) b x q)) (λ b h. h)

  solid-step : (m x : ℕ) (lu : List ℕ) → linear (bases_of (with_bases t c bs)) (suc m) x ≡ Some lu → is_class t x ≡ true → ((b : ℕ) (l : List ℕ) → linear (bases_of (with_bases t c bs)) m b ≡ Some l → is_class t b ≡ true → solid_within (with_bases t c bs) m b ≡ solid t b) → solid_within (with_bases t c bs) (suc m) x ≡ solid t x
  unfolding solid_within
  solid-step m x lu l held more =
      let u = with_bases t c bs in
      let f = solid_within (with_bases t c bs) m in
      let made = linear-made (bases_of u) m x lu l in
      let line = some-of (lin t x) (ok.order x held) in
      let classes : (b : ℕ) → Includes made.direct b → is_class t b ≡ true =
      λ b h. (let r = all_some-has (linear (bases_of u) m) made.direct made.lines b made.of_bases h in sym (classes-kept t c bs b) ∙ lin-within u b r.0 (lin-from u m b r.0 r.2)) in
      let same : (b : ℕ) → Includes made.direct b → f b ≡ solid t b =
      λ b h. (let r = all_some-has (linear (bases_of u) m) made.direct made.lines b made.of_bases h in more b r.0 r.2 (classes b h)) in
      let inner : option_and_then (λ ws. option_and_then f (first_best u f ws ws)) (bases_of u x) ≡ option_and_then (solid t) (best_of t made.direct) =
      ap (option_and_then (λ ws. option_and_then f (first_best u f ws ws))) made.of_class
      ∙ bind-agrees f (solid t) (first_best u f made.direct made.direct) (best_of t made.direct) (best-same f made.direct classes same) (λ b q. same b (first_best-held u f made.direct made.direct b q)) in
      let outer : option_and_then (solid t) (best_of t made.direct) ≡ option_and_then (λ ws. option_and_then (solid t) (best_of t ws)) (bases_of t x) = elim (cases_eq x c) [
        | inl i ↦
            let s' : made.direct ≡ bs = let a = made.of_class in let b : bases_of u x ≡ Some bs = ap (bases_of u) i ∙ bases-here t c bs here in cc in
            let least = lin-least t x line.0 line.1 in
            let is : best_of t least.bases ≡ Some e = ap (option_and_then (best_of t)) (sym least.of_class) ∙ ap (base t) i ∙ old in
            ap (λ ws. option_and_then (solid t) (best_of t ws)) s'
            ∙ ap (option_and_then (solid t)) best
            ∙ top-new
            ∙ sym (ap (option_and_then (λ ws. option_and_then (solid t) (best_of t ws))) least.of_class ∙ ap (option_and_then (solid t)) is ∙ top-old)
        | inr n ↦ sym (ap (option_and_then (λ ws. option_and_then (solid t) (best_of t ws))) (sym (bases-away t c bs x n) ∙ made.of_class))
      ] in
      ap (cond (is_solid u x) (Some x)) (inner ∙ outer)
      ∙ ap (λ w. cond w (Some x) (option_and_then (λ ws. option_and_then (solid t) (best_of t ws)) (bases_of t x))) (solid-kept t c bs x)
      ∙ sym (solid-rule t ok x line.0 line.1)

  solid-deep : (m x : ℕ) (lu : List ℕ) → linear (bases_of (with_bases t c bs)) m x ≡ Some lu → is_class t x ≡ true → solid_within (with_bases t c bs) m x ≡ solid t x
  solid-deep zero x lu l held = absurd (linear-zero (bases_of (with_bases t c bs)) x lu l)
  solid-deep (suc m) x lu l held = solid-step m x lu l held (λ b p q h. solid-deep m b p q h)

  -- each class keeps its solid class
  pub solid-rebased : (x : ℕ) → is_class t x ≡ true → solid (with_bases t c bs) x ≡ solid t x
  solid-rebased x l =
      let r = some-of (lin (with_bases t c bs) x) (order-rebased t c bs none ok here there apart x l) in
      solid-deep (length (with_bases t c bs)) x r.0 r.1 l

  -- and each but the changed one its best base
  pub base-away : (x : ℕ) → (x ≡ c → ⊥) → base (with_bases t c bs) x ≡ base t x
  base-away x n =
      bind-agrees (best_of (with_bases t c bs)) (best_of t) (bases_of (with_bases t c bs) x) (bases_of t x) (bases-away t c bs x n) (λ ws q. best-same (solid (with_bases t c bs)) ws (λ b h. ok.there x b ws (sym (bases-away t c bs x n) ∙ q) h) (λ b h. solid-rebased b (ok.there x b ws (sym (bases-away t c bs x n) ∙ q) h)))

  pub base-here : base (with_bases t c bs) c ≡ Some d
  base-here =
      ap (option_and_then (best_of (with_bases t c bs))) (bases-here t c bs here)
      ∙ best-same (solid (with_bases t c bs)) bs there (λ b h. solid-rebased b (there b h))
      ∙ best

  -- the classes stay sound
  pub sound-rebased : keeps_dict t c bs ≡ true → AreSound (with_bases t c bs)
  sound-rebased keeps =
      let u = with_bases t c bs in
      let first = first_best-held t (solid t) bs bs d best in
      let away : c ≡ 0 → ⊥ = not-root t c bs none ok here there apart d first in
      record {
        ascending = ap (ascend_from 0) (numbers-changed (λ k. record k { bases = bs }) (λ k. refl) t c) ∙ ok.ascending;
        root = λ x ws q. elim (cases_eq x c) [
          | inl i ↦
              let w : ws ≡ bs = let b : bases_of u x ≡ Some bs = ap (bases_of u) i ∙ bases-here t c bs here in cc in
              ap is_empty w ∙ held-some bs d first ∙ sym (ne_eqb x 0 (λ z. away (sym i ∙ z)))
          | inr n ↦ ok.root x ws (sym (bases-away t c bs x n) ∙ q)
        ];
        there = λ x b ws q h. classes-kept t c bs b ∙ elim (cases_eq x c) [
          | inl i ↦
              let w : ws ≡ bs = let r : bases_of u x ≡ Some bs = ap (bases_of u) i ∙ bases-here t c bs here in cc in
              let P : List ℕ → Type 0 = λ zs. Includes zs b in
              there b (subst P w h)
          | inr n ↦ ok.there x b ws (sym (bases-away t c bs x n) ∙ q) h
        ];
        apart = λ x b ws q h.
            let l = sym (classes-kept t c bs x) ∙ class-of-bases u x ws q in
            let r = some-of (lin u x) (order-rebased t c bs none ok here there apart x l) in
            base-apart u x r.0 ws b r.1 q h;
        order = λ x l. order-rebased t c bs none ok here there apart x (sym (classes-kept t c bs x) ∙ l);
        solid = λ x l. let m = sym (classes-kept t c bs x) ∙ l in ap is_some (solid-rebased x m) ∙ ok.solid x m;
        best = λ x l. elim (cases_eq x c) [
          | inl i ↦ ap (λ z. is_some (base u z)) i ∙ ap is_some base-here ∙ sym (ap not (ne_eqb x 0 (λ z. away (sym i ∙ z))))
          | inr n ↦ ap is_some (base-away x n) ∙ ok.best x (sym (classes-kept t c bs x) ∙ l)
        ];
        dicts = dicts-rebased t c bs ok (alike-same (dict_with t (class_at t c) bs) (has_dict t c) keeps);
      }

-- Classes stay sound where one more is made, whatever its bases, and those that were there keep their places.
use Rattle.class_model.proofs.Below.{ℕ, suc, Bool, true, false, cond, not, eqb, List, [], map, length, Option, Some, None, inl, inr, refl, sym, ap, subst, ◌∙◌, arith, length-append, nat_lt, is_some, option_map, option_and_then, false_from_ne_true, ltb-true, and_parts, has, Includes, Class, Classes, class_at, is_class, bases_of, lin, is_sub, is_along, numbers_of, past_all, limit, with_class, is_empty, is_solid, derives_all, first_best, solid_within, solid, best_of, base, layout, member_count, is_place, says_dict, has_dict, any_has_dict, has_its_dict, AreSound}
use Rattle.std.proofs.Common.{◌≡◌, ◌<◌, ◌≤◌, ◌⊎◌, ◌||◌, ◌∷◌}
use Rattle.class_model.proofs.Numbers.{some-of, at-here, at-before, at-last, old-or-last, ascending-push}
use Rattle.class_model.proofs.Tests.{Decides-has}
use Rattle.class_model.proofs.Dict.{any_has_dict-agrees}
use Rattle.class_model.proofs.Rule.{bases_of-get, lin-below, lin-classes}
use Rattle.class_model.proofs.Changed.{bases_of-before, bases_of-last, lin-push}
use Rattle.class_model.proofs.Solid.{is_solid-push, solid_within-grows, base-push}
use Rattle.class_model.proofs.Kept.{layout-agrees, is_place-agrees}

map-same : (f g : ℕ → Option ℕ) (bs : List ℕ) → ((b : ℕ) → Includes bs b → f b ≡ g b) → map f bs ≡ map g bs
map-same f g [] h = refl
map-same f g (b ∷ bs) h =
    let a = h b (inl refl) in
    let r = map-same f g bs (λ x k. h x (inr k)) in
    cc (a, r)

module _ {K : Type 0} (u : Classes K) where
  best-held : (f : ℕ → Option ℕ) (all bs : List ℕ) (b : ℕ) → first_best u f all bs ≡ Some b → Includes bs b
  best-held f all [] b e = cc
  best-held f all (x ∷ bs) b e = go (derives_all u (f x) (map f all)) (best-held f all bs b) e
    where
      go : (w : Bool) → (first_best u f all bs ≡ Some b → Includes bs b) → cond w (Some x) (first_best u f all bs) ≡ Some b → Includes (x ∷ bs) b
      go true more e = inl (cc)
      go false more e = inr (more e)

  -- the best base rests on the solid classes of the bases alone
  best-same : (f g : ℕ → Option ℕ) (all bs : List ℕ) → map f all ≡ map g all → ((b : ℕ) → Includes bs b → f b ≡ g b) → first_best u f all bs ≡ first_best u g all bs
  best-same f g all [] e h = refl
  best-same f g all (b ∷ bs) e h =
      ap (λ os. cond (derives_all u (f b) os) (Some b) (first_best u f all bs)) e
      ∙ ap (λ o. cond (derives_all u o (map g all)) (Some b) (first_best u f all bs)) (h b (inl refl))
      ∙ ap (cond (derives_all u (g b) (map g all)) (Some b)) (best-same f g all bs e (λ x k. h x (inr k)))

has-no : (line : List ℕ) (c : ℕ) → (Includes line c → ⊥) → has line c ≡ false
has-no line c h = false_from_ne_true (has line c) (λ e. h ((Decides-has line c).0 e))

-- where each class's number is below one, this can be the next class's
past_all-within : (xs : List ℕ) (n : ℕ) → ((x : ℕ) → Includes xs x → x < n) → past_all xs ≤ n
past_all-within [] n h = omega arith
past_all-within (x ∷ xs) n h =
    let here = h x (inl refl) in
    let rest = past_all-within xs n (λ y k. h y (inr k)) in
    elim (nat_lt x (past_all xs)) as (λ b. cond b (past_all xs) (suc x) ≤ n) [ true ↦ rest | false ↦ omega arith ]

held-there : {K : Type 0} (t : Classes K) (x : ℕ) → Includes (numbers_of t) x → is_class t x ≡ true
held-there [] x h = absurd h
held-there (j ∷ t) x (inl e) = ap is_some (at-here j t x e)
held-there (j ∷ t) x (inr h) = elim (eqb j.number x) as (λ b. is_some (cond b (Some j) (class_at t x)) ≡ true) [ true ↦ refl | false ↦ held-there t x h ]

pub limit-within : {K : Type 0} (t : Classes K) (n : ℕ) → ((c : ℕ) → is_class t c ≡ true → c < n) → limit t ≤ n
limit-within t n h = past_all-within (numbers_of t) n (λ x k. h x (held-there t x k))

-- sound classes, and one more whose number is new
module _ {K : Type 0} (t : Classes K) (k : Class K) (ok : AreSound t) where
  abbrev more : Classes K
  more = with_class t k

  pub lined : (c : ℕ) → is_class t c ≡ true → (line : List ℕ) × (lin t c ≡ Some line)
  lined c l = some-of (lin t c) (ok.order c l)

  -- what is so of the classes that were there

  pub there-made : (c : ℕ) → is_class t c ≡ true → is_class more c ≡ true
  there-made c l = ap is_some (at-before t k c l) ∙ l

  pub lin-made : (c : ℕ) → is_class t c ≡ true → lin more c ≡ lin t c
  lin-made c l = let r = lined c l in lin-push t k c r.0 r.1 ∙ sym r.1

  is_sub-made : (b c : ℕ) → is_class t b ≡ true → is_sub more b c ≡ is_sub t b c
  is_sub-made b c l = ap (is_along c) (lin-made b l)

  -- the solid class is found as deep as before
  pub deep : (m c : ℕ) → length t ≤ m → is_class t c ≡ true → solid_within more m c ≡ solid t c
  deep m c d l =
      let r = lined c l in
      sym (solid_within-grows t more (λ x. is_class t x ≡ true) (λ x bs b p e h. ok.there x b bs e h) (λ x p. sym (bases_of-before t k x p)) (λ x p. sym (lin-made x p)) (λ x p. sym (is_solid-push t k x p)) (length t) m c r.0 d r.1 l)

  size : length more ≡ suc (length t)
  size = omega (arith, length-append t (k ∷ []))

  pub solid-old : (c : ℕ) → is_class t c ≡ true → solid more c ≡ solid t c
  solid-old c l = deep (length more) c (omega (arith, size)) l

  base-old : (c : ℕ) → is_class t c ≡ true → base more c ≡ base t c
  base-old c l = let r = lined c l in base-push t k c r.0 r.1

  layout-made : (c : ℕ) → is_class t c ≡ true → layout more c ≡ layout t c
  layout-made c l =
      sym (layout-agrees t more c (sym (lin-made c l)) (λ line x e h. sym (is_solid-push t k x (lin-classes t c line x e h))))

  -- a place is one still
  pub place-made : (c d i : ℕ) → is_class t c ≡ true → is_place t c d i ≡ true → is_place more c d i ≡ true
  place-made c d i l e =
      let few = ltb-true i (member_count (class_at t d)) (and_parts (is_along d (layout t c)) (nat_lt i (member_count (class_at t d))) e).1 in
      let there = some (class_at t d) few in
      is_place-agrees more t c d i (layout-made c l) (ap member_count (at-before t k d there)) ∙ e
    where
      some : (o : Option (Class K)) → suc i ≤ member_count o → is_some o ≡ true
      some None h = absurd (omega arith)
      some (Some j) h = refl

  -- the new class
  module _ (fresh : limit t ≤ k.number) (bases : (b : ℕ) → Includes k.bases b → is_class t b ≡ true) where
    each : (P : ℕ → Type 0) → ((c : ℕ) → is_class t c ≡ true → P c) → P k.number → (c : ℕ) → is_class more c ≡ true → P c
    each P f last c l = elim (old-or-last t k c l) [ inl h ↦ f c h | inr e ↦ subst P (sym e) last ]

    inside : (c : ℕ) (bs : List ℕ) → bases_of more c ≡ Some bs → is_class more c ≡ true
    inside c bs e = ap is_some (bases_of-get more c bs e).1

    pub last-bases : (bs : List ℕ) → bases_of more k.number ≡ Some bs → k.bases ≡ bs
    last-bases bs e = let h = bases_of-last t k fresh k.bases refl in cc

    pub base-last : base more k.number ≡ first_best more (solid more) k.bases k.bases
    base-last = ap (option_and_then (best_of more)) (bases_of-last t k fresh k.bases refl)

    pub solid-last : solid more k.number ≡ cond (is_solid more k.number) (Some k.number) (option_and_then (solid_within more (length t)) (first_best more (solid_within more (length t)) k.bases k.bases))
    unfolding solid_within
    solid-last =
        let f = solid_within more (length t) in
        ap (λ n. solid_within more n k.number) size ∙ ap (λ o. cond (is_solid more k.number) (Some k.number) (option_and_then (λ bs. option_and_then f (first_best more f bs bs)) o)) (bases_of-last t k fresh k.bases refl)

    -- with a best base it has a solid class
    pub solid-made : is_some (base more k.number) ≡ true → is_some (solid more k.number) ≡ true
    solid-made best =
        let f = solid_within more (length t) in
        let r = some-of (base more k.number) best in
        let held = best-held more (solid more) k.bases k.bases r.0 (sym base-last ∙ r.1) in
        let same : (b : ℕ) → Includes k.bases b → f b ≡ solid more b = λ b h. deep (length t) b (omega arith) (bases b h) ∙ sym (solid-old b (bases b h)) in
        let found : first_best more f k.bases k.bases ≡ Some r.0 = best-same more f (solid more) k.bases k.bases (map-same f (solid more) k.bases same) same ∙ sym base-last ∙ r.1 in
        let there : is_some (f r.0) ≡ true = ap is_some (deep (length t) r.0 (omega arith) (bases r.0 held)) ∙ ok.solid r.0 (bases r.0 held) in
        ap is_some (solid-last ∙ ap (λ o. cond (is_solid more k.number) (Some k.number) (option_and_then f o)) found) ∙ either (is_solid more k.number) (f r.0) there
      where
        either : (w : Bool) (o : Option ℕ) → is_some o ≡ true → is_some (cond w (Some k.number) o) ≡ true
        either true o h = refl
        either false o h = h

    apart-last : (b : ℕ) → is_class t b ≡ true → is_sub more b k.number ≡ false
    apart-last b l =
        let r = lined b l in
        is_sub-made b k.number l ∙ ap (is_along k.number) r.1 ∙ has-no r.0 k.number (λ h. let q = lin-below t b r.0 k.number r.1 h in omega arith)

    -- its flags say whether it gives a dict, and those of the others stay
    dict-old : (c : ℕ) → is_class t c ≡ true → has_dict more c ≡ has_dict t c
    dict-old c l = ap says_dict (at-before t k c l)

    any-old : (bs : List ℕ) → ((b : ℕ) → Includes bs b → is_class t b ≡ true) → any_has_dict more bs ≡ any_has_dict t bs
    any-old bs held = any_has_dict-agrees more t bs (λ b h. dict-old b (held b h))

    dicts-made : says_dict (Some k) ≡ has_its_dict t (Some k) → (c : ℕ) → has_dict more c ≡ has_its_dict more (class_at more c)
    dicts-made dict c = go (class_at more c) refl
      where
        both : (j : Class K) → class_at more c ≡ Some j → says_dict (Some j) ≡ has_its_dict t (Some j) → ((b : ℕ) → Includes j.bases b → is_class t b ≡ true) → says_dict (Some j) ≡ has_its_dict more (Some j)
        both j e says held = says ∙ ap (λ w. j.brings || w) (sym (any-old j.bases held))

        here : (j : Class K) → class_at more c ≡ Some j → (is_class t c ≡ true) ⊎ (c ≡ k.number) → says_dict (Some j) ≡ has_its_dict more (Some j)
        here j e (inl l) =
            let q : class_at t c ≡ Some j = sym (at-before t k c l) ∙ e in
            both j e (ap says_dict (sym q) ∙ ok.dicts c ∙ ap (has_its_dict t) q) (λ b h. ok.there c b j.bases (ap (option_map (λ (j : Class K). j.bases)) q) h)
        here j e (inr same) =
            let q : Some k ≡ Some j = sym (at-last t k fresh) ∙ sym (ap (class_at more) same) ∙ e in
            let r : k ≡ j = cc in
            let P : Class K → Type 0 = λ j. says_dict (Some j) ≡ has_its_dict t (Some j) in
            let Q : Class K → Type 0 = λ j. (b : ℕ) → Includes j.bases b → is_class t b ≡ true in
            both j e (subst P r dict) (subst Q r bases)

        go : (o : Option (Class K)) → class_at more c ≡ o → says_dict o ≡ has_its_dict more o
        go None e = refl
        go (Some j) e = here j e (old-or-last t k c (ap is_some e))

    -- with bases that are there, an order and a best base. Only a class with the number 0 has no base
    pub sound-made : is_empty k.bases ≡ eqb k.number 0 → is_some (lin more k.number) ≡ true → is_some (solid more k.number) ≡ true → is_some (base more k.number) ≡ not (eqb k.number 0) → says_dict (Some k) ≡ has_its_dict t (Some k) → AreSound more
    sound-made root order solids best dict = record {
      ascending = ascending-push t k ok.ascending fresh;
      root = λ c bs e.
          each (λ c. bases_of more c ≡ Some bs → is_empty bs ≡ eqb c 0) (λ c l e. ok.root c bs (sym (bases_of-before t k c l) ∙ e)) (λ e. ap is_empty (sym (last-bases bs e)) ∙ root) c (inside c bs e) e;
      there = λ c b bs e h. there-made b (old c b bs e h);
      apart = λ c b bs e h.
          each (λ c. bases_of more c ≡ Some bs → is_sub more b c ≡ false) (λ c l e. let q = sym (bases_of-before t k c l) ∙ e in is_sub-made b c (ok.there c b bs q h) ∙ ok.apart c b bs q h) (λ e. apart-last b (old k.number b bs e h)) c (inside c bs e) e;
      order = each (λ c. is_some (lin more c) ≡ true) (λ c l. ap is_some (lin-made c l) ∙ ok.order c l) order;
      solid = each (λ c. is_some (solid more c) ≡ true) (λ c l. ap is_some (solid-old c l) ∙ ok.solid c l) solids;
      best = each (λ c. is_some (base more c) ≡ not (eqb c 0)) (λ c l. ap is_some (base-old c l) ∙ ok.best c l) best;
      dicts = dicts-made dict;
    }
      where
        -- a base of any class was there
        old : (c b : ℕ) (bs : List ℕ) → bases_of more c ≡ Some bs → Includes bs b → is_class t b ≡ true
        old c b bs e h =
            each (λ c. bases_of more c ≡ Some bs → is_class t b ≡ true) (λ c l e. ok.there c b bs (sym (bases_of-before t k c l) ∙ e) h) (λ e. let P : List ℕ → Type 0 = λ bs. Includes bs b in bases b (subst P (sym (last-bases bs e)) h)) c (inside c bs e) e

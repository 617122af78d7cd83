-- The solid class and the best base of a class, after one more class and after an attribute was set.
use Rattle.class_model.proofs.Below.{ℕ, zero, suc, Bool, true, false, cond, List, [], map, length, Option, Some, None, inl, inr, refl, sym, ap, subst, ◌∙◌, arith, length-append, lt-ltb, nat_lt, option_map, option_and_then, PyObjectRef, with_value, linear, Includes, Class, Classes, is_class, bases_of, lin, is_sub, is_along, limit, with_class, with_class_attr, built_ins, has_members, is_solid, derives_all, first_best, solid_within, solid, best_of, base}
use Rattle.std.proofs.Common.{◌≡◌, ◌<◌, ◌≤◌, ◌&&◌, ◌||◌, ◌∷◌}
use Rattle.class_model.proofs.Linear.{linear-made, linear-zero, all_some-has}
use Rattle.class_model.proofs.Rule.{lin-itself, lin-member, lin-inside, lin-within, lin-bases, lin-held}
use Rattle.class_model.proofs.Changed.{bases_of-before, bases_of-last, lin-push, lin-attr}
use Rattle.class_model.proofs.Numbers.{at-before, at-last, at-changed, length-changed}
use Rattle.class_model.proofs.Agreed.{bind-agrees}

pub first_best-held : {K : Type 0} (t : Classes K) (f : ℕ → Option ℕ) (all bs : List ℕ) (b : ℕ) → first_best t f all bs ≡ Some b → Includes bs b
first_best-held t f all [] b e = cc
first_best-held t f all (x ∷ bs) b e = go (derives_all t (f x) (map f all)) (first_best-held t f all bs b) e
  where
    go : (w : Bool) → (first_best t f all bs ≡ Some b → Includes bs b) → cond w (Some x) (first_best t f all bs) ≡ Some b → Includes (x ∷ bs) b
    go true more e = inl (cc)
    go false more e = inr (more e)

map-agrees : (f g : ℕ → Option ℕ) (bs : List ℕ) → ((b : ℕ) → Includes bs b → f b ≡ g b) → map f bs ≡ map g bs
map-agrees f g [] h = refl
map-agrees f g (b ∷ bs) h =
    let a = h b (inl refl) in
    let r = map-agrees f g bs (λ x k. h x (inr k)) in
    cc (a, r)

-- the solid class is the class or comes of its bases
module _ {K : Type 0} (t : Classes K) (At : ℕ → Type 0) (inside : (x : ℕ) (bs : List ℕ) (b : ℕ) → At x → bases_of t x ≡ Some bs → Includes bs b → At b) where
  solid_within-at : (n c d : ℕ) → At c → solid_within t n c ≡ Some d → At d
  unfolding solid_within
  solid_within-at zero c d p e = cc
  solid_within-at (suc n) c d p e = go (is_solid t c) (solid_within-at n) e
    where
      best : (bs : List ℕ) → bases_of t c ≡ Some bs → ((b : ℕ) → At b → solid_within t n b ≡ Some d → At d) → (o : Option ℕ) → first_best t (solid_within t n) bs bs ≡ o → option_and_then (solid_within t n) o ≡ Some d → At d
      best bs k more None h e = cc
      best bs k more (Some b) h e = more b (inside c bs b p k (first_best-held t (solid_within t n) bs bs b h)) e

      deep : ((b : ℕ) → At b → solid_within t n b ≡ Some d → At d) → (o : Option (List ℕ)) → bases_of t c ≡ o → option_and_then (λ bs. option_and_then (solid_within t n) (first_best t (solid_within t n) bs bs)) o ≡ Some d → At d
      deep more None k e = cc
      deep more (Some bs) k e = best bs k more (first_best t (solid_within t n) bs bs) refl e

      go : (w : Bool) → ((b e : ℕ) → At b → solid_within t n b ≡ Some e → At e) → cond w (Some c) (option_and_then (λ bs. option_and_then (solid_within t n) (first_best t (solid_within t n) bs bs)) (bases_of t c)) ≡ Some d → At d
      go true more e = let s : c ≡ d = cc in subst At s p
      go false more e = deep (λ b q k. more b d q k) (bases_of t c) refl e

-- two tables, and the classes at which they agree
module _ {K L : Type 0} (t : Classes K) (u : Classes L) (At : ℕ → Type 0) (inside : (x : ℕ) (bs : List ℕ) (b : ℕ) → At x → bases_of t x ≡ Some bs → Includes bs b → At b) (alike : (x : ℕ) → At x → bases_of t x ≡ bases_of u x) (lins : (x : ℕ) → At x → lin t x ≡ lin u x) (solids : (x : ℕ) → At x → is_solid t x ≡ is_solid u x) where
  derives_all-agrees : (o : Option ℕ) (ds : List (Option ℕ)) → ((d : ℕ) → o ≡ Some d → At d) → derives_all t o ds ≡ derives_all u o ds
  derives_all-agrees None ds h = refl
  derives_all-agrees (Some c) [] h = refl
  derives_all-agrees (Some c) (None ∷ ds) h = refl
  derives_all-agrees (Some c) (Some d ∷ ds) h =
      let a : is_sub t c d ≡ is_sub u c d = ap (is_along d) (lins c (h c refl)) in
      let r = derives_all-agrees (Some c) ds h in
      ap (λ w. w && derives_all t (Some c) ds) a ∙ ap (λ w. is_sub u c d && w) r

  pub first_best-agrees : (f g : ℕ → Option ℕ) (all bs : List ℕ) → ((b : ℕ) → Includes all b → f b ≡ g b) → ((b d : ℕ) → Includes all b → f b ≡ Some d → At d) → ((b : ℕ) → Includes bs b → Includes all b) → first_best t f all bs ≡ first_best u g all bs
  first_best-agrees f g all [] same at within = refl
  first_best-agrees f g all (b ∷ bs) same at within =
      let p = within b (inl refl) in
      let a : derives_all t (f b) (map f all) ≡ derives_all u (g b) (map g all) =
      derives_all-agrees (f b) (map f all) (λ d k. at b d p k) ∙ ap (λ o. derives_all u o (map f all)) (same b p) ∙ ap (derives_all u (g b)) (map-agrees f g all same) in
      let r = first_best-agrees f g all bs same at (λ x k. within x (inr k)) in
      ap (λ w. cond w (Some b) (first_best t f all bs)) a ∙ ap (cond (derives_all u (g b) (map g all)) (Some b)) r

  step-agrees : (f g : ℕ → Option ℕ) (c : ℕ) → At c → ((bs : List ℕ) (b : ℕ) → bases_of t c ≡ Some bs → Includes bs b → f b ≡ g b) → ((b d : ℕ) → At b → f b ≡ Some d → At d) → cond (is_solid t c) (Some c) (option_and_then (λ bs. option_and_then f (first_best t f bs bs)) (bases_of t c)) ≡ cond (is_solid u c) (Some c) (option_and_then (λ bs. option_and_then g (first_best u g bs bs)) (bases_of u c))
  step-agrees f g c p same at =
      let a : option_and_then (λ bs. option_and_then f (first_best t f bs bs)) (bases_of t c) ≡ option_and_then (λ bs. option_and_then g (first_best u g bs bs)) (bases_of u c) =
      bind-agrees (λ bs. option_and_then f (first_best t f bs bs)) (λ bs. option_and_then g (first_best u g bs bs)) (bases_of t c) (bases_of u c) (alike c p) (λ bs e. bind-agrees f g (first_best t f bs bs) (first_best u g bs bs) (first_best-agrees f g bs bs (λ b h. same bs b e h) (λ b d h k. at b d (inside c bs b p e h) k) (λ b h. h)) (λ b k. same bs b e (first_best-held t f bs bs b k))) in
      ap (cond (is_solid t c) (Some c)) a ∙ ap (λ w. cond w (Some c) (option_and_then (λ bs. option_and_then g (first_best u g bs bs)) (bases_of u c))) (solids c p)

  -- as deep in both
  pub solid_within-same : (n c : ℕ) → At c → solid_within t n c ≡ solid_within u n c
  unfolding solid_within
  solid_within-same zero c p = refl
  solid_within-same (suc n) c p =
      step-agrees (solid_within t n) (solid_within u n) c p (λ bs b e h. solid_within-same n b (inside c bs b p e h)) (λ b d q k. solid_within-at t At inside n b d q k)

  -- deeper in the second, where a linearisation is no deeper than in the first
  pub solid_within-grows : (n m c : ℕ) (line : List ℕ) → n ≤ m → linear (bases_of t) n c ≡ Some line → At c → solid_within t n c ≡ solid_within u m c
  unfolding solid_within
  solid_within-grows zero m c line l e p = absurd (linear-zero (bases_of t) c line e)
  solid_within-grows (suc n) zero c line l e p = absurd (omega arith)
  solid_within-grows (suc n) (suc m) c line l e p =
      let made = linear-made (bases_of t) n c line e in
      let same : (bs : List ℕ) (b : ℕ) → bases_of t c ≡ Some bs → Includes bs b → solid_within t n b ≡ solid_within u m b =
      λ bs b k h. let s : bs ≡ made.direct = let q = made.of_class in cc in let P : List ℕ → Type 0 = λ w. Includes w b in let r = all_some-has (linear (bases_of t) n) made.direct made.lines b made.of_bases (subst P s h) in solid_within-grows n m b r.0 (omega arith) r.2 (inside c bs b p k h) in
      step-agrees (solid_within t n) (solid_within u m) c p same (λ b d q k. solid_within-at t At inside n b d q k)

  pub base-agrees : (c : ℕ) → At c → ((b : ℕ) → At b → solid t b ≡ solid u b) → base t c ≡ base u c
  base-agrees c p same =
      bind-agrees (best_of t) (best_of u) (bases_of t c) (bases_of u c) (alike c p) (λ bs e. first_best-agrees (solid t) (solid u) bs bs (λ b h. same b (inside c bs b p e h)) (λ b d h k. solid_within-at t At inside (length t) b d (inside c bs b p e h) k) (λ b h. h))

-- the first best of one base
best-one : {K : Type 0} (u : Classes K) (f : ℕ → Option ℕ) (b : ℕ) → ((d : ℕ) → f b ≡ Some d → is_sub u d d ≡ true) → option_and_then f (first_best u f (b ∷ []) (b ∷ [])) ≡ f b
best-one u f b h = go (f b) refl
  where
    go : (o : Option ℕ) → f b ≡ o → option_and_then f (cond (derives_all u o (o ∷ [])) (Some b) None) ≡ f b
    go None e = sym e
    go (Some d) e = ap (λ w. option_and_then f (cond (w && true) (Some b) None)) (h d e)

pub best-one_some : {K : Type 0} (u : Classes K) (f : ℕ → Option ℕ) (b d : ℕ) → f b ≡ Some d → is_sub u d d ≡ true → first_best u f (b ∷ []) (b ∷ []) ≡ Some b
best-one_some u f b d e h = ap (λ o. cond (derives_all u o (o ∷ [])) (Some b) None) e ∙ ap (λ w. cond (w && true) (Some b) None) h

module _ {K : Type 0} where
  Lined : Classes K → ℕ → Type 0
  Lined t x = (l : List ℕ) × (lin t x ≡ Some l)

  lined-inside : (t : Classes K) (x : ℕ) (bs : List ℕ) (b : ℕ) → Lined t x → bases_of t x ≡ Some bs → Includes bs b → Lined t b
  unfolding Lined
  lined-inside t x bs b r e h = lin-member t x r.0 b r.1 (lin-bases t x r.0 bs b r.1 e h)

  -- the solid class of a class is along its linearisation
  pub solid-held : (t : Classes K) (c : ℕ) (line : List ℕ) (d : ℕ) → lin t c ≡ Some line → solid t c ≡ Some d → Includes line d
  solid-held t c line d e h =
      solid_within-at t (λ x. Includes line x) (λ x bs b p k q. let r = lin-member t c line x e p in lin-inside t c line x r.0 b e p r.1 (lin-bases t x r.0 bs b r.1 k q)) (length t) c d (lin-held t c line e) h

  pub is_solid-push : (t : Classes K) (k : Class K) (c : ℕ) → is_class t c ≡ true → is_solid (with_class t k) c ≡ is_solid t c
  is_solid-push t k c l = ap (λ o. nat_lt c built_ins || has_members o) (at-before t k c l)

  size-push : (t : Classes K) (k : Class K) → length (with_class t k) ≡ suc (length t)
  size-push t k = omega (arith, length-append t (k ∷ []))

  -- enough depth in the larger table
  push-deep : (t : Classes K) (k : Class K) (m c : ℕ) (line : List ℕ) → length t ≤ m → lin t c ≡ Some line → solid t c ≡ solid_within (with_class t k) m c
  unfolding Lined
  push-deep t k m c line l e =
      solid_within-grows t (with_class t k) (Lined t) (lined-inside t) (λ x r. sym (bases_of-before t k x (lin-within t x r.0 r.1))) (λ x r. r.1 ∙ sym (lin-push t k x r.0 r.1)) (λ x r. sym (is_solid-push t k x (lin-within t x r.0 r.1))) (length t) m c line l e (line, e)

  pub solid-push : (t : Classes K) (k : Class K) (c : ℕ) (line : List ℕ) → lin t c ≡ Some line → solid (with_class t k) c ≡ solid t c
  solid-push t k c line e = sym (push-deep t k (length (with_class t k)) c line (omega (arith, size-push t k)) e)

  pub base-push : (t : Classes K) (k : Class K) (c : ℕ) (line : List ℕ) → lin t c ≡ Some line → base (with_class t k) c ≡ base t c
  unfolding Lined
  base-push t k c line e =
      sym (base-agrees t (with_class t k) (Lined t) (lined-inside t) (λ x r. sym (bases_of-before t k x (lin-within t x r.0 r.1))) (λ x r. r.1 ∙ sym (lin-push t k x r.0 r.1)) (λ x r. sym (is_solid-push t k x (lin-within t x r.0 r.1))) c (line, e) (λ b r. sym (solid-push t k b r.0 r.1)))

  -- a solid class derives from itself, also in the larger table
  solid-itself : (t : Classes K) (k : Class K) (b : ℕ) (line : List ℕ) (d : ℕ) → lin t b ≡ Some line → solid t b ≡ Some d → is_sub (with_class t k) d d ≡ true
  solid-itself t k b line d e h =
      let r = lin-member t b line d e (solid-held t b line d e h) in
      ap (is_along d) (lin-push t k d r.0 r.1) ∙ lin-itself t d r.0 r.1

  -- the new class
  module _ (t : Classes K) (k : Class K) (fresh : limit t ≤ k.number) where
    pub is_solid-last : is_solid (with_class t k) k.number ≡ nat_lt k.number built_ins || has_members (Some k)
    is_solid-last = ap (λ o. nat_lt k.number built_ins || has_members o) (at-last t k fresh)

    solid-last : (bs : List ℕ) → k.bases ≡ bs → solid (with_class t k) k.number ≡ cond (is_solid (with_class t k) k.number) (Some k.number) (option_and_then (solid_within (with_class t k) (length t)) (first_best (with_class t k) (solid_within (with_class t k) (length t)) bs bs))
    unfolding solid_within
    solid-last bs e =
        let u = with_class t k in
        let f = solid_within (with_class t k) (length t) in
        ap (λ n. solid_within u n k.number) (size-push t k) ∙ ap (λ o. cond (is_solid u k.number) (Some k.number) (option_and_then (λ bs. option_and_then f (first_best u f bs bs)) o)) (bases_of-last t k fresh bs e)

    pub solid-one_base : (b : ℕ) (line : List ℕ) → k.bases ≡ b ∷ [] → lin t b ≡ Some line → solid (with_class t k) k.number ≡ cond (is_solid (with_class t k) k.number) (Some k.number) (solid t b)
    solid-one_base b line e h =
        let u = with_class t k in
        let f = solid_within (with_class t k) (length t) in
        let deep : solid t b ≡ f b = push-deep t k (length t) b line (omega arith) h in
        solid-last (b ∷ []) e ∙ ap (cond (is_solid u k.number) (Some k.number)) (best-one u f b (λ d q. solid-itself t k b line d h (deep ∙ q)) ∙ sym deep)

    pub solid-root : k.bases ≡ [] → solid (with_class t k) k.number ≡ cond (is_solid (with_class t k) k.number) (Some k.number) None
    solid-root e = solid-last [] e

    -- a class that is solid itself, whatever its bases
    pub solid-own : is_solid (with_class t k) k.number ≡ true → solid (with_class t k) k.number ≡ Some k.number
    solid-own e =
        solid-last k.bases refl ∙ ap (λ w. cond w (Some k.number) (option_and_then (solid_within (with_class t k) (length t)) (first_best (with_class t k) (solid_within (with_class t k) (length t)) k.bases k.bases))) e

    pub solid-built_in : k.number < built_ins → solid (with_class t k) k.number ≡ Some k.number
    solid-built_in l = solid-own (is_solid-last ∙ ap (λ w. w || has_members (Some k)) (lt-ltb k.number built_ins l))

    pub base-one_base : (b : ℕ) (line : List ℕ) (d : ℕ) → k.bases ≡ b ∷ [] → lin t b ≡ Some line → solid t b ≡ Some d → base (with_class t k) k.number ≡ Some b
    base-one_base b line d e h q =
        ap (option_and_then (best_of (with_class t k))) (bases_of-last t k fresh (b ∷ []) e) ∙ best-one_some (with_class t k) (solid (with_class t k)) b d (solid-push t k b line h ∙ q) (solid-itself t k b line d h q)

    pub base-root : k.bases ≡ [] → base (with_class t k) k.number ≡ None
    base-root e = ap (option_and_then (best_of (with_class t k))) (bases_of-last t k fresh [] e)

  module _ (same : K → K → Bool) (t : Classes K) (c : ℕ) (n : K) (v : PyObjectRef) where
    pub bases_of-attr : (x : ℕ) → bases_of (with_class_attr same t c n v) x ≡ bases_of t x
    bases_of-attr x = at-changed (λ k. record k { attrs = with_value same k.attrs n v }) (λ k. refl) (option_map (λ (k : Class K). k.bases)) (λ k. refl) t c x

    pub is_solid-attr : (d : ℕ) → is_solid (with_class_attr same t c n v) d ≡ is_solid t d
    is_solid-attr d = ap (λ w. nat_lt d built_ins || w) (at-changed (λ k. record k { attrs = with_value same k.attrs n v }) (λ k. refl) has_members (λ k. refl) t c d)

    pub solid-attr : (d : ℕ) → solid (with_class_attr same t c n v) d ≡ solid t d
    solid-attr d =
        solid_within-same (with_class_attr same t c n v) t (λ x. Unit {0}) (λ x bs b p e h. tt) (λ x p. bases_of-attr x) (λ x p. lin-attr same t c n v x) (λ x p. is_solid-attr x) (length (with_class_attr same t c n v)) d tt ∙ ap (λ m. solid_within t m d) (length-changed (λ k. record k { attrs = with_value same k.attrs n v }) (λ k. refl) t c)

    pub base-attr : (d : ℕ) → base (with_class_attr same t c n v) d ≡ base t d
    base-attr d =
        base-agrees (with_class_attr same t c n v) t (λ x. Unit {0}) (λ x bs b p e h. tt) (λ x p. bases_of-attr x) (λ x p. lin-attr same t c n v x) (λ x p. is_solid-attr x) d tt (λ b p. solid-attr b)

-- what is found is found of what is there
pub bound : {A B : Type 0} (f : A → Option B) (o : Option A) (y : B) → option_and_then f o ≡ Some y → (x : A) × (o ≡ Some x) × (f x ≡ Some y)
bound f None y e = cc
bound f (Some x) y e = (x, refl, e)

-- a solid class is solid itself
pub solid-solid : {K : Type 0} (t : Classes K) (n b x : ℕ) → solid_within t n b ≡ Some x → is_solid t x ≡ true
unfolding solid_within
solid-solid t zero b x e = cc
solid-solid t (suc n) b x e = go (is_solid t b) refl e (λ y q. solid-solid t n y x q)
  where
    go : (w : Bool) → is_solid t b ≡ w → cond w (Some b) (option_and_then (λ ws. option_and_then (solid_within t n) (first_best t (solid_within t n) ws ws)) (bases_of t b)) ≡ Some x → ((y : ℕ) → solid_within t n y ≡ Some x → is_solid t x ≡ true) → is_solid t x ≡ true
    go true h e more = let s : b ≡ x = cc in ap (is_solid t) (sym s) ∙ h
    go false h e more =
        let r = bound (λ ws. option_and_then (solid_within t n) (first_best t (solid_within t n) ws ws)) (bases_of t b) x e in
        let q = bound (solid_within t n) (first_best t (solid_within t n) r.0 r.0) x r.2 in
        more q.0 q.2

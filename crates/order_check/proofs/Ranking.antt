-- Ranks of classes: a class has a greater one than its bases.
use Rattle.order_check.proofs.Below.{ℕ, zero, suc, Bool, true, false, cond, eqb, List, [], length, get_or, set, Option, Some, None, inl, inr, refl, sym, ap, subst, ◌∙◌, arith, below_more, is_some, eqb-true, and_parts, false≢true, both_ways, has, Includes, Distinct, bases_of, distinct-fewer, Includes-equal, Decides-has, Entry, classes, keys_of, AreKeyed, known_in, unknown, IsBase, AreBases, AreThere, AreApart, are_ranked, IsRanking, IsStuckAt, IsStuckTo, have_ranks}
use Rattle.std.proofs.Common.{◌≡◌, ◌+◌, ◌<◌, ◌≤◌, ◌&&◌, ◌∷◌, ◌++◌}
use Rattle.std.specs.Prelude.{◌↔◌}
use Rattle.order_check.proofs.Places.{key-at, key-held, held-at, bases-at, bases-held, known-at, known-set, unknown-set}

module _ (h : List Entry) (rs : List (Option ℕ)) where
  -- ranks fall along bases
  falls : (n : ℕ) → IsRanking h rs n → (c m d : ℕ) (between : List ℕ) → known_in h rs c ≡ Some m → AreBases h c (between ++ d ∷ []) → (k : ℕ) × (known_in h rs d ≡ Some k) × (k < m)
  unfolding IsRanking
  falls n r c m d [] e p = (r c m e).1 d p.0
  falls n r c m d (b ∷ bs) e p =
      let one = (r c m e).1 b p.0 in
      let two = falls n r b one.0 d bs one.1 p.1 in
      (two.0, two.1, omega (arith, one.2, two.2))

  pub ranked-apart : (n : ℕ) → IsRanking h rs n → (c m : ℕ) (between : List ℕ) → known_in h rs c ≡ Some m → AreBases h c (between ++ c ∷ []) → ⊥
  ranked-apart n r c m between e p =
      let f = falls n r c m c between e p in
      let same : f.0 ≡ m = let a = f.1 in cc in
      let less = f.2 in
      omega (arith, same, less)

  -- one of them has no rank
  unranked : (bs : List ℕ) → are_ranked (known_in h rs) bs ≡ false → (b : ℕ) × Includes bs b × (known_in h rs b ≡ None)
  unranked [] e = absurd (false≢true (sym e))
  unranked (b ∷ bs) e = go (known_in h rs b) refl e (unranked bs)
    where
      go : (o : Option ℕ) → known_in h rs b ≡ o → (is_some o && are_ranked (known_in h rs) bs) ≡ false → (are_ranked (known_in h rs) bs ≡ false → (d : ℕ) × Includes bs d × (known_in h rs d ≡ None)) → (d : ℕ) × Includes (b ∷ bs) d × (known_in h rs d ≡ None)
      go None q e more = (b, inl refl, q)
      go (Some k) q e more = let r = more e in (r.0, inr r.1, r.2)

  one-more : (c x b : ℕ) (xs : List ℕ) → AreBases h c (xs ++ x ∷ []) → IsBase h x b → AreBases h c ((xs ++ x ∷ []) ++ b ∷ [])
  one-more c x b [] p i = (p.0, (i, tt))
  one-more c x b (y ∷ xs) p i = (p.0, one-more y x b xs p.1 i)

  module _ (stuck : (c : ℕ) → Includes (keys_of h) c → IsStuckAt h rs c) (there : (c b : ℕ) → IsBase h c b → Includes (keys_of h) b) (bases : (c : ℕ) → Includes (keys_of h) c → (bs : List ℕ) × (bases_of (classes h) c ≡ Some bs)) (apart : (c : ℕ) (between : List ℕ) → AreBases h c (between ++ c ∷ []) → ⊥) where
    walk : (n : ℕ) (seen : List ℕ) (x : ℕ) → known_in h rs x ≡ None → Includes (keys_of h) x → Distinct seen → ((y : ℕ) → Includes seen y → Includes (keys_of h) y) → ((y : ℕ) → Includes seen y → (between : List ℕ) × AreBases h y (between ++ x ∷ [])) → length (keys_of h) < n + length seen → ⊥
    walk zero seen x none held d within paths more = let few = distinct-fewer seen (keys_of h) d within in omega (arith, few, more)
    walk (suc n) seen x none held d within paths more = go (has seen x) refl (walk n (x ∷ seen))
      where
        next : (b : ℕ) × IsBase h x b × (known_in h rs b ≡ None)
        next =
            let bs = bases x held in
            let r = unranked bs.0 (stuck x held none bs.0 bs.1) in
            (r.0, record { bases = bs.0; of_class = bs.1; held = r.1 }, r.2)

        all : (y : ℕ) → Includes (x ∷ seen) y → Includes (keys_of h) y
        all y (inl e) = Includes-equal (keys_of h) x y e held
        all y (inr k) = within y k

        lead : (y : ℕ) → Includes (x ∷ seen) y → (between : List ℕ) × AreBases h y (between ++ next.0 ∷ [])
        lead y (inl e) = ([], (let P : ℕ → Type 0 = λ w. IsBase h w next.0 in subst P e next.1, tt))
        lead y (inr k) = let p = paths y k in (p.0 ++ x ∷ [], one-more y x next.0 p.0 p.1 next.1)

        go : (b : Bool) → has seen x ≡ b → ((z : ℕ) → known_in h rs z ≡ None → Includes (keys_of h) z → Distinct (x ∷ seen) → ((y : ℕ) → Includes (x ∷ seen) y → Includes (keys_of h) y) → ((y : ℕ) → Includes (x ∷ seen) y → (between : List ℕ) × AreBases h y (between ++ z ∷ [])) → length (keys_of h) < n + length (x ∷ seen) → ⊥) → ⊥
        go true t rec = let p = paths x ((Decides-has seen x).0 t) in apart x p.0 p.1
        go false t rec = rec next.0 next.2 (there x next.0 next.1) (λ k. both_ways (has seen x) t ((Decides-has seen x).1 k), d) all lead (omega (arith, more))

    pub none-unranked : (c : ℕ) → Includes (keys_of h) c → known_in h rs c ≡ None → ⊥
    none-unranked c held none = walk (suc (length (keys_of h))) [] c none held tt (λ y k. absurd k) (λ y k. absurd k) (omega arith)

-- the entry at a place
entry-at : (h : List Entry) (i : ℕ) → i < length h → (e : Entry) × (e ≡ get_or h i e)
entry-at [] i l = absurd (omega arith)
entry-at (x ∷ h) zero l = (x, refl)
entry-at (x ∷ h) (suc i) l = let r = entry-at h i (omega arith) in (r.0, r.1)

bases-there : (h : List Entry) → AreKeyed h → (c : ℕ) → Includes (keys_of h) c → (bs : List ℕ) × (bases_of (classes h) c ≡ Some bs)
bases-there h d c k =
    let r = held-at h c k in
    let e = entry-at h r.0 r.1 in
    (e.0.bases.items, ap (bases_of (classes h)) (sym r.2 ∙ key-at h r.0 e.0 r.1 e.1) ∙ bases-at h r.0 e.0 d r.1 e.1)

ranks-all : (rs : List (Option ℕ)) → have_ranks rs ≡ true → (i : ℕ) → i < length rs → (m : ℕ) × (get_or rs i None ≡ Some m)
ranks-all [] e i l = absurd (omega arith)
ranks-all (None ∷ rs) e i l = absurd (false≢true e)
ranks-all (Some m ∷ rs) e zero l = (m, refl)
ranks-all (Some m ∷ rs) e (suc i) l = ranks-all rs e i (omega arith)

all-ranks : (rs : List (Option ℕ)) → ((i : ℕ) → i < length rs → get_or rs i None ≡ None → ⊥) → have_ranks rs ≡ true
all-ranks [] n = refl
all-ranks (None ∷ rs) n = absurd (n 0 (omega arith) refl)
all-ranks (Some m ∷ rs) n = all-ranks rs (λ i l. n (suc i) (omega arith))

-- where nothing more gets a rank, all have one exactly where no class derives from itself
pub ranks-decide : (h : List Entry) (rs : List (Option ℕ)) (n : ℕ) → AreKeyed h → AreThere h → length rs ≡ length h → IsRanking h rs n → IsStuckTo h rs (length h) → (have_ranks rs ≡ true) ↔ AreApart h
unfolding IsStuckTo
ranks-decide h rs n d there size ranking stuck = (
  λ t c between p.
      let base = first-base c between c p in
      let k = held-at h c (bases-held h c base.bases base.of_class) in
      let r = ranks-all rs t k.0 (let l = k.1 in omega (arith, size, l)) in
      let known : known_in h rs c ≡ Some r.0 = ap (known_in h rs) (sym k.2) ∙ known-at h rs k.0 d k.1 ∙ r.1 in
      ranked-apart h rs n ranking c r.0 between known p,
  λ apart. all-ranks rs (λ i l none.
      let within : i < length h = omega (arith, size, l) in
      none-unranked h rs stuck-at there (bases-there h d) apart (get_or (keys_of h) i 0) (key-held h i within) (known-at h rs i d within ∙ none)),
)
  where
    first : ℕ → List ℕ → ℕ
    first c [] = c
    first c (b ∷ bs) = b

    first-base : (c : ℕ) (between : List ℕ) (z : ℕ) → AreBases h c (between ++ z ∷ []) → IsBase h c (first z between)
    first-base c [] z p = p.0
    first-base c (b ∷ bs) z p = p.0

    stuck-at : (c : ℕ) → Includes (keys_of h) c → IsStuckAt h rs c
    stuck-at c k = let r = held-at h c k in let P : ℕ → Type 0 = λ w. IsStuckAt h rs w in subst P r.2 (stuck r.0 r.1)

-- a step

at-any : {A : Type 0} (xs : List A) (i : ℕ) (x d : A) → i < length xs → x ≡ get_or xs i x → get_or xs i d ≡ x
at-any [] i x d l is = absurd (omega arith)
at-any (y ∷ xs) zero x d l is = sym is
at-any (y ∷ xs) (suc i) x d l is = at-any xs i x d (omega arith) is

pub rank-at : (h : List Entry) (rs : List (Option ℕ)) (i c : ℕ) (o : Option ℕ) → AreKeyed h → length rs ≡ length h → i < length h → get_or (keys_of h) i 0 ≡ c → o ≡ get_or rs i o → known_in h rs c ≡ o
rank-at h rs i c o d n l k is = ap (known_in h rs) (sym k) ∙ known-at h rs i d l ∙ at-any rs i o None (omega arith) is

pub some-stuck : (h : List Entry) (rs : List (Option ℕ)) (i : ℕ) (o : Option ℕ) → AreKeyed h → length rs ≡ length h → i < length h → o ≡ get_or rs i o → is_some o ≡ true → IsStuckAt h rs (get_or (keys_of h) i 0)
some-stuck h rs i None d n l is t e = absurd (false≢true t)
some-stuck h rs i (Some m) d n l is t e = let k = rank-at h rs i (get_or (keys_of h) i 0) (Some m) d n l refl is in cc

pub unranked-stuck : (h : List Entry) (rs : List (Option ℕ)) (i : ℕ) (e : Entry) → AreKeyed h → i < length h → e ≡ get_or h i e → are_ranked (known_in h rs) e.bases.items ≡ false → IsStuckAt h rs (get_or (keys_of h) i 0)
unranked-stuck h rs i e d l is f none bs q =
    let mine : bases_of (classes h) (get_or (keys_of h) i 0) ≡ Some e.bases.items = ap (bases_of (classes h)) (key-at h i e l is) ∙ bases-at h i e d l is in
    let same : e.bases.items ≡ bs = cc (mine, q) in
    ap (are_ranked (known_in h rs)) (sym same) ∙ f

has-rank : (f : ℕ → Option ℕ) (bs : List ℕ) (b : ℕ) → are_ranked f bs ≡ true → Includes bs b → (k : ℕ) × (f b ≡ Some k)
has-rank f [] b t h = absurd h
has-rank f (x ∷ bs) b t (inl i) = go (f x) refl (and_parts (is_some (f x)) (are_ranked f bs) t).0
  where
    go : (o : Option ℕ) → f x ≡ o → is_some o ≡ true → (k : ℕ) × (f b ≡ Some k)
    go None q s = absurd (false≢true s)
    go (Some k) q s = (k, ap f (sym i) ∙ q)
has-rank f (x ∷ bs) b t (inr h) = has-rank f bs b (and_parts (is_some (f x)) (are_ranked f bs) t).1 h

-- one more rank
pub ranking-more : (h : List Entry) (rs : List (Option ℕ)) (i n : ℕ) (e : Entry) (o : Option ℕ) → AreKeyed h → length rs ≡ length h → i < length h → e ≡ get_or h i e → o ≡ get_or rs i o → is_some o ≡ false → are_ranked (known_in h rs) e.bases.items ≡ true → IsRanking h rs n → IsRanking h (set rs i (Some n)) (n + 1)
unfolding IsRanking
ranking-more h rs i n e o d size l is at none ranked ranking c m k = go (eqb (get_or (keys_of h) i 0) c) refl (sym (known-set h rs i (Some n) c d size l) ∙ k)
  where
    mine : bases_of (classes h) (get_or (keys_of h) i 0) ≡ Some e.bases.items
    mine = ap (bases_of (classes h)) (key-at h i e l is) ∙ bases-at h i e d l is

    nothing : (o : Option ℕ) → is_some o ≡ false → o ≡ None
    nothing None e = refl
    nothing (Some x) e = cc

    unranked-here : known_in h rs (get_or (keys_of h) i 0) ≡ None
    unranked-here = rank-at h rs i (get_or (keys_of h) i 0) o d size l refl at ∙ nothing o none

    -- what had a rank has it still
    kept : (b j : ℕ) → known_in h rs b ≡ Some j → known_in h (set rs i (Some n)) b ≡ Some j
    kept b j q = known-set h rs i (Some n) b d size l ∙ still (eqb (get_or (keys_of h) i 0) b) refl
      where
        still : (a : Bool) → eqb (get_or (keys_of h) i 0) b ≡ a → cond a (Some n) (known_in h rs b) ≡ Some j
        still true t = let s = ap (known_in h rs) (eqb-true (get_or (keys_of h) i 0) b t) in let u = unranked-here in cc
        still false t = q

    go : (a : Bool) → eqb (get_or (keys_of h) i 0) c ≡ a → cond a (Some n) (known_in h rs c) ≡ Some m → (m < n + 1) × ((b : ℕ) → IsBase h c b → (j : ℕ) × (known_in h (set rs i (Some n)) b ≡ Some j) × (j < m))
    go true t q =
        let same : n ≡ m = cc in (
          omega (arith, same),
          λ b p.
              let bases : e.bases.items ≡ p.bases = let s = ap (bases_of (classes h)) (eqb-true (get_or (keys_of h) i 0) c t) in let u = p.of_class in cc (mine, s, u) in
              let P : List ℕ → Type 0 = λ w. Includes w b in
              let r = has-rank (known_in h rs) e.bases.items b ranked (subst P (sym bases) p.held) in
              (r.0, kept b r.0 r.1, (let less = (ranking b r.0 r.1).0 in omega (arith, less, same))),
        )
    go false t q =
        let r = ranking c m q in (
          (let less = r.0 in omega (arith, less)),
          λ b p. let f = r.1 b p in (f.0, kept b f.0 f.1, f.2),
        )

pub rank-fewer : (rs : List (Option ℕ)) (i n : ℕ) (o : Option ℕ) → i < length rs → o ≡ get_or rs i o → is_some o ≡ false → unknown (set rs i (Some n)) < unknown rs
rank-fewer rs i n None l is e = unknown-set rs i n l (at-any rs i None None l is)
rank-fewer rs i n (Some x) l is e = cc

pub ranking-none : (h : List Entry) (rs : List (Option ℕ)) → unknown rs ≡ length rs → IsRanking h rs 0
unfolding IsRanking
ranking-none h rs all c m k = absurd (no h rs all c m k)
  where
    few : (rs : List (Option ℕ)) → unknown rs ≤ length rs
    few [] = omega arith
    few (None ∷ rs) = let f = few rs in omega arith
    few (Some x ∷ rs) = let f = few rs in omega arith

    no : (h : List Entry) (rs : List (Option ℕ)) → unknown rs ≡ length rs → (c m : ℕ) → known_in h rs c ≡ Some m → ⊥
    no [] rs all c m k = cc
    no (x ∷ h) [] all c m k = cc
    no (x ∷ h) (None ∷ rs) all c m k = go (eqb x.key c) k (no h rs (omega (arith, all)) c m)
      where
        go : (a : Bool) → cond a None (known_in h rs c) ≡ Some m → (known_in h rs c ≡ Some m → ⊥) → ⊥
        go true k more = cc
        go false k more = more k
    no (x ∷ h) (Some y ∷ rs) all c m k = let f = few rs in omega (arith, f, all)

pub unknown-push : (rs : List (Option ℕ)) → unknown (rs ++ None ∷ []) ≡ unknown rs + 1
unknown-push [] = omega arith
unknown-push (None ∷ rs) = let r = unknown-push rs in omega arith
unknown-push (Some x ∷ rs) = unknown-push rs

pub stuck-none : (h : List Entry) (rs : List (Option ℕ)) → IsStuckTo h rs 0
unfolding IsStuckTo
stuck-none h rs k l = absurd (omega arith)

pub stuck-more : (h : List Entry) (rs : List (Option ℕ)) (n : ℕ) → IsStuckTo h rs n → IsStuckAt h rs (get_or (keys_of h) n 0) → IsStuckTo h rs (n + 1)
unfolding IsStuckTo
stuck-more h rs n s here = below_more (λ k. IsStuckAt h rs (get_or (keys_of h) k 0)) n s here

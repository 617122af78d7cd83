-- Linearisations where one class has other bases, none of which derives from it.
use Rattle.class_table.proofs.Below.{ℕ, zero, suc, true, false, eqb, List, [], map, length, Option, Some, None, inl, inr, refl, sym, ap, subst, ◌∙◌, is_some, option_map, false_from_ne_true, false≢true, cases_eq, eqb-true, has, linear, least_order, all_some, Includes, Subsequence, BeginsWith, IsOrder, Class, Classes, class_at, is_class, bases_of, lin, is_along, is_sub, with_bases, NoneIsBlamed, is_empty, AreSound, Includes-equal, Subsequence-holds, Decides-has, least_order-order, least_order-none, linear-made, linear-zero, all_some-has, some-of, at-changed, at-changed_away, at-changed_here, lin-from, lin-along, lin-begins, lin-held, lin-member, lin-bases, lin-distinct, all_some-map, lin-by, keeps-members}
use Rattle.std.proofs.Common.{◌≡◌, ◌∷◌}

-- a class is none of its own bases, and none of its bases derives from it
module _ {K : Type 0} (t : Classes K) where
  pub own-base : (n x : ℕ) (bs line : List ℕ) → bases_of t x ≡ Some bs → Includes bs x → linear (bases_of t) n x ≡ Some line → ⊥
  own-base zero x bs line e h l = linear-zero (bases_of t) x line l
  own-base (suc n) x bs line e h l =
      let made = linear-made (bases_of t) n x line l in
      let s : bs ≡ made.direct = let q = made.of_class in cc in
      let P : List ℕ → Type 0 = λ ds. Includes ds x in
      let r = all_some-has (linear (bases_of t) n) made.direct made.lines x made.of_bases (subst P s h) in
      own-base n x bs r.0 e h r.2

  pub past-head : (x b : ℕ) (l rest : List ℕ) → BeginsWith b l → (b ≡ x → ⊥) → Subsequence l (x ∷ rest) → Subsequence l rest
  past-head x b [] rest h n s = absurd h
  past-head x b (y ∷ l) rest h n (inl p) = absurd (n (sym h ∙ p.0))
  past-head x b (y ∷ l) rest h n (inr s) = s

  pub base-apart : (x : ℕ) (line bs : List ℕ) (b : ℕ) → lin t x ≡ Some line → bases_of t x ≡ Some bs → Includes bs b → is_sub t b x ≡ false
  base-apart x [] bs b e f h = absurd (lin-begins t x [] e)
  base-apart x (y ∷ rest) bs b e f h =
      let is : y ≡ x = lin-begins t x (y ∷ rest) e in
      let held = lin-bases t x (y ∷ rest) bs b e f h in
      let r = lin-member t x (y ∷ rest) b e held in
      let sub = keeps-members t x (y ∷ rest) b r.0 e held r.1 in
      let once = lin-distinct t x (y ∷ rest) e in
      let other : b ≡ y → ⊥ = λ i. own-base (length t) x bs (y ∷ rest) f (Includes-equal bs b x (i ∙ is) h) e in
      let past : Subsequence r.0 rest = past-head y b r.0 rest (lin-begins t b r.0 r.1) other sub in
      ap (is_along x) r.1 ∙ false_from_ne_true (has r.0 x) (λ q. once.0 (Includes-equal rest x y (sym is) (Subsequence-holds r.0 rest x past ((Decides-has r.0 x).0 q))))

  -- each class with a linearisation derives from the class that has no base
  module _ (roots : (c : ℕ) (bs : List ℕ) → bases_of t c ≡ Some bs → is_empty bs ≡ eqb c 0) where
    root-deep : (n x : ℕ) (line : List ℕ) → linear (bases_of t) n x ≡ Some line → Includes line 0
    root-deep zero x line e = absurd (linear-zero (bases_of t) x line e)
    root-deep (suc n) x line e =
        let made = linear-made (bases_of t) n x line e in
        go made.direct made.lines made.of_class made.of_bases (least_order-order x made.direct made.lines line made.is) (λ b l h. root-deep n b l h)
      where
        go : (direct : List ℕ) (lines : List (List ℕ)) → bases_of t x ≡ Some direct → all_some (map (linear (bases_of t) n) direct) ≡ Some lines → IsOrder x direct lines line → ((b : ℕ) (l : List ℕ) → linear (bases_of t) n b ≡ Some l → Includes l 0) → Includes line 0
        go [] lines of all order more =
            let zero : x ≡ 0 = eqb-true x 0 (sym (roots x [] of)) in
            Includes-equal line x 0 zero (lin-held t x line (lin-from t (suc n) x line e))
        go (b ∷ direct) lines of all order more =
            let r = all_some-has (linear (bases_of t) n) (b ∷ direct) lines b all (inl refl) in
            Subsequence-holds r.0 line 0 (order.keeps r.0 r.1) (more b r.0 r.2)

    pub root-held : (x : ℕ) (line : List ℕ) → lin t x ≡ Some line → Includes line 0
    root-held x line e = root-deep (length t) x line e

all-lined : (f : ℕ → Option (List ℕ)) (ds : List ℕ) → ((b : ℕ) → Includes ds b → is_some (f b) ≡ true) → (ls : List (List ℕ)) × (all_some (map f ds) ≡ Some ls)
all-lined f [] h = ([], refl)
all-lined f (d ∷ ds) h =
    let r = some-of (f d) (h d (inl refl)) in
    let rest = all-lined f ds (λ b k. h b (inr k)) in
    (r.0 ∷ rest.0, ap (λ o. all_some (o ∷ map f ds)) r.1 ∙ ap (option_map (λ xs. r.0 ∷ xs)) rest.1)

module _ {K : Type 0} (t : Classes K) (c : ℕ) (bs : List ℕ) where
  pub bases-away : (x : ℕ) → (x ≡ c → ⊥) → bases_of (with_bases t c bs) x ≡ bases_of t x
  bases-away x n = ap (option_map (λ (k : Class K). k.bases)) (at-changed_away (λ k. record k { bases = bs }) (λ k. refl) t c x n)

  pub bases-here : is_class t c ≡ true → bases_of (with_bases t c bs) c ≡ Some bs
  bases-here l =
      let r = some-of (class_at t c) l in
      ap (option_map (λ (k : Class K). k.bases)) (at-changed_here (λ k. record k { bases = bs }) (λ k. refl) t c ∙ ap (option_map (λ (k : Class K). record k { bases = bs })) r.1)

  pub classes-kept : (x : ℕ) → is_class (with_bases t c bs) x ≡ is_class t x
  classes-kept x = at-changed (λ k. record k { bases = bs }) (λ k. refl) is_some (λ k. refl) t c x

  -- a class that does not derive from it keeps its linearisation
  pub line-away : (x : ℕ) (line : List ℕ) → lin t x ≡ Some line → has line c ≡ false → lin (with_bases t c bs) x ≡ Some line
  line-away x line e k =
      lin-along t (with_bases t c bs) x line e (λ y h. sym (bases-away y (λ i. false≢true (sym k ∙ (Decides-has line c).1 (Includes-equal line y c i h)))))

  -- where no class is to blame
  module _ (none : NoneIsBlamed (with_bases t c bs)) where
    unblamed : (x : ℕ) (ds : List ℕ) → bases_of (with_bases t c bs) x ≡ Some ds → ((b : ℕ) → Includes ds b → is_some (lin (with_bases t c bs) b) ≡ true) → is_some (lin (with_bases t c bs) x) ≡ true
    unblamed x ds of lines = let r = all-lined (lin (with_bases t c bs)) ds lines in go r.0 r.1 (least_order x ds r.0) refl
      where
        go : (ls : List (List ℕ)) → all_some (map (lin (with_bases t c bs)) ds) ≡ Some ls → (o : Option (List ℕ)) → least_order x ds ls ≡ o → is_some (lin (with_bases t c bs) x) ≡ true
        go ls all None e = absurd (none x ds ls (record { of_class = of; of_bases = all_some-map (map (lin (with_bases t c bs)) ds) ls all; none = λ xs o. least_order-none x ds ls xs e o }))
        go ls all (Some line) e = ap is_some (lin-by (with_bases t c bs) x ds ls line of all e)

    -- and none of the new bases derives from the class, each class has a linearisation
    module _ (ok : AreSound t) (here : is_class t c ≡ true) (there : (b : ℕ) → Includes bs b → is_class t b ≡ true) (apart : (b : ℕ) → Includes bs b → is_sub t b c ≡ false) where
      new-base : (b : ℕ) → Includes bs b → (l : List ℕ) × (lin t b ≡ Some l) × (has l c ≡ false)
      new-base b h = let r = some-of (lin t b) (ok.order b (there b h)) in (r.0, r.1, ap (is_along c) (sym r.1) ∙ apart b h)

      pub line-base : (b : ℕ) → Includes bs b → lin (with_bases t c bs) b ≡ lin t b
      line-base b h = let r = new-base b h in line-away b r.0 r.1 r.2 ∙ sym r.1

      step : (n x : ℕ) (line : List ℕ) → linear (bases_of t) (suc n) x ≡ Some line → ((b : ℕ) (l : List ℕ) → linear (bases_of t) n b ≡ Some l → is_some (lin (with_bases t c bs) b) ≡ true) → is_some (lin (with_bases t c bs) x) ≡ true
      step n x line e more = elim (cases_eq x c) [
        | inl i ↦
            let own : is_some (lin (with_bases t c bs) c) ≡ true = unblamed c bs (bases-here here) (λ b h. let r = new-base b h in ap is_some (line-away b r.0 r.1 r.2)) in
            ap (λ z. is_some (lin (with_bases t c bs) z)) i ∙ own
        | inr m ↦
            let made = linear-made (bases_of t) n x line e in
            unblamed x made.direct (bases-away x m ∙ made.of_class) (λ b h. let r = all_some-has (linear (bases_of t) n) made.direct made.lines b made.of_bases h in more b r.0 r.2)
      ]

      lined-deep : (n x : ℕ) (line : List ℕ) → linear (bases_of t) n x ≡ Some line → is_some (lin (with_bases t c bs) x) ≡ true
      lined-deep zero x line e = absurd (linear-zero (bases_of t) x line e)
      lined-deep (suc n) x line e = step n x line e (λ b l h. lined-deep n b l h)

      pub order-rebased : (x : ℕ) → is_class t x ≡ true → is_some (lin (with_bases t c bs) x) ≡ true
      order-rebased x l = let r = some-of (lin t x) (ok.order x l) in lined-deep (length t) x r.0 r.1

      -- the class is not the one without bases, from which each new base derives
      pub not-root : (b : ℕ) → Includes bs b → c ≡ 0 → ⊥
      not-root b h z =
          let r = new-base b h in
          false≢true (sym r.2 ∙ (Decides-has r.0 c).1 (Includes-equal r.0 0 c (sym z) (root-held t ok.root b r.0 r.1)))

-- A class that is noted in each of its bases.
use Rattle.class_table.proofs.Below.{ℕ, zero, suc, true, false, cond, List, [], get_or, set, Option, Some, None, inl, inr, refl, sym, ap, ◌∙◌, arith, slice_get, option_map, eq-eqb, ne_eqb, cases_eq, cases_lt, false_from_ne_true, slice_get-map, get_or_from_slice_get, has, Distinct, is_ascending, Decides-has, StoredClass, class_of, number_at, classes_of, noted}
use Rattle.std.proofs.Common.{◌≡◌, ◌||◌, ◌∷◌, ◌++◌, ◌<◌}
use Rattle.std.proofs.lemmas.List.{append-nil}
use Rattle.class_table.proofs.Found.{number-get, ascends}

pub plain-noted : (bs : List ℕ) (n : ℕ) (kept : List StoredClass) → classes_of (noted bs n kept) ≡ classes_of kept
plain-noted bs n [] = refl
plain-noted bs n (k ∷ kept) = ap (λ t. class_of k ∷ t) (plain-noted bs n kept)

pub noted-none : (n : ℕ) (kept : List StoredClass) → noted [] n kept ≡ kept
noted-none n [] = refl
noted-none n (k ∷ kept) =
    let here : record k { subclasses = k.subclasses ++ [] } ≡ k = ap (λ ys. record k { subclasses = ys }) (append-nil k.subclasses) in
    let rest = noted-none n kept in
    cc (here, rest)

-- a class as it is when another one was noted in it
abbrev pub noting : List ℕ → ℕ → StoredClass → StoredClass
noting bs n k = record k { subclasses = k.subclasses ++ cond (has bs k.number) (n ∷ []) [] }

noting-other : (b : ℕ) (bs : List ℕ) (n : ℕ) (k : StoredClass) → (k.number ≡ b → ⊥) → noting bs n k ≡ noting (b ∷ bs) n k
noting-other b bs n k h =
    ap (λ w. record k { subclasses = k.subclasses ++ cond (w || has bs k.number) (n ∷ []) [] }) (sym (ne_eqb b k.number (λ e. h (sym e))))

noting-here : (b : ℕ) (bs : List ℕ) (n : ℕ) (k : StoredClass) → k.number ≡ b → has bs b ≡ false → noting bs n (record k { subclasses = k.subclasses ++ n ∷ [] }) ≡ noting (b ∷ bs) n k
noting-here b bs n k e h =
    ap (λ w. record k { subclasses = (k.subclasses ++ n ∷ []) ++ cond w (n ∷ []) [] }) (ap (has bs) e ∙ h)
    ∙ ap (λ ys. record k { subclasses = ys }) (append-nil (k.subclasses ++ n ∷ []))
    ∙ ap (λ w. record k { subclasses = k.subclasses ++ cond (w || has bs k.number) (n ∷ []) [] }) (sym (eq-eqb b k.number (sym e)))

noted-away : (b : ℕ) (bs : List ℕ) (n : ℕ) (kept : List StoredClass) → ((i : ℕ) (z : StoredClass) → slice_get kept i ≡ Some z → z.number ≡ b → ⊥) → noted bs n kept ≡ noted (b ∷ bs) n kept
noted-away b bs n [] h = refl
noted-away b bs n (k ∷ kept) h =
    let here = noting-other b bs n k (h 0 k refl) in
    let rest = noted-away b bs n kept (λ i z e. h (suc i) z e) in
    cc (here, rest)

-- one base after the others
pub noted-both : (b : ℕ) (bs : List ℕ) (n : ℕ) (kept : List StoredClass) → has bs b ≡ false → noted bs n (noted (b ∷ []) n kept) ≡ noted (b ∷ bs) n kept
noted-both b bs n [] h = refl
noted-both b bs n (k ∷ kept) h = let here : noting bs n (noting (b ∷ []) n k) ≡ noting (b ∷ bs) n k = elim (cases_eq k.number b) [ inl e ↦ both e | inr m ↦ other m ] in let rest = noted-both b bs n kept h in cc (here, rest)
  where
    both : k.number ≡ b → noting bs n (noting (b ∷ []) n k) ≡ noting (b ∷ bs) n k
    both e =
        ap (λ w. record k { subclasses = (k.subclasses ++ cond (w || false) (n ∷ []) []) ++ cond (has bs k.number) (n ∷ []) [] }) (eq-eqb b k.number (sym e))
        ∙ noting-here b bs n k e h

    other : (k.number ≡ b → ⊥) → noting bs n (noting (b ∷ []) n k) ≡ noting (b ∷ bs) n k
    other m =
        ap (λ w. record k { subclasses = (k.subclasses ++ cond (w || false) (n ∷ []) []) ++ cond (has bs k.number) (n ∷ []) [] }) (ne_eqb b k.number (λ e. m (sym e)))
        ∙ ap (λ ys. record k { subclasses = ys ++ cond (has bs k.number) (n ∷ []) [] }) (append-nil k.subclasses)
        ∙ noting-other b bs n k m

-- one base, by its place
pub noted-step : (b : ℕ) (bs : List ℕ) (n : ℕ) (kept : List StoredClass) (at : ℕ) (k : StoredClass) → slice_get kept at ≡ Some k → k.number ≡ b → has bs b ≡ false → ((i : ℕ) (z : StoredClass) → slice_get kept i ≡ Some z → (i ≡ at → ⊥) → z.number ≡ b → ⊥) → noted bs n (set kept at (record k { subclasses = k.subclasses ++ n ∷ [] })) ≡ noted (b ∷ bs) n kept
noted-step b bs n [] at k e m f h = cc
noted-step b bs n (z ∷ kept) zero k e m f h =
    let s : z ≡ k = cc in
    let here = noting-here b bs n k m f ∙ ap (noting (b ∷ bs) n) (sym s) in
    let rest = noted-away b bs n kept (λ i y q. h (suc i) y q (λ r. omega arith)) in
    cc (here, rest)
noted-step b bs n (z ∷ kept) (suc at) k e m f h =
    let here = noting-other b bs n z (h 0 z refl (λ r. omega arith)) in
    let rest = noted-step b bs n kept at k e m f (λ i y q r. h (suc i) y q (λ x. r (omega arith))) in
    cc (here, rest)

-- what was noted is taken back
pub taken-back : (kept : List StoredClass) (at : ℕ) (y k : StoredClass) → slice_get kept at ≡ Some k → set (set kept at y) at k ≡ kept
taken-back [] at y k e = cc
taken-back (z ∷ kept) zero y k e = let s : z ≡ k = cc in ap (λ x. x ∷ kept) (sym s)
taken-back (z ∷ kept) (suc at) y k e = ap (λ t. z ∷ t) (taken-back kept at y k e)

-- where a class of that number is kept, in classes whose numbers ascend
module _ (b n : ℕ) (kept : List StoredClass) (up : is_ascending (classes_of kept) ≡ true) (at : ℕ) (of : number_at kept at ≡ Some b) where
  apart : (k : StoredClass) → slice_get kept at ≡ Some k → k.number ≡ b → (i : ℕ) (z : StoredClass) → slice_get kept i ≡ Some z → (i ≡ at → ⊥) → z.number ≡ b → ⊥
  apart k e m i z f h q = elim (cases_lt i at) [
    | inl l ↦ let a = ascends kept up i at z k l f e in omega arith
    | inr l ↦ let o : at < i = omega arith in let a = ascends kept up at i k z o e f in omega arith
  ]

  noted-at : (k : StoredClass) → slice_get kept at ≡ Some k → k.number ≡ b → set kept at (record k { subclasses = k.subclasses ++ n ∷ [] }) ≡ noted (b ∷ []) n kept
  noted-at k e m = sym (noted-none n _) ∙ noted-step b [] n kept at k e m refl (apart k e m)

  pub noted-here : (d : StoredClass) → set kept at (record (get_or kept at d) { subclasses = (get_or kept at d).subclasses ++ n ∷ [] }) ≡ noted (b ∷ []) n kept
  noted-here d =
      let r = number-get kept at b of in
      let s : get_or kept at d ≡ r.0 = get_or_from_slice_get kept at r.0 d r.1 in
      ap (λ (k : StoredClass). set kept at (record k { subclasses = k.subclasses ++ n ∷ [] })) s ∙ noted-at r.0 r.1 r.2

-- what the table had at a place
pub was : (bs : List ℕ) (n : ℕ) (kept : List StoredClass) (i : ℕ) (x : StoredClass) → slice_get (noted bs n kept) i ≡ Some x → (old : StoredClass) × (slice_get kept i ≡ Some old) × (noting bs n old ≡ x)
was bs n kept i x e = go (slice_get kept i) refl (sym (slice_get-map (noting bs n) kept i) ∙ e)
  where
    go : (o : Option StoredClass) → slice_get kept i ≡ o → option_map (noting bs n) o ≡ Some x → (old : StoredClass) × (slice_get kept i ≡ Some old) × (noting bs n old ≡ x)
    go None h e = cc
    go (Some k) h e = (k, h, cc)

-- a class that was noted in one base is taken off it
pub forgotten : (b : ℕ) (classes : List StoredClass) → is_ascending (classes_of classes) ≡ true → (at : ℕ) → number_at classes at ≡ Some b → (d : StoredClass) (cur : List StoredClass) → ((m : ℕ) (ys : List ℕ) → (get_or classes at d).subclasses ≡ ys ++ m ∷ [] → cur ≡ set classes at (record (get_or classes at d) { subclasses = ys })) → (n : ℕ) (kept : List StoredClass) → classes ≡ noted (b ∷ []) n kept → cur ≡ kept
forgotten b classes up at of d cur says n kept e =
    let r = number-get classes at b of in
    let is : get_or classes at d ≡ r.0 = get_or_from_slice_get classes at r.0 d r.1 in
    let w = was (b ∷ []) n kept at r.0 (ap (λ ys. slice_get ys at) (sym e) ∙ r.1) in
    let num : w.0.number ≡ b = ap (λ (z : StoredClass). z.number) w.2 ∙ r.2 in
    let kept-up : is_ascending (classes_of kept) ≡ true = ap is_ascending (sym (plain-noted (b ∷ []) n kept)) ∙ ap (λ ys. is_ascending (classes_of ys)) (sym e) ∙ up in
    let kept-at : number_at kept at ≡ Some b = ap (option_map (λ (z : StoredClass). z.number)) w.1 ∙ ap Some num in
    let subs : r.0.subclasses ≡ w.0.subclasses ++ n ∷ [] = ap (λ (z : StoredClass). z.subclasses) (sym w.2) ∙ ap (λ v. w.0.subclasses ++ cond (v || false) (n ∷ []) []) (eq-eqb b w.0.number (sym num)) in
    let new : StoredClass = record (get_or classes at d) { subclasses = w.0.subclasses } in
    let back : new ≡ w.0 = ap (λ (z : StoredClass). record z { subclasses = w.0.subclasses }) (is ∙ sym w.2) in
    says n w.0.subclasses (ap (λ (z : StoredClass). z.subclasses) is ∙ subs)
    ∙ ap (λ ys. set ys at new) (e ∙ sym (noted-at b n kept kept-up at kept-at w.0 w.1 num))
    ∙ ap (set (set kept at (record w.0 { subclasses = w.0.subclasses ++ n ∷ [] })) at) back
    ∙ taken-back kept at (record w.0 { subclasses = w.0.subclasses ++ n ∷ [] }) w.0 w.1

-- in all bases of a list
pub noted-all : (b n : ℕ) (bs : List ℕ) (kept mid new : List StoredClass) → Distinct (b ∷ bs) → mid ≡ noted (b ∷ []) n kept → new ≡ noted bs n mid → new ≡ noted (b ∷ bs) n kept
noted-all b n bs kept mid new d e f =
    f ∙ ap (noted bs n) e ∙ noted-both b bs n kept (false_from_ne_true (has bs b) (λ q. d.0 ((Decides-has bs b).0 q)))

pub plain-mid : (b n : ℕ) (kept mid : List StoredClass) → mid ≡ noted (b ∷ []) n kept → classes_of mid ≡ classes_of kept
plain-mid b n kept mid e = ap classes_of e ∙ plain-noted (b ∷ []) n kept

-- a class that was noted in each of some bases is taken off all but the first of them
pub noted-first : (b n : ℕ) (bs : List ℕ) (kept : List StoredClass) → Distinct (b ∷ bs) → noted (b ∷ bs) n kept ≡ noted bs n (noted (b ∷ []) n kept)
noted-first b n bs kept d = sym (noted-both b bs n kept (false_from_ne_true (has bs b) (λ q. d.0 ((Decides-has bs b).0 q))))

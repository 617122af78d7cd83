-- What a class gets that is made with some bases, whatever their number: its linearisation, its best base and its solid class.
use Rattle.class_model.proofs.Below.{ℕ, zero, suc, true, not, cond, List, [], map, length, Option, Some, None, inl, inr, refl, sym, ap, subst, ◌∙◌, arith, nat_lt, option_map, option_and_then, linear, least_order, all_some, Includes, Distinct, Subsequence, Class, Classes, is_class, bases_of, lin, limit, with_class, built_ins, is_empty, first_best, solid_within, solid, best_of, base, AreSound}
use Rattle.std.proofs.Common.{◌≡◌, ◌<◌, ◌≤◌, ◌||◌, ◌∷◌}
use Rattle.class_model.proofs.Arranged.{least_order-order}
use Rattle.class_model.proofs.Held.{Includes-equal, Subsequence-holds, Subsequence-itself, from_flat_map}
use Rattle.class_model.proofs.Linear.{linear-made, linear-zero, all_some-holds}
use Rattle.class_model.proofs.Agreed.{bind-agrees}
use Rattle.class_model.proofs.Rule.{lin-from, lin-classes, lin-below, lin-least}
use Rattle.class_model.proofs.Changed.{bases_of-before, bases_of-last, lin-by}
use Rattle.class_model.proofs.Solid.{first_best-agrees, first_best-held, solid-held, is_solid-push, is_solid-last}
use Rattle.class_model.proofs.Made.{lined, lin-made, solid-old, deep, base-last, solid-last}

pub all_some-some : {A : Type 0} (xs : List A) → all_some (map Some xs) ≡ Some xs
all_some-some [] = refl
all_some-some (x ∷ xs) = ap (option_map (λ ys. x ∷ ys)) (all_some-some xs)

lines-same : (f g : ℕ → Option (List ℕ)) (bs : List ℕ) → ((b : ℕ) → Includes bs b → f b ≡ g b) → map f bs ≡ map g bs
lines-same f g [] h = refl
lines-same f g (b ∷ bs) h =
    let a = h b (inl refl) in
    let r = lines-same f g bs (λ x k. h x (inr k)) in
    cc (a, r)

pub subsequence-distinct : (bs xs : List ℕ) → Subsequence bs xs → Distinct xs → Distinct bs
subsequence-distinct [] xs s d = tt
subsequence-distinct (b ∷ bs) [] s d = absurd s
subsequence-distinct (b ∷ bs) (x ∷ xs) (inl p) d =
    (λ h. d.0 (Includes-equal xs b x p.0 (Subsequence-holds bs xs b p.1 h)), subsequence-distinct bs xs p.1 d.1)
subsequence-distinct (b ∷ bs) (x ∷ xs) (inr s) d = subsequence-distinct (b ∷ bs) xs s d.1

subsequence-trans : (l m xs : List ℕ) → Subsequence l m → Subsequence m xs → Subsequence l xs
subsequence-trans [] m xs s r = tt
subsequence-trans (x ∷ l) [] xs s r = absurd s
subsequence-trans (x ∷ l) (y ∷ m) [] s r = absurd r
subsequence-trans (x ∷ l) (y ∷ m) (z ∷ xs) (inl p) (inl q) = inl (p.0 ∙ q.0, subsequence-trans l m xs p.1 q.1)
subsequence-trans (x ∷ l) (y ∷ m) (z ∷ xs) (inr s) (inl q) = inr (subsequence-trans (x ∷ l) m xs s q.1)
subsequence-trans (x ∷ l) (y ∷ m) (z ∷ xs) s (inr r) = inr (subsequence-trans (x ∷ l) (y ∷ m) xs s r)

module _ {K : Type 0} where
  -- a class with a linearisation has no base twice
  pub bases-distinct : (t : Classes K) (c : ℕ) (line bs : List ℕ) → lin t c ≡ Some line → bases_of t c ≡ Some bs → Distinct bs
  bases-distinct t c line bs e h =
      let l = lin-least t c line e in
      let s : l.bases ≡ bs = let q = l.of_class in cc in
      subst Distinct s (subsequence-distinct l.bases line l.least.order.keeps_bases l.least.order.distinct)

  pub keeps-bases : (t : Classes K) (c : ℕ) (line bs : List ℕ) → lin t c ≡ Some line → bases_of t c ≡ Some bs → Subsequence bs line
  keeps-bases t c line bs e h =
      let l = lin-least t c line e in
      let s : l.bases ≡ bs = let q = l.of_class in cc in
      let P : List ℕ → Type 0 = λ ds. Subsequence ds line in
      subst P s l.least.order.keeps_bases

  -- the linearisation of each class along it is kept
  keeps-deep : (t : Classes K) (n c : ℕ) (line : List ℕ) (x : ℕ) (l : List ℕ) → linear (bases_of t) n c ≡ Some line → Includes line x → lin t x ≡ Some l → Subsequence l line
  keeps-deep t zero c line x l e h f = absurd (linear-zero (bases_of t) c line e)
  keeps-deep t (suc n) c line x l e h f =
      let made = linear-made (bases_of t) n c line e in
      let o = least_order-order c made.direct made.lines line made.is in
      let whole = lin-from t (suc n) c line e in
      elim (o.members_only x h) [
        | inl q ↦ let s : line ≡ l = let p = ap (lin t) q in cc in let P : List ℕ → Type 0 = λ m. Subsequence m line in subst P s (Subsequence-itself line)
        | inr q ↦
            let r = from_flat_map (λ l. l) made.lines x q in
            let b = all_some-holds (linear (bases_of t) n) made.direct made.lines r.0 made.of_bases r.1 in
            subsequence-trans l r.0 line (keeps-deep t n b.0 r.0 x l b.2 r.2 f) (o.keeps r.0 r.1)
      ]

  pub keeps-members : (t : Classes K) (c : ℕ) (line : List ℕ) (x : ℕ) (l : List ℕ) → lin t c ≡ Some line → Includes line x → lin t x ≡ Some l → Subsequence l line
  keeps-members t c line x l e h f = keeps-deep t (length t) c line x l e h f

  -- the lines of classes hold classes alone
  pub lines-below : (t : Classes K) (bs : List ℕ) (lines : List (List ℕ)) (l : List ℕ) (x : ℕ) → all_some (map (lin t) bs) ≡ Some lines → Includes lines l → Includes l x → x < limit t
  lines-below t bs lines l x e h k = let r = all_some-holds (lin t) bs lines l e h in lin-below t r.0 l x r.2 k

module _ {K : Type 0} (t : Classes K) (k : Class K) (ok : AreSound t) (fresh : limit t ≤ k.number) (bases : (b : ℕ) → Includes k.bases b → is_class t b ≡ true) where
  -- the least order over the linearisations of the bases
  pub lin-value : (line : List ℕ) → option_and_then (least_order k.number k.bases) (all_some (map (lin t) k.bases)) ≡ Some line → lin (with_class t k) k.number ≡ Some line
  lin-value line e = go (all_some (map (lin t) k.bases)) refl e
    where
      go : (o : Option (List (List ℕ))) → all_some (map (lin t) k.bases) ≡ o → option_and_then (least_order k.number k.bases) o ≡ Some line → lin (with_class t k) k.number ≡ Some line
      go None h e = cc
      go (Some lines) h e =
          lin-by (with_class t k) k.number k.bases lines line (bases_of-last t k fresh k.bases refl) (ap all_some (lines-same (lin (with_class t k)) (lin t) k.bases (λ b p. lin-made t k ok b (bases b p))) ∙ h) e

  agrees : (g : ℕ → Option ℕ) → ((b : ℕ) → is_class t b ≡ true → solid t b ≡ g b) → best_of t k.bases ≡ first_best (with_class t k) g k.bases k.bases
  agrees g same =
      first_best-agrees t (with_class t k) (λ x. is_class t x ≡ true) (λ x bs b p e h. ok.there x b bs e h) (λ x p. sym (bases_of-before t k x p)) (λ x p. sym (lin-made t k ok x p)) (λ x p. sym (is_solid-push t k x p)) (solid t) g k.bases k.bases (λ b h. same b (bases b h)) (λ b d h e. let r = lined t k ok b (bases b h) in lin-classes t b r.0 d r.1 (solid-held t b r.0 d r.1 e)) (λ b h. h)

  pub best-value : base (with_class t k) k.number ≡ best_of t k.bases
  best-value = base-last t k ok fresh bases ∙ sym (agrees (solid (with_class t k)) (λ b l. sym (solid-old t k ok b l)))

  -- itself where it is solid, and else that of its best base
  pub solid-value : solid (with_class t k) k.number ≡ cond (nat_lt k.number built_ins || not (is_empty k.members)) (Some k.number) (option_and_then (solid t) (best_of t k.bases))
  solid-value =
      let f = solid_within (with_class t k) (length t) in
      let same : (b : ℕ) → is_class t b ≡ true → solid t b ≡ f b = λ b l. sym (deep t k ok (length t) b (omega arith) l) in
      let above : option_and_then f (first_best (with_class t k) f k.bases k.bases) ≡ option_and_then (solid t) (best_of t k.bases) =
      bind-agrees f (solid t) (first_best (with_class t k) f k.bases k.bases) (best_of t k.bases) (sym (agrees f same)) (λ b e. sym (same b (bases b (first_best-held (with_class t k) f k.bases k.bases b e)))) in
      solid-last t k ok fresh bases
      ∙ ap (λ w. cond w (Some k.number) (option_and_then f (first_best (with_class t k) f k.bases k.bases))) (is_solid-last t k fresh)
      ∙ ap (cond (nat_lt k.number built_ins || not (is_empty k.members)) (Some k.number)) above

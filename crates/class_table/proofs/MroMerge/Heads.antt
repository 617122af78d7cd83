-- The heads of lists, each once, as they are collected.
use Rattle.class_table.proofs.Below.{ℕ, zero, suc, true, false, cond, not, List, [], length, get_or, take, drop, inl, inr, refl, sym, ap, ◌∙◌, append_assoc, arith, Vec, map-append, drop_more, take_rest, PyTypeRef, eq-eqb, ne_eqb, cases_eq, has, without, unique, Includes, stands_past, breaks_precedence, Includes-left, Includes-right, Includes-sides, Decides-has, rows, heads, AreLines, past}
use Rattle.std.proofs.Common.{◌≡◌, ◌<◌, ◌||◌, ◌∷◌, ◌++◌, ◌+◌, ◌-◌}
use Rattle.class_table.specs.MroMerge.Lists.{numbers}
use Rattle.class_table.proofs.MroMerge.Struck.{same_tests}

pub past-nil : (u : List ℕ) → past [] u ≡ u
past-nil [] = refl
past-nil (y ∷ u) = ap (λ w. y ∷ w) (past-nil u)

-- what was seen is left out anyhow
past-seen : (seen : List ℕ) (x : ℕ) (u : List ℕ) → has seen x ≡ true → past seen (without x u) ≡ past seen u
past-seen seen x [] e = refl
past-seen seen x (y ∷ u) e = elim (cases_eq y x) [
  | inl i ↦
      ap (λ b. past seen (cond (not b) (y ∷ without x u) (without x u))) (eq-eqb y x i)
      ∙ past-seen seen x u e
      ∙ sym (ap (λ b. cond (not b) (y ∷ past seen u) (past seen u)) (ap (has seen) i ∙ e))
  | inr n ↦
      ap (λ b. past seen (cond (not b) (y ∷ without x u) (without x u))) (ne_eqb y x n)
      ∙ ap (λ r. cond (not (has seen y)) (y ∷ r) r) (past-seen seen x u e)
]

has-itself : (seen : List ℕ) (x y : ℕ) → y ≡ x → has (seen ++ x ∷ []) y ≡ true
has-itself seen x y i = (Decides-has (seen ++ x ∷ []) y).1 (Includes-right seen (x ∷ []) y (inl (sym i)))

has-other : (seen : List ℕ) (x y : ℕ) → (y ≡ x → ⊥) → has (seen ++ x ∷ []) y ≡ has seen y
has-other seen x y n =
    same_tests _ _ (λ e. (Decides-has seen y).1 (back ((Decides-has (seen ++ x ∷ []) y).0 e))) (λ e. (Decides-has (seen ++ x ∷ []) y).1 (Includes-left seen (x ∷ []) y ((Decides-has seen y).0 e)))
  where
    back : Includes (seen ++ x ∷ []) y → Includes seen y
    back h = elim (Includes-sides seen (x ∷ []) y h) [ inl a ↦ a | inr b ↦ elim b [ inl e ↦ absurd (n (sym e)) | inr f ↦ absurd f ] ]

past-more : (seen : List ℕ) (x : ℕ) (u : List ℕ) → past (seen ++ x ∷ []) u ≡ past seen (without x u)
past-more seen x [] = refl
past-more seen x (y ∷ u) = elim (cases_eq y x) [
  | inl i ↦
      ap (λ b. cond (not b) (y ∷ past (seen ++ x ∷ []) u) (past (seen ++ x ∷ []) u)) (has-itself seen x y i)
      ∙ past-more seen x u
      ∙ sym (ap (λ b. past seen (cond (not b) (y ∷ without x u) (without x u))) (eq-eqb y x i))
  | inr n ↦
      ap (λ b. cond (not b) (y ∷ past (seen ++ x ∷ []) u) (past (seen ++ x ∷ []) u)) (has-other seen x y n)
      ∙ ap (λ r. cond (not (has seen y)) (y ∷ r) r) (past-more seen x u)
      ∙ sym (ap (λ b. past seen (cond (not b) (y ∷ without x u) (without x u))) (ne_eqb y x n))
]

heads-kept : (seen : List ℕ) (x : ℕ) (u : List ℕ) → has seen x ≡ true → seen ++ past seen u ≡ seen ++ past seen (x ∷ without x u)
heads-kept seen x u e =
    ap (λ w. seen ++ w) (sym (ap (λ b. cond (not b) (x ∷ past seen (without x u)) (past seen (without x u))) e ∙ past-seen seen x u e))

heads-more : (seen : List ℕ) (x : ℕ) (u : List ℕ) → has seen x ≡ false → (seen ++ x ∷ []) ++ past (seen ++ x ∷ []) u ≡ seen ++ past seen (x ∷ without x u)
heads-more seen x u e =
    append_assoc seen (x ∷ []) (past (seen ++ x ∷ []) u)
    ∙ ap (λ w. seen ++ w) (ap (λ w. x ∷ w) (past-more seen x u) ∙ sym (ap (λ b. cond (not b) (x ∷ past seen (without x u)) (past seen (without x u))) e))

-- the heads of the lists that are left, after those that were collected
abbrev pub collected : List PyTypeRef → List (Vec PyTypeRef) → List ℕ
collected found lists = numbers found ++ past (numbers found) (unique (heads (rows lists)))

-- a list that is not empty has a line at its place
pub filled-at : (lists : List (Vec PyTypeRef)) (i : ℕ) (v : Vec PyTypeRef) → AreLines (rows lists) → i < length lists → v ≡ get_or lists i v → 0 < length v.items
filled-at [] i v h l e = absurd (omega arith)
filled-at (w ∷ lists) zero v h l e = go w.items h (ap (λ (u : Vec PyTypeRef). u.items) (sym e))
  where
    go : (ms : List PyTypeRef) → AreLines (numbers ms ∷ rows lists) → ms ≡ v.items → 0 < length v.items
    go [] h s = absurd h
    go (m ∷ ms) h s = let n = ap length s in omega (arith, n)
filled-at (w ∷ lists) (suc i) v h l e = go w.items h (λ k. filled-at lists i v k (omega arith) e)
  where
    go : (ms : List PyTypeRef) → AreLines (numbers ms ∷ rows lists) → (AreLines (rows lists) → 0 < length v.items) → 0 < length v.items
    go [] h more = absurd h
    go (m ∷ ms) h more = more h.1

cons-of : (ms : List PyTypeRef) (x : PyTypeRef) → 0 < length ms → x ≡ get_or ms 0 x → (rest : List PyTypeRef) × (ms ≡ x ∷ rest)
cons-of [] x l e = absurd (omega arith)
cons-of (m ∷ ms) x l e = (ms, ap (λ w. w ∷ ms) (sym e))

heads-first : (v : Vec PyTypeRef) (vs : List (Vec PyTypeRef)) (x : PyTypeRef) → 0 < length v.items → x ≡ get_or v.items 0 x → heads (rows (v ∷ vs)) ≡ x.0 ∷ heads (rows vs)
heads-first v vs x l e = let r = cons-of v.items x l e in ap (λ (ms : List PyTypeRef). heads (numbers ms ∷ rows vs)) r.1

collected-kept : (found : List PyTypeRef) (v : Vec PyTypeRef) (vs : List (Vec PyTypeRef)) (x : PyTypeRef) → 0 < length v.items → x ≡ get_or v.items 0 x → has (numbers found) x.0 ≡ true → collected found vs ≡ collected found (v ∷ vs)
collected-kept found v vs x l e h =
    heads-kept (numbers found) x.0 (unique (heads (rows vs))) h
    ∙ sym (ap (λ hs. numbers found ++ past (numbers found) (unique hs)) (heads-first v vs x l e))

collected-more : (found : List PyTypeRef) (v : Vec PyTypeRef) (vs : List (Vec PyTypeRef)) (x : PyTypeRef) → 0 < length v.items → x ≡ get_or v.items 0 x → has (numbers found) x.0 ≡ false → collected (found ++ x ∷ []) vs ≡ collected found (v ∷ vs)
collected-more found v vs x l e h =
    ap (λ ns. ns ++ past ns (unique (heads (rows vs)))) (map-append (λ (k : PyTypeRef). k.0) found (x ∷ []))
    ∙ heads-more (numbers found) x.0 (unique (heads (rows vs))) h
    ∙ sym (ap (λ hs. numbers found ++ past (numbers found) (unique hs)) (heads-first v vs x l e))

breaks-first : (v : Vec PyTypeRef) (vs : List (Vec PyTypeRef)) (x : PyTypeRef) → 0 < length v.items → x ≡ get_or v.items 0 x → breaks_precedence (heads (rows (v ∷ vs))) (rows (v ∷ vs)) ≡ (stands_past x.0 (rows vs) || breaks_precedence (heads (rows vs)) (rows vs))
breaks-first v vs x l e = let r = cons-of v.items x l e in ap (λ (ms : List PyTypeRef). breaks_precedence (heads (numbers ms ∷ rows vs)) (numbers ms ∷ rows vs)) r.1

at-place : (lists : List (Vec PyTypeRef)) (i : ℕ) (v : Vec PyTypeRef) → i < length lists → v ≡ get_or lists i v → drop i lists ≡ v ∷ drop (i + 1) lists
at-place lists i v l e = drop_more lists i v l ∙ ap (λ w. w ∷ drop (i + 1) lists) (sym e)

pub breaks-at : (lists : List (Vec PyTypeRef)) (i : ℕ) (v : Vec PyTypeRef) (x : PyTypeRef) → AreLines (rows lists) → i < length lists → v ≡ get_or lists i v → x ≡ get_or v.items 0 x → breaks_precedence (heads (rows (drop i lists))) (rows (drop i lists)) ≡ (stands_past x.0 (rows (take (length lists - (i + 1)) (drop (i + 1) lists))) || breaks_precedence (heads (rows (drop (i + 1) lists))) (rows (drop (i + 1) lists)))
breaks-at lists i v x h l e f =
    ap (λ (ls : List (Vec PyTypeRef)). breaks_precedence (heads (rows ls)) (rows ls)) (at-place lists i v l e)
    ∙ breaks-first v (drop (i + 1) lists) x (filled-at lists i v h l e) f
    ∙ ap (λ (ls : List (Vec PyTypeRef)). stands_past x.0 (rows ls) || breaks_precedence (heads (rows (drop (i + 1) lists))) (rows (drop (i + 1) lists))) (sym (take_rest lists (i + 1)))

pub kept-at : (found : List PyTypeRef) (lists : List (Vec PyTypeRef)) (i : ℕ) (v : Vec PyTypeRef) (x : PyTypeRef) → AreLines (rows lists) → i < length lists → v ≡ get_or lists i v → x ≡ get_or v.items 0 x → has (numbers found) x.0 ≡ true → collected found (drop (i + 1) lists) ≡ collected found (drop i lists)
kept-at found lists i v x h l e f t = collected-kept found v (drop (i + 1) lists) x (filled-at lists i v h l e) f t ∙ ap (collected found) (sym (at-place lists i v l e))

pub more-at : (found : List PyTypeRef) (lists : List (Vec PyTypeRef)) (i : ℕ) (v : Vec PyTypeRef) (x : PyTypeRef) → AreLines (rows lists) → i < length lists → v ≡ get_or lists i v → x ≡ get_or v.items 0 x → has (numbers found) x.0 ≡ false → collected (found ++ x ∷ []) (drop (i + 1) lists) ≡ collected found (drop i lists)
more-at found lists i v x h l e f t = collected-more found v (drop (i + 1) lists) x (filled-at lists i v h l e) f t ∙ ap (collected found) (sym (at-place lists i v l e))

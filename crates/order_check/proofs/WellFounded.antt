-- What the tests of well-formed classes decide.
use Rattle.order_check.proofs.Below.{ℕ, suc, Bool, true, false, cond, eqb, List, [], length, get_or, Some, Ok, inl, inr, refl, sym, ap, subst, ◌∙◌, arith, option_map, IfOk, and_parts, has, is_within, Includes, Class, class_at, bases_of, Decides-has, Entry, class_of, classes, keys_of, AreKeyed, AreThere, AreApart, IsWellFormed, roots, all_within}
use Rattle.std.proofs.Common.{◌≡◌, ◌<◌, ◌≤◌, ◌&&◌, ◌∷◌, Result, Err}
use Rattle.std.specs.Prelude.{◌↔◌}
use Rattle.order_check.proofs.Places.{key-held, bases-at}

pub not-has : (keys : List ℕ) (c : ℕ) → (Includes keys c → ⊥) → has keys c ≡ false
not-has keys c n = go (has keys c) refl
  where
    go : (b : Bool) → has keys c ≡ b → b ≡ false
    go true e = absurd (n ((Decides-has keys c).0 e))
    go false e = refl

pub is-held : (h : List Entry) (c i : ℕ) → i < length h → get_or (keys_of h) i 0 ≡ c → has (keys_of h) c ≡ true
is-held h c i l e = let P : ℕ → Type 0 = λ w. Includes (keys_of h) w in (Decides-has (keys_of h) c).1 (subst P e (key-held h i l))

-- the bases of a class are among the keys
within-of : (keys : List ℕ) (h : List Entry) (c : ℕ) (bs : List ℕ) → all_within keys h ≡ true → bases_of (classes h) c ≡ Some bs → is_within bs keys ≡ true
within-of keys [] c bs a e = cc
within-of keys (x ∷ h) c bs a e =
    let parts = and_parts (is_within x.bases.items keys) (all_within keys h) a in
    go (eqb x.key c) e parts.0 (within-of keys h c bs parts.1)
  where
    go : (b : Bool) → option_map (λ (k : Class ℕ). k.bases) (cond b (Some (class_of x)) (class_at (classes h) c)) ≡ Some bs → is_within x.bases.items keys ≡ true → (bases_of (classes h) c ≡ Some bs → is_within bs keys ≡ true) → is_within bs keys ≡ true
    go true q w more = let s : x.bases.items ≡ bs = cc in ap (λ l. is_within l keys) (sym s) ∙ w
    go false q w more = more q

within-each : (keys : List ℕ) (h : List Entry) → ((i : ℕ) (e : Entry) → i < length h → e ≡ get_or h i e → is_within e.bases.items keys ≡ true) → all_within keys h ≡ true
within-each keys [] f = refl
within-each keys (x ∷ h) f =
    ap (λ b. b && all_within keys h) (f 0 x (omega arith) refl) ∙ within-each keys h (λ i e l is. f (suc i) e (omega arith) is)

within-words : (xs ys : List ℕ) → is_within xs ys ≡ true → (x : ℕ) → Includes xs x → Includes ys x
within-words [] ys e x h = absurd h
within-words (z ∷ xs) ys e x (inl i) = let P : ℕ → Type 0 = λ w. Includes ys w in subst P i ((Decides-has ys z).0 (and_parts (has ys z) (is_within xs ys) e).0)
within-words (z ∷ xs) ys e x (inr h) = within-words xs ys (and_parts (has ys z) (is_within xs ys) e).1 x h

words-within : (xs ys : List ℕ) → ((x : ℕ) → Includes xs x → Includes ys x) → is_within xs ys ≡ true
words-within [] ys f = refl
words-within (z ∷ xs) ys f = ap (λ b. b && is_within xs ys) ((Decides-has ys z).1 (f z (inl refl))) ∙ words-within xs ys (λ x h. f x (inr h))

pub there-decided : (h : List Entry) → AreKeyed h → (all_within (keys_of h) h ≡ true) ↔ AreThere h
there-decided h d = (
  λ a c b p. within-words p.bases (keys_of h) (within-of (keys_of h) h c p.bases a p.of_class) b p.held,
  λ t. within-each (keys_of h) h (λ i e l is. words-within e.bases.items (keys_of h) (λ b k. t e.key b (record { bases = e.bases.items; of_class = bases-at h i e d l is; held = k }))),
)

-- where all else holds, the classes are well formed exactly where none derives from itself
pub formed-of : {E : Type 0} (h g : List Entry) → g ≡ h → AreKeyed g → AreThere g → roots g ≤ 1 → (r : Result Bool E) → IfOk r (λ a. (a ≡ true) ↔ AreApart g) → IfOk r (λ a. (a ≡ true) ↔ IsWellFormed h)
formed-of h g e keyed there root (Ok a) d =
    let P : List Entry → Type 0 = λ w. IsWellFormed w in
    let Q : List Entry → Type 0 = λ w. AreApart w in
    (λ t. subst P e (record { keyed = keyed; there = there; root = root; apart = d.0 t }), λ w. d.1 (subst Q (sym e) w.apart))
formed-of h g e keyed there root (Err x) d = tt

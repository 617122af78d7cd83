-- A set of texts, as its keys, and the texts from one on.
use Rattle.script_text.proofs.Below.{ℕ, zero, suc, List, [], length, get_or, drop, Bool, true, false, not, Bor, Global, String, string_bytes, Ordering, Less, Equal, Greater, nat_cmp, is_eq, refl, ap, sym, ◌∙◌, arith, rules, drop-cons, is_eq-slice_cmp, bytes_eq-Decides, match_ordering, slice_cmp, list_any, bytes_eq, insert_key, texts_of, all_differ}
use Rattle.std.proofs.Common.{◌≡◌, ◌-◌, ◌<◌, ◌≤◌, ◌∷◌, ◌||◌, ◌&&◌}

abbrev Key : Type 0
Key = Bor (List ℕ)

abbrev by_bytes : Key → Key → Ordering
by_bytes x y = slice_cmp nat_cmp x.now y.now

abbrev pub HasText : List Key → List ℕ → Bool
HasText ks bs = list_any (λ k. bytes_eq bs k.now) ks

has-by_order : (bs : List ℕ) (ks : List Key) → list_any (λ k. is_eq (slice_cmp nat_cmp bs k.now)) ks ≡ HasText ks bs
has-by_order bs [] = refl
has-by_order bs (k ∷ ks) = rw (is_eq-slice_cmp bs k.now, has-by_order bs ks)

or-again : (a c : Bool) → (a || c) ≡ (a || (a || c))
or-again true c = refl
or-again false c = refl

or-swap : (a b c : Bool) → (b || (a || c)) ≡ (a || (b || c))
or-swap true true c = refl
or-swap true false c = refl
or-swap false b c = refl

and-false : (a : Bool) → (a && false) ≡ false
and-false true = refl
and-false false = refl

same-text : (xs ys : List ℕ) → bytes_eq xs ys ≡ true → xs ≡ ys
same-text xs ys h = search (rules, bytes_eq-Decides)

inserted-by : (bs : List ℕ) (k x : Key) (xs : List Key) (o : Ordering) → is_eq o ≡ bytes_eq k.now x.now
    → HasText (insert_key by_bytes xs k) bs ≡ (bytes_eq bs k.now || HasText xs bs)
    → HasText (match_ordering o (k ∷ x ∷ xs) (x ∷ xs) (x ∷ insert_key by_bytes xs k)) bs ≡ (bytes_eq bs k.now || (bytes_eq bs x.now || HasText xs bs))
inserted-by bs k x xs Less e h = refl
inserted-by bs k x xs Equal e h = rw (same-text k.now x.now (sym e)) (or-again (bytes_eq bs x.now) (HasText xs bs))
inserted-by bs k x xs Greater e h = ap (λ b. bytes_eq bs x.now || b) h ∙ or-swap (bytes_eq bs k.now) (bytes_eq bs x.now) (HasText xs bs)

inserted : (bs : List ℕ) (k : Key) (ks : List Key) → HasText (insert_key by_bytes ks k) bs ≡ (bytes_eq bs k.now || HasText ks bs)
inserted bs k [] = refl
inserted bs k (x ∷ xs) = inserted-by bs k x xs (by_bytes k x) (is_eq-slice_cmp k.now x.now) (inserted bs k xs)

differ-drop : (ss : List (String Global)) (i : ℕ) → all_differ (texts_of (drop i ss)) ≡ false → all_differ (texts_of ss) ≡ false
differ-drop [] zero h = h
differ-drop [] (suc i) h = h
differ-drop (s ∷ ss) zero h = h
differ-drop (s ∷ ss) (suc i) h = rw (differ-drop ss i h) (and-false (not (list_any (bytes_eq (string_bytes s)) (texts_of ss))))

one-back : {A : Type 0} (vs : List A) (i : ℕ) (v : A) → 0 < i → i ≤ length vs → v ≡ get_or vs (i - 1) v → drop (i - 1) vs ≡ v ∷ drop i vs
one-back vs i v h k e =
    let up : suc (i - 1) ≡ i = omega arith in
    drop-cons vs (i - 1) v (omega arith) ∙ ap (λ n. get_or vs (i - 1) v ∷ drop n vs) up ∙ ap (λ w. w ∷ drop i vs) (sym e)

-- the keys are the texts from i on
abbrev pub HasFrom : List Key → List (String Global) → ℕ → Type 0
HasFrom ks ss i = (bs : List ℕ) → HasText ks bs ≡ list_any (bytes_eq bs) (texts_of (drop i ss))

pub repeated : (ss : List (String Global)) (i : ℕ) (s : String Global) (ks : List Key) (k : Key) → 0 < i → i ≤ length ss → s ≡ get_or ss (i - 1) s → k.now ≡ string_bytes s → HasFrom ks ss i
    → false ≡ not (list_any (λ y. is_eq (slice_cmp nat_cmp k.now y.now)) ks) → false ≡ all_differ (texts_of ss)
repeated ss i s ks k h within is text has added =
    let there : HasText ks (string_bytes s) ≡ true = rw (← text) (grind (arith, has-by_order k.now ks)) in
    let found : list_any (bytes_eq (string_bytes s)) (texts_of (drop i ss)) ≡ true = sym (has (string_bytes s)) ∙ there in
    let here : all_differ (texts_of (drop (i - 1) ss)) ≡ false = rw (one-back ss i s h within is, found) refl in
    sym (differ-drop ss (i - 1) here)

pub one-more : (ss : List (String Global)) (i : ℕ) (s : String Global) (ks : List Key) (k : Key) → 0 < i → i ≤ length ss → s ≡ get_or ss (i - 1) s → k.now ≡ string_bytes s → HasFrom ks ss i
    → HasFrom (insert_key by_bytes ks k) ss (i - 1)
one-more ss i s ks k h within is text has bs =
    rw (one-back ss i s h within is) (inserted bs k ks ∙ rw (text, has bs) refl)

pub still-differ : (ss : List (String Global)) (i : ℕ) (s : String Global) (ks : List Key) (k : Key) → 0 < i → i ≤ length ss → s ≡ get_or ss (i - 1) s → k.now ≡ string_bytes s → HasFrom ks ss i
    → true ≡ not (list_any (λ y. is_eq (slice_cmp nat_cmp k.now y.now)) ks) → all_differ (texts_of (drop i ss)) ≡ true → all_differ (texts_of (drop (i - 1) ss)) ≡ true
still-differ ss i s ks k h within is text has added before =
    let there : HasText ks (string_bytes s) ≡ false = rw (← text) (grind (arith, has-by_order k.now ks)) in
    let found : list_any (bytes_eq (string_bytes s)) (texts_of (drop i ss)) ≡ false = sym (has (string_bytes s)) ∙ there in
    rw (one-back ss i s h within is, found, before) refl

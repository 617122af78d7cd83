-- What a report's earlier lines tell, and which line is the first wrong one.
use Rattle.order_check.proofs.Below.{ℕ, zero, suc, Bool, true, List, [], length, get_or, take, map, Option, Some, None, inl, inr, refl, sym, ap, subst, ◌∙◌, arith, below_more, option_map, option_and_then, slice_get, least_order, all_some, Includes, bases_of, lin-rule, least_order-merged, merged-empty, Entry, Line, Order, Cycle, Without, classes, keys_of, order_in, IsInOrder, known_in, OnBoth, IsLine, IsRightAt, order_told, orders_told, AreToldTo}
use Rattle.std.proofs.Common.{◌≡◌, ◌+◌, ◌<◌, ◌∷◌}
use Rattle.std.specs.Prelude.{◌↔◌}
use Rattle.order_check.proofs.Places.{key-at, bases-at, known-at}
use Rattle.order_check.proofs.Telling.{none-there}
use Rattle.order_check.proofs.Deciding.{cycle-none, no-order}

entry-at : {A : Type 0} (xs : List A) (i : ℕ) → i < length xs → (x : A) × (slice_get xs i ≡ Some x) × (x ≡ get_or xs i x)
entry-at [] i l = absurd (omega arith)
entry-at (x ∷ xs) zero l = (x, refl, refl)
entry-at (x ∷ xs) (suc i) l = let r = entry-at xs i (omega arith) in (r.0, r.1, r.2)

take-held : (n : ℕ) (xs : List ℕ) (b : ℕ) → Includes (take n xs) b → (j : ℕ) × (j < n) × (get_or xs j 0 ≡ b)
take-held zero xs b h = absurd h
take-held (suc n) [] b h = absurd h
take-held (suc n) (x ∷ xs) b (inl e) = (0, omega arith, e)
take-held (suc n) (x ∷ xs) b (inr h) = let r = take-held n xs b h in let l = r.1 in (suc r.0, omega arith, r.2)

no-members : (xs : List ℕ) → ((b : ℕ) → Includes xs b → ⊥) → xs ≡ []
no-members [] h = refl
no-members (x ∷ xs) h = absurd (h x (inl refl))

-- what is told of the bases of a class is so, where what is told of the classes before it is so
pub told-of : (h : List Entry) (os : List (Option (List ℕ))) (n : ℕ) (e : Entry) → IsInOrder h → slice_get h n ≡ Some e → AreToldTo h os n → (b : ℕ) → Includes e.bases.items b → known_in h os b ≡ order_in h b
unfolding AreToldTo
told-of h os n e order at told b k =
    let r = take-held n (keys_of h) b (order.earlier n e b at k) in
    let P : ℕ → Type 0 = λ c. known_in h os c ≡ order_in h c in
    subst P r.2 (told r.0 r.1)

-- the first class

alone : (c : ℕ) → least_order c [] [] ≡ Some (c ∷ [])
alone c = least_order-merged c [] [] (λ l h k. absurd h) (λ b h. absurd h) ∙ ap (option_map (λ xs. c ∷ xs)) (merged-empty ([] ∷ []) refl)

root-order : (h : List Entry) (e : Entry) → IsInOrder h → 0 < length h → slice_get h 0 ≡ Some e → e ≡ get_or h 0 e → order_in h e.key ≡ Some (e.key ∷ [])
root-order h e order l at is =
    let none : e.bases.items ≡ [] = no-members e.bases.items (λ b k. let r = take-held 0 (keys_of h) b (order.earlier 0 e b at k) in let m = r.1 in omega arith) in
    lin-rule (classes h) e.key
    ∙ ap (option_and_then (λ bs. option_and_then (least_order e.key bs) (all_some (map (order_in h) bs)))) (bases-at h 0 e order.keyed l is ∙ ap Some none)
    ∙ alone e.key

pub root-told : (h : List Entry) (root : List ℕ) (lines : List Line) → IsInOrder h → root ≡ get_or (keys_of h) 0 0 ∷ [] → AreToldTo h (orders_told root lines) 1
unfolding AreToldTo
root-told h root lines order r zero l = go h order refl
  where
    go : (g : List Entry) → IsInOrder g → g ≡ h → known_in h (orders_told root lines) (get_or (keys_of h) 0 0) ≡ order_in h (get_or (keys_of h) 0 0)
    go [] o s = let P : List Entry → Type 0 = λ w. known_in w (orders_told root lines) (get_or (keys_of w) 0 0) ≡ order_in w (get_or (keys_of w) 0 0) in subst P s (sym (none-there [] 0 (λ k. k)))
    go (e ∷ g) o s =
        let within : 0 < length (e ∷ g) = omega arith in
        let one : known_in (e ∷ g) (orders_told root lines) e.key ≡ Some root = known-at (e ∷ g) (orders_told root lines) 0 o.keyed within in
        let two = root-order (e ∷ g) e o within refl refl in
        let key : root ≡ e.key ∷ [] = r ∙ ap (λ w. get_or (keys_of w) 0 0 ∷ []) (sym s) in
        let P : List Entry → Type 0 = λ w. known_in w (orders_told root lines) (get_or (keys_of w) 0 0) ≡ order_in w (get_or (keys_of w) 0 0) in
        subst P s (one ∙ ap Some key ∙ sym two)
root-told h root lines order r (suc k) l = absurd (omega arith)

-- what a right line tells of the order of its class is so
line-told : (h : List Entry) (e : Entry) (x : Line) → bases_of (classes h) e.key ≡ Some e.bases.items → IsLine h e x → order_told x ≡ order_in h e.key
line-told h e (Order line) class i = sym i
line-told h e (Cycle pairs) class i = sym (cycle-none h e pairs.items class i)
line-told h e (Without b) class i = sym (no-order h e (order_in h) (λ b k. refl) class b i)

told-at : (lines : List Line) (n : ℕ) (x : Line) → slice_get lines n ≡ Some x → get_or (map order_told lines) n None ≡ order_told x
told-at [] n x e = cc
told-at (y ∷ lines) zero x e = let s : y ≡ x = cc in ap order_told s
told-at (y ∷ lines) (suc n) x e = told-at lines n x e

pub told-more : (h : List Entry) (root : List ℕ) (lines : List Line) (n : ℕ) → IsInOrder h → n + 1 < length h → AreToldTo h (orders_told root lines) (n + 1) → IsRightAt h lines n → AreToldTo h (orders_told root lines) (n + 1 + 1)
unfolding AreToldTo
told-more h root lines n order l told right = below_more (λ k. known_in h (orders_told root lines) (get_or (keys_of h) k 0) ≡ order_in h (get_or (keys_of h) k 0)) (n + 1) told here
  where
    next : n + 1 ≡ suc n
    next = omega arith

    line-at : (e : Entry) → bases_of (classes h) e.key ≡ Some e.bases.items → (o : Option Line) → slice_get lines n ≡ o → OnBoth (IsLine h) (Some e) o → get_or (map order_told lines) n None ≡ order_in h e.key
    line-at e class None s r = absurd r
    line-at e class (Some x) s r = told-at lines n x s ∙ line-told h e x class r

    here : known_in h (orders_told root lines) (get_or (keys_of h) (n + 1) 0) ≡ order_in h (get_or (keys_of h) (n + 1) 0)
    here =
        let at = entry-at h (n + 1) l in
        let P : Option Entry → Type 0 = λ o. OnBoth (IsLine h) o (slice_get lines n) in
        let entry : slice_get h (suc n) ≡ Some at.0 = ap (slice_get h) (sym next) ∙ at.1 in
        known-at h (orders_told root lines) (n + 1) order.keyed l
        ∙ ap (λ k. get_or (orders_told root lines) k None) next
        ∙ line-at at.0 (bases-at h (n + 1) at.0 order.keyed l at.2) (slice_get lines n) refl (subst P entry right)
        ∙ ap (order_in h) (sym (key-at h (n + 1) at.0 l at.2))

-- a test of a line is one of its place
pub right-at : (h : List Entry) (lines : List Line) (n : ℕ) (e : Entry) (x : Line) (r : Bool) → slice_get h (n + 1) ≡ Some e → slice_get lines n ≡ Some x → (r ≡ true) ↔ IsLine h e x → (r ≡ true) ↔ IsRightAt h lines n
right-at h lines n e x r s t d =
    let next : n + 1 ≡ suc n = omega arith in
    let entry : slice_get h (suc n) ≡ Some e = ap (slice_get h) (sym next) ∙ s in
    let P : Option Entry → Type 0 = λ o. OnBoth (IsLine h) o (slice_get lines n) in
    let Q : Option Line → Type 0 = λ o. OnBoth (IsLine h) (Some e) o in
    (λ y. subst P (sym entry) (subst Q (sym t) (d.0 y)), λ y. d.1 (subst Q t (subst P entry y)))

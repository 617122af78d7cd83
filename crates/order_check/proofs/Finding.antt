-- Orders that are found level by level.
use Rattle.order_check.proofs.Below.{ℕ, true, List, [], length, get_or, set, map, All, Option, Some, None, Ok, sym, ap, subst, ◌∙◌, Result, Err, IfOk, IfSome, MatchResult, is_some, option_to_list, AllZip, Vec, length-set, All-nil, All-cons, All-pop, Entry, Found, keys_of, order_in, orders, AreKeyed, known_in, over, AreKnown, CanFind, IsFound}
use Rattle.std.proofs.Common.{◌≡◌, ◌<◌, ◌∷◌, ◌++◌}
use Rattle.order_check.proofs.Knowing.{order-over, known-right}
use Rattle.order_check.proofs.Places.{key-at, bases-at}
use Rattle.order_check.proofs.Tables.{items_of, orders-set, orders-length}

-- what follows at a place from what is known is right
pub over-right : (h : List Entry) (vs : List (Option (Vec ℕ))) (i : ℕ) (e : Entry) (r : Option (Vec ℕ)) → CanFind h vs i → e ≡ get_or h i e → items_of r ≡ over (known_in h (orders vs)) e.key e.bases.items → IfSome r (λ v. order_in h (get_or (keys_of h) i 0) ≡ Some v.items)
over-right h vs i e None f is k = tt
over-right h vs i e (Some v) f is k =
    ap (order_in h) (key-at h i e f.inside is) ∙ order-over h (orders vs) f.sound e.key e.bases.items v.items (bases-at h i e f.keyed f.inside is) (sym k)

-- an order that is right is kept
set-right : (h : List Entry) (vs : List (Option (Vec ℕ))) (i : ℕ) (o : Option (Vec ℕ)) → AreKeyed h → length vs ≡ length h → i < length h → AreKnown h (orders vs) → IfSome o (λ v. order_in h (get_or (keys_of h) i 0) ≡ Some v.items) → is_some o ≡ true → AreKnown h (orders (set vs i o))
set-right h vs i None d n l known right some = cc
set-right h vs i (Some v) d n l known right some =
    let P : List (Option (List ℕ)) → Type 0 = λ os. AreKnown h os in
    subst P (sym (orders-set vs i v)) (known-right h (orders vs) known i v.items d (orders-length vs (length h) n) l right)

pub keep-one : (h : List Entry) (vs : List (Option (Vec ℕ))) (found left : List Found) (r : Option Found) (one : Found) → AreKeyed h → length vs ≡ length h → AreKnown h (orders vs) → All (IsFound h) found
    → found ≡ left ++ option_to_list r → r ≡ Some one → is_some one.order ≡ true
    → (length (set vs one.place one.order) ≡ length h) × AreKnown h (orders (set vs one.place one.order)) × All (IsFound h) left
keep-one h vs found left r one d n known all is taken some =
    let popped = All-pop (IsFound h) found left r is all in
    let P : Option Found → Type 0 = λ o. IfSome o (IsFound h) in
    let this : IsFound h one = subst P taken popped.1 in
    (length-set vs one.place one.order ∙ n, set-right h vs one.place one.order d n this.0 known this.1 some, popped.0)

-- what is so of each answer is so of what they hold, where none is an error
all-held : {X Y : Type 0} (E : Type 0) (P : Y → Type 0) (xs : List X) (ys : List Y) → AllZip (λ (x : X) (r : Result Y E). IfOk r P) xs (map Ok ys) → All P ys
all-held E P [] [] h = All-nil P
all-held E P [] (y ∷ ys) h = absurd h
all-held E P (x ∷ xs) [] h = absurd h
all-held E P (x ∷ xs) (y ∷ ys) h = All-cons P y ys h.0 (all-held E P xs ys h.1)

pub gathered : {X Y E : Type 0} (P : Y → Type 0) (Q : E → Type 0) (xs : List X) (rs : List (Result Y E)) (r : Result (Vec Y) E) → AllZip (λ (x : X) (a : Result Y E). IfOk a P) xs rs
    → MatchResult r (λ v. (ys : List Y) × (rs ≡ map Ok ys) × (v.items ≡ ys)) Q → IfOk r (λ v. All P v.items)
gathered {X} {Y} {E} P Q xs rs (Ok v) h m =
    let R : List (Result Y E) → Type 0 = λ l. AllZip (λ (x : X) (a : Result Y E). IfOk a P) xs l in
    subst (All P) (sym m.2) (all-held E P xs m.0 (subst R m.1 h))
gathered P Q xs rs (Err e) h m = tt

-- Lists that grow by one, and results.
use Rattle.class_world.proofs.Below.{ℕ, zero, suc, List, [], length, take, map, refl, sym, ap, ◌∙◌, arith, get_or, Result, Ok, Err, IfOk, All, PyStrInterned, Held, IsName, AreNames, Holds}
use Rattle.std.proofs.Common.{◌≡◌, ◌+◌, ◌<◌, ◌∷◌, ◌++◌}

pub all-push : {A : Type 0} (P : A → Type 0) (xs : List A) (x : A) → All P xs → P x → All P (xs ++ x ∷ [])
all-push P [] x h p zero d l = p
all-push P [] x h p (suc i) d l = absurd (omega arith)
all-push P (y ∷ xs) x h p zero d l = h zero d (omega arith)
all-push P (y ∷ xs) x h p (suc i) d l = all-push P xs x (λ i d l. h (suc i) d (omega arith)) p i d (omega arith)

pub names-push : (w : Held) (xs : List PyStrInterned) (x : PyStrInterned) → Holds w (AreNames xs) → Holds w (IsName x) → Holds w (AreNames (xs ++ x ∷ []))
unfolding Holds
names-push w xs x h p = all-push (λ x. x.0 < length w.names) xs x h p

pub no-names : (w : Held) → Holds w (AreNames [])
unfolding Holds
no-names w = λ i d l. absurd (omega arith)

pub map-push : {A B : Type 0} (f : A → B) (xs : List A) (x : A) → map f (xs ++ x ∷ []) ≡ map f xs ++ f x ∷ []
map-push f [] x = refl
map-push f (y ∷ xs) x = ap (λ ys. f y ∷ ys) (map-push f xs x)

pub ok-map : {A E : Type 0} (P Q : A → Type 0) (r : Result A E) → ((a : A) → P a → Q a) → IfOk r P → IfOk r Q
ok-map P Q (Ok a) f h = f a h
ok-map P Q (Err e) f h = h

take-map : {B C : Type 0} (g : B → C) (ys : List B) (i : ℕ) (y : B) → i < length ys → y ≡ get_or ys i y → map g (take (suc i) ys) ≡ map g (take i ys) ++ g y ∷ []
take-map g [] i y l e = absurd (omega arith)
take-map g (z ∷ ys) zero y l e = ap (λ y. g y ∷ []) (sym e)
take-map g (z ∷ ys) (suc i) y l e = ap (λ zs. g z ∷ zs) (take-map g ys i y (omega arith) e)

-- one element more on both sides
pub map-next : {A B C : Type 0} (f : A → C) (g : B → C) (xs : List A) (x : A) (ys : List B) (i : ℕ) (y : B)
    → i < length ys → y ≡ get_or ys i y → map f xs ≡ map g (take i ys) → f x ≡ g y → map f (xs ++ x ∷ []) ≡ map g (take (i + 1) ys)
map-next f g xs x ys i y l at before here =
    let next : suc i ≡ i + 1 = omega arith in
    let both : map f xs ++ f x ∷ [] ≡ map g (take i ys) ++ g y ∷ [] = cc (before, here) in
    map-push f xs x ∙ both ∙ sym (take-map g ys i y l at) ∙ ap (λ n. map g (take n ys)) next

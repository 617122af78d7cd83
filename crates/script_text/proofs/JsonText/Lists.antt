-- Lists that are read item by item.
use Rattle.script_text.proofs.Below.{ℕ, suc, List, [], length, get_or, drop, map, Option, Some, None, option_map, refl, ap, sym, ◌∙◌, append_assoc, add-one, drop-cons, map-append, of_two}
use Rattle.std.proofs.Common.{◌≡◌, ◌+◌, ◌<◌, ◌∷◌, ◌++◌}

-- what is left, with what was found before it
abbrev pub onto : {A : Type 0} → List A → Option (List A) → Option (List A)
onto found left = option_map (λ more. found ++ more) left

-- one more is found
pub onto-found : {A : Type 0} (found : List A) (a : A) (left : Option (List A)) → onto found (of_two ◌∷◌ (Some a) left) ≡ onto (found ++ a ∷ []) left
onto-found found a None = refl
onto-found found a (Some more) = ap Some (sym (append_assoc found (a ∷ []) more))

-- one turn of a loop that reads each item by `one`, where `all` reads a list
pub turn : {V E A : Type 0} (one : V → Option A) (all : List V → Option (List A)) (f : E → A) → ((v : V) (vs : List V) → all (v ∷ vs) ≡ of_two ◌∷◌ (one v) (all vs))
    → (vs : List V) (i : ℕ) (v : V) (found : List E) (e : E) (o : Option (List A)) → i < length vs → v ≡ get_or vs i v → one v ≡ Some (f e)
    → o ≡ onto (map f found) (all (drop i vs)) → o ≡ onto (map f (found ++ e ∷ [])) (all (drop (i + 1) vs))
turn one all f step vs i v found e o h is reads before =
    let rest = drop (i + 1) vs in
    let first : drop i vs ≡ v ∷ rest = rw (add-one, drop-cons vs i v h) (ap (λ w. w ∷ drop (suc i) vs) (sym is)) in
    before ∙ ap (λ ws. onto (map f found) (all ws)) first
    ∙ ap (onto (map f found)) (step v rest ∙ ap (λ a. of_two ◌∷◌ a (all rest)) reads)
    ∙ onto-found (map f found) (f e) (all rest) ∙ ap (λ xs. onto xs (all rest)) (sym (map-append f found (e ∷ [])))

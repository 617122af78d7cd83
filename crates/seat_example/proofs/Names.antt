-- The names that turns leave, and seats that are taken from a list.
use Rattle.seat_example.proofs.Below.{ℕ, false, List, [], length, Option, Some, None, inl, inr, refl, sym, ap, ◌∙◌, subst, slice_get, option_to_list, IfSome, All, append-nil, filter_map-append, All-pop, Turn, MOST_TURNS, TableId, Known, IsSameSeat, MaySign, names_in, newest}
use Rattle.std.proofs.Common.{◌≡◌, ◌⊎◌, ◌+◌, ◌≤◌, ◌∷◌, ◌++◌}

at_end : (xs : List ℕ) (y : ℕ) → slice_get (xs ++ y ∷ []) (length xs) ≡ Some y
at_end [] y = refl
at_end (x ∷ xs) y = at_end xs y

past_end : (xs : List ℕ) → slice_get xs (length xs) ≡ None
past_end [] = refl
past_end (x ∷ xs) = past_end xs

abbrev leaves : ℕ → Option ℕ → Turn ℕ
leaves by name = record { by = by; entry = name; lost = false }

-- a sheet with one name more, or with none, has the names of one turn more
pub one_more : (seen : List (Turn ℕ)) (by name : ℕ) (old new : List ℕ) → old ≡ names_in seen → (new ≡ old) ⊎ (new ≡ old ++ name ∷ []) → new ≡ names_in (seen ++ newest by seen new ∷ [])
one_more seen by name old new was is = elim is [ inl same ↦ none same | inr more ↦ some more ]
  where
    none : new ≡ old → new ≡ names_in (seen ++ newest by seen new ∷ [])
    none same =
        let all : new ≡ names_in seen = same ∙ was in
        let left : slice_get new (length (names_in seen)) ≡ None = ap (λ (xs : List ℕ). slice_get xs (length (names_in seen))) all ∙ past_end (names_in seen) in
        all ∙ (sym (filter_map-append (λ (t : Turn ℕ). t.entry) seen (leaves by None ∷ []) ∙ append-nil (names_in seen)) ∙ ap (λ (o : Option ℕ). names_in (seen ++ leaves by o ∷ [])) (sym left))

    some : new ≡ old ++ name ∷ [] → new ≡ names_in (seen ++ newest by seen new ∷ [])
    some more =
        let all : new ≡ names_in seen ++ name ∷ [] = more ∙ ap (λ (xs : List ℕ). xs ++ name ∷ []) was in
        let left : slice_get new (length (names_in seen)) ≡ Some name = ap (λ (xs : List ℕ). slice_get xs (length (names_in seen))) all ∙ at_end (names_in seen) name in
        all ∙ (sym (filter_map-append (λ (t : Turn ℕ). t.entry) seen (leaves by (Some name) ∷ [])) ∙ ap (λ (o : Option ℕ). names_in (seen ++ leaves by o ∷ [])) (sym left))

-- the last of a list was taken
pub popped : {X : Type 0} (P : X → Type 0) (items rest : List X) (r : Option X) (x : X) → items ≡ rest ++ option_to_list r → r ≡ Some x → All P items → All P rest × P x
popped P items rest r x is some all = let both = All-pop P items rest r is all in (both.0, subst (λ o. IfSome o P) some both.1)

-- a free seat may sign as often after it met another
pub may_still : (id : TableId) (rounds : ℕ) (old new : Known ℕ) → MaySign id rounds old → IsSameSeat old new → new.in_turn ≡ false → MaySign id rounds new
may_still id rounds old new may same free = ((same.0 ∙ may.0.0, free), subst (λ (made : List (Turn ℕ)). length made + rounds ≤ MOST_TURNS) (sym same.2) may.1)

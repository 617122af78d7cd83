-- What the words say of a signature is what the definition finds.
use Rattle.row_kit.proofs.Below.{ℕ, zero, suc, inl, inr, Bool, true, false, cond, eqb, [], length, take, drop, Option, Some, None, refl, sym, ap, ◌∙◌, arith, slice_index_or, option_map, IfSome, IfNone, starts_with, Decides-eqb, eqb_tells, append_assoc, starts_is, drop-append_seam, Text, last_part, StandsAt, opening, ending, up_to_ending, signature_after, signature_of, IsSignature, HasNoSignature}
use Rattle.std.proofs.Common.{◌≡◌, ◌+◌, ◌<◌, ◌≤◌, ◌∷◌, ◌++◌}

-- whether a text begins with another
tests : (x y : Text) → (starts_with eqb x y ≡ true → x ≡ y ++ drop (length y) x) × ((rest : Text) → x ≡ y ++ rest → starts_with eqb x y ≡ true)
tests x y = starts_is Decides-eqb x y (starts_with eqb x y) refl

begins-not : (x y : Text) → (StandsAt y x 0 → ⊥) → starts_with eqb x y ≡ false
begins-not x y none = go (starts_with eqb x y) (tests x y).0
  where
    go : (b : Bool) → (b ≡ true → x ≡ y ++ drop (length y) x) → b ≡ false
    go false f = refl
    go true f = absurd (none (drop (length y) x, f refl))

-- the first ending
up-to-first : (x : Text) (k : ℕ) → StandsAt ending x k → ((i : ℕ) → i < k → StandsAt ending x i → ⊥) → up_to_ending x ≡ Some (take (suc k) x)
up-to-first [] zero s none = absurd (grind (arith, s.1))
up-to-first [] (suc k) s none = absurd (grind (arith, s.1))
up-to-first (c ∷ x) zero s none =
    let here : starts_with eqb (c ∷ x) ending ≡ true = (tests (c ∷ x) ending).1 s.0 s.1 in
    rw here refl
up-to-first (c ∷ x) (suc k) s none =
    let here : starts_with eqb (c ∷ x) ending ≡ false = begins-not (c ∷ x) ending (none 0 (omega arith)) in
    rw here (ap (option_map (λ y. c ∷ y)) (up-to-first x k s (λ i l. none (suc i) (omega (arith, l)))))

up-to-none : (x : Text) → ((i : ℕ) → i ≤ length x → StandsAt ending x i → ⊥) → up_to_ending x ≡ None
up-to-none [] none = refl
up-to-none (c ∷ x) none =
    let here : starts_with eqb (c ∷ x) ending ≡ false = begins-not (c ∷ x) ending (none 0 (omega arith)) in
    rw here (ap (option_map (λ y. c ∷ y)) (up-to-none x (λ i l. none (suc i) (omega (arith, l)))))

after-found : (name text answer : Text) → IsSignature name text answer → signature_after name text ≡ Some answer
after-found name text answer s =
    let open_text : text ≡ (name ++ opening) ++ s.opens.0 = s.begins ∙ ap (λ r. name ++ r) s.opens.1 ∙ sym (append_assoc name opening s.opens.0) in
    let here : starts_with eqb text (name ++ opening) ≡ true = (tests text (name ++ opening)).1 s.opens.0 open_text in
    let rest : drop (length name) text ≡ s.rest = ap (drop (length name)) s.begins ∙ drop-append_seam name s.rest in
    let next : s.close + 1 ≡ suc s.close = omega arith in
    let taken : answer ≡ take (suc s.close) s.rest = s.text_of ∙ ap (λ n. take n s.rest) next in
    rw here (ap up_to_ending rest ∙ up-to-first s.rest s.close s.ends s.first ∙ ap (λ x. Some x) (sym taken))

after-none : (name text : Text) → HasNoSignature name text → signature_after name text ≡ None
after-none name text none = go (starts_with eqb text (name ++ opening)) (tests text (name ++ opening)).0
  where
    go : (b : Bool) → (b ≡ true → text ≡ (name ++ opening) ++ drop (length (name ++ opening)) text) → cond b (up_to_ending (drop (length name) text)) None ≡ None
    go false f = refl
    go true f =
        let rest : Text = opening ++ drop (length (name ++ opening)) text in
        let begins : text ≡ name ++ rest = f refl ∙ append_assoc name opening (drop (length (name ++ opening)) text) in
        let dropped : drop (length name) text ≡ rest = ap (drop (length name)) begins ∙ drop-append_seam name rest in
        ap up_to_ending dropped ∙ up-to-none rest (none rest begins (drop (length (name ++ opening)) text, refl))

-- what was found for the last part of a name is the name's signature
pub signature-told : {B : Type 0} (now : B → Text) (r : Option B) (name part text : Text) → part ≡ last_part name → IfSome r (λ x. IsSignature part text (now x)) → IfNone r (HasNoSignature part text) → option_map now r ≡ signature_of name text
signature-told now (Some x) name part text l found none =
    sym (ap (λ p. signature_after p text) (sym l) ∙ after-found part text (now x) found)
signature-told now None name part text l found none =
    sym (ap (λ p. signature_after p text) (sym l) ∙ after-none part text none)

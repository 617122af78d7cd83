-- The signature that a native's text for readers begins with.
use Rattle.row_kit.specs.Below.{ℕ, cond, eqb, [], length, take, drop, codes, Option, Some, None, option_map, starts_with, Text, last_part, IsLastPart}
use Rattle.std.specs.Prelude.{◌≡◌, ◌+◌, ◌<◌, ◌≤◌, ◌∷◌, ◌++◌}

-- a text stands in another one at a place
abbrev pub StandsAt : Text → Text → ℕ → Type 0
StandsAt x text i = (rest : Text) × (drop i text ≡ x ++ rest)

abbrev pub opening : Text
opening = codes "("

-- what ends a signature, beginning with the bracket that closes it
abbrev pub ending : Text
ending = codes ")\n--\n\n"

-- all up to the bracket that begins the first ending, with that bracket; nothing where there is no ending
abbrev pub up_to_ending : Text → Option Text
up_to_ending [] = None
up_to_ending (c ∷ rest) = cond (starts_with eqb (c ∷ rest) ending) (Some (c ∷ [])) (option_map (λ x. c ∷ x) (up_to_ending rest))

-- what follows a name in a text that begins with it and an opening bracket, up to the ending
abbrev pub signature_after : Text → Text → Option Text
signature_after name text = cond (starts_with eqb text (name ++ opening)) (up_to_ending (drop (length name) text)) None

-- the signature of a native of that name with that text for readers
abbrev pub signature_of : Text → Text → Option Text
signature_of name text = signature_after (last_part name) text

-- the same in words: a text begins with a name and then an opening bracket; the answer is all from that bracket to the first closing one with which the end of a signature begins
pub record IsSignature (name doc answer : Text) : Type 0 where
  pub rest : Text
  pub begins : doc ≡ name ++ rest
  pub opens : StandsAt opening rest 0
  pub close : ℕ
  pub ends : StandsAt ending rest close
  pub first : (i : ℕ) → i < close → StandsAt ending rest i → ⊥
  pub text_of : answer ≡ take (close + 1) rest

-- where a text begins so, there is no end of a signature past the name
abbrev pub HasNoSignature : Text → Text → Type 0
HasNoSignature name text =
    (rest : Text) → text ≡ name ++ rest → StandsAt opening rest 0 → (i : ℕ) → i ≤ length rest → StandsAt ending rest i → ⊥

-- the same by a name with dots, of which the last part counts
pub record IsSignatureOf (name text answer : Text) : Type 0 where
  pub part : Text
  pub last : IsLastPart name part
  pub is : IsSignature part text answer

pub record HasNoSignatureOf (name text : Text) : Type 0 where
  pub part : Text
  pub last : IsLastPart name part
  pub none : HasNoSignature part text

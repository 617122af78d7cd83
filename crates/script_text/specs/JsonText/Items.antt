-- How long a list is not.
use Rattle.script_text.specs.Below.{List, []}
use Rattle.std.specs.Prelude.{◌≡◌, ◌⊎◌, ◌∷◌}

-- it has another length than one
abbrev pub IsNotOne : {A : Type 0} → List A → Type 0
IsNotOne {A} vs = (vs ≡ []) ⊎ ((a : A) × (b : A) × (rest : List A) × (vs ≡ a ∷ b ∷ rest))

-- it is shorter than two
abbrev pub IsUnderTwo : {A : Type 0} → List A → Type 0
IsUnderTwo {A} vs = (vs ≡ []) ⊎ ((a : A) × (vs ≡ a ∷ []))

-- it has another length than two
abbrev pub IsNotTwo : {A : Type 0} → List A → Type 0
IsNotTwo {A} vs = IsUnderTwo vs ⊎ ((a : A) × (b : A) × (c : A) × (rest : List A) × (vs ≡ a ∷ b ∷ c ∷ rest))

-- it is shorter than three
abbrev pub IsUnderThree : {A : Type 0} → List A → Type 0
IsUnderThree {A} vs = IsUnderTwo vs ⊎ ((a : A) × (b : A) × (vs ≡ a ∷ b ∷ []))

-- it has another length than three
abbrev pub IsNotThree : {A : Type 0} → List A → Type 0
IsNotThree {A} vs = IsUnderThree vs ⊎ ((a : A) × (b : A) × (c : A) × (d : A) × (rest : List A) × (vs ≡ a ∷ b ∷ c ∷ d ∷ rest))

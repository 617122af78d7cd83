-- What a function gives for each class along a line.
use Rattle.class_table.specs.Below.{ℕ, List, Option, Some, None, AllZip, PyTypeRef}

-- there is a line, and for each class of it, in order, one of the results that the function may have there
abbrev pub AreGiven : {T : Type 0} → (PyTypeRef → T → Type 0) → Option (List ℕ) → List T → Type 0
AreGiven gives None xs = ⊥
AreGiven gives (Some line) xs = AllZip (λ c x. gives (record { 0 = c }) x) line xs

-- Words of another number ask for nothing.
use Rattle.outside.proofs.Below.{List, [], length, refl, Text, job_in}
use Rattle.std.proofs.Common.{◌≡◌, ◌∷◌, None}

pub no_job : (words : List Text) → ¬ (length words ≡ 1) → ¬ (length words ≡ 2) → ¬ (length words ≡ 3) → None ≡ job_in words
no_job [] one two three = refl
no_job (a ∷ []) one two three = absurd (one refl)
no_job (a ∷ b ∷ []) one two three = absurd (two refl)
no_job (a ∷ b ∷ c ∷ []) one two three = absurd (three refl)
no_job (a ∷ b ∷ c ∷ d ∷ words) one two three = refl

-- What is shown inside a container, and where it is not.
use Rattle.world_text.specs.Below.{ℕ, zero, suc, List, map, Option, Some, None, option_map, String, string_bytes, Vec, Global, Text, dots}

-- texts, by their bytes
abbrev pub texts_of : Option (Vec (String Global)) → Option (List Text)
texts_of o = option_map (λ xs. map string_bytes xs.items) o

-- what is one less deep, if anything is
abbrev pub inside : {A : Type 0} → ℕ → (ℕ → A) → Option A
inside zero f = None
inside (suc n) f = Some (f n)

-- the text of a container, or dots where its items are not shown
abbrev pub or_dots : (List Text → Text) → Option (List Text) → Text
or_dots text None = dots
or_dots text (Some xs) = text xs

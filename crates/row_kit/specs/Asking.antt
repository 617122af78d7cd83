-- How natives are written that ask tasks: what they take is tested before the first, and not again.
use Rattle.row_kit.specs.Below.{ℕ, List, [], slice_index_or, PyObjectRef, Ended, Answered, ReadObjects, Said, Row, none}
use Rattle.std.specs.Prelude.{◌∷◌}

-- ends as this does, whatever was learnt
abbrev pub as_said : Said → Row
as_said said told = said

abbrev pub argument : List PyObjectRef → ℕ → PyObjectRef
argument args i = slice_index_or args i none

-- does this where nothing is learnt yet, and goes on so where something is
abbrev pub tested_first : Said → Row → Row
tested_first said go [] = said
tested_first said go (f ∷ more) = go (f ∷ more)

-- does this, having read objects, and goes on with them and with the answer to what it asked
abbrev pub with_read : Said → (List PyObjectRef → Ended → Row) → Row
with_read said go (ReadObjects rs ∷ (Answered r ∷ more)) = go rs r more
with_read said go _ = said

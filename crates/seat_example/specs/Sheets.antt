-- What a sheet says of the turns that were taken at it.
use Rattle.seat_example.specs.Below.{ℕ, false, List, length, slice_get, filter_map, Turn}
use Rattle.std.specs.Prelude.{◌≡◌}
use Rattle.seat_example.specs.declared.sheet.Sheet.{Sheet}

abbrev pub names_in : List (Turn ℕ) → List ℕ
names_in log = filter_map (λ t. t.entry) log

-- it has the names that the turns left
abbrev pub Stands : Sheet → List (Turn ℕ) → Type 0
Stands sheet log = sheet.names.items ≡ names_in log

-- a turn that left the name which the sheet has more than was seen, if it has one
abbrev pub newest : ℕ → List (Turn ℕ) → List ℕ → Turn ℕ
newest by seen names = record { by = by; entry = slice_get names (length (names_in seen)); lost = false }

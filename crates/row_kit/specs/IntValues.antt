-- Whole numbers as ints, their hashes, and the truth value that an object is.
use Rattle.row_kit.specs.Below.{ℤ, pos, negsuc, unsigned_abs, Bool, false, eqb, ℕ, true, cond, Option, Some, None, Ok, w64, int_rem_euclid, cast_signed, PyObjectRef, fixed_false, fixed_true, PlainWorld, Said, Ends, class_at, the_int, value}
use Rattle.std.specs.Prelude.{◌^◌, ◌==◌, if◌then◌else◌}
use Rattle.row_kit.specs.Say.{int_made}

abbrev pub is_zero : ℤ → Bool
is_zero (pos n) = eqb n 0
is_zero (negsuc n) = false

-- the hash of a number: its lowest 64 bits, with their sign
abbrev pub number_hash : ℤ → ℤ
number_hash z = cast_signed w64 (unsigned_abs (int_rem_euclid z (pos (2 ^ 64))))

abbrev pub is_int : Option ℕ → Bool
is_int (Some c) = eqb c the_int
is_int None = false

-- a number as an int: an int of no other class is itself
abbrev pub as_int : PlainWorld → PyObjectRef → ℤ → Said
as_int w o z = cond (is_int (class_at w o)) (Ends w (value o)) (int_made w (Ok z))

-- the truth value that an object is
abbrev pub truth_of : PyObjectRef → Option Bool
truth_of o = if o.0 == fixed_false then Some false else if o.0 == fixed_true then Some true else None

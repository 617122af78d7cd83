-- What natives reckon with whole numbers.
use Rattle.proto_ops.specs.Below.{ℕ, suc, ℤ, int_lt, pos, negsuc, neg_ℤ, unsigned_abs, cond, Option, Some, None, Result, Ok, nat_lt, min, w128, int_bit_not, int_div_euclid, int_pow, int_rem_euclid, int_shr, Raised as Fault, IntRange, ZeroDivisor, NegativeExponent, NegativeShift, fault, in_range, is_zero}
use Rattle.std.specs.Prelude.{◌+◌, ◌%◌, ◌*ℤ◌, ◌-ℤ◌, ◌^◌}

abbrev pub negated : ℤ → Result ℤ Fault
negated z = in_range (neg_ℤ z)

abbrev pub absolute : ℤ → Result ℤ Fault
absolute z = in_range (pos (unsigned_abs z))

-- each bit turned
abbrev pub inverted : ℤ → ℤ
inverted z = int_bit_not w128 z

abbrev pub difference : ℤ → ℤ → Result ℤ Fault
difference x y = in_range (x -ℤ y)

abbrev pub product : ℤ → ℤ → Result ℤ Fault
product x y = in_range (x *ℤ y)

-- the quotient rounded down: that which leaves nothing below zero, and with both signs turned the same for a divisor below zero
abbrev pub floor_quotient : ℤ → ℤ → ℤ
floor_quotient x (pos n) = int_div_euclid x (pos n)
floor_quotient x (negsuc n) = int_div_euclid (neg_ℤ x) (pos (suc n))

-- what it leaves, which has the sign of the divisor
abbrev pub floor_remainder : ℤ → ℤ → ℤ
floor_remainder x (pos n) = int_rem_euclid x (pos n)
floor_remainder x (negsuc n) = neg_ℤ (int_rem_euclid (neg_ℤ x) (pos (suc n)))

abbrev pub quotient : ℤ → ℤ → Result ℤ Fault
quotient x y = cond (is_zero y) (fault ZeroDivisor) (in_range (floor_quotient x y))

abbrev pub remainder : ℤ → ℤ → Result ℤ Fault
remainder x y = cond (is_zero y) (fault ZeroDivisor) (Ok (floor_remainder x y))

-- an exponent as far as it counts. The 128th power of a number is past the range, but for those of 0, 1 and -1, where the higher ones come again
abbrev pub counted : ℕ → ℕ
counted n = cond (nat_lt n 128) n (128 + n % 2)

abbrev pub power : ℤ → ℤ → Result ℤ Fault
power x y = cond (int_lt y (pos 0)) (fault NegativeExponent) (in_range (int_pow x (counted (unsigned_abs y))))

-- to the right by some places, rounded down. By 127 places only the sign is left, and so it is by more
abbrev pub right_shifted : ℤ → ℤ → Result ℤ Fault
right_shifted x (pos n) = Ok (int_shr x (min n 127))
right_shifted x (negsuc n) = fault NegativeShift

-- places to the left as far as they count. By 128 any number but 0 is past the range, and so it is by more
abbrev pub left_places : ℕ → ℕ
left_places n = cond (nat_lt n 128) n 128

abbrev pub left_shifted : ℤ → ℤ → Result ℤ Fault
left_shifted x y = cond (int_lt y (pos 0)) (fault NegativeShift) (in_range (x *ℤ pos (2 ^ left_places (unsigned_abs y))))

-- the code's steps

abbrev pub in_range_of : Option ℤ → Result ℤ Fault
in_range_of None = fault IntRange
in_range_of (Some z) = Ok z

-- How often something is repeated, where its items can be counted.
use Rattle.proto_ops.specs.Below.{ℕ, zero, suc, ℤ, cond, nat_lt, Result, Ok, Raised as Fault, RepeatTooLong, fault, times}
use Rattle.std.specs.Prelude.{◌^◌, ◌-◌, ◌/◌}

-- no index is above this
abbrev pub most_index : ℕ
most_index = 2 ^ 63 - 1

-- none where it is none; else its items are as many as an index can be
abbrev pub counted : ℕ → ℕ → Result ℕ Fault
counted length zero = Ok 0
counted length (suc n) = cond (nat_lt (most_index / suc n) length) (fault RepeatTooLong) (Ok (suc n))

abbrev pub repeat_checked : ℕ → ℤ → Result ℕ Fault
repeat_checked length z = counted length (times z)

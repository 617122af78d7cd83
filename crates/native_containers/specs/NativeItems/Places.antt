-- Where numbers and slices lead among items.
use Rattle.native_containers.specs.Below.{ℕ, suc, ℤ, pos, negsuc, cond, min, max, nat_lt, length, take, drop, slice_range, List, Option, Some, None, option_and_then, PyObjectRef, PySlice, Datum, ASlice, PlainWorld, datum_at, number_of}
use Rattle.std.specs.Prelude.{◌-◌, ◌++◌}

-- where a number leads among so many items: from the end, if it is below zero
abbrev pub place_of : ℕ → ℤ → Option ℕ
place_of n (pos i) = cond (nat_lt i n) (Some i) None
place_of n (negsuc i) = cond (nat_lt i n) (Some (n - suc i)) None

-- the place to which an object leads
abbrev pub place_at : PlainWorld → ℕ → PyObjectRef → Option ℕ
place_at w n i = option_and_then (place_of n) (number_of (datum_at w i))

-- a bound leads no further than the ends
abbrev pub bound_of : ℕ → ℤ → ℕ
bound_of n (pos i) = min i n
bound_of n (negsuc i) = n - suc i

-- one that isn't there leads to the end that it is for
abbrev pub bound : ℕ → ℕ → Option ℤ → ℕ
bound n absent None = absent
bound n absent (Some z) = bound_of n z

abbrev pub slice_in : Option Datum → Option PySlice
slice_in (Some (ASlice s)) = Some s
slice_in _ = None

abbrev pub slice_at : PlainWorld → PyObjectRef → Option PySlice
slice_at w k = slice_in (datum_at w k)

abbrev pub bound_at : PlainWorld → ℕ → ℕ → Option PyObjectRef → ℕ
bound_at w n absent r = bound n absent (option_and_then (λ r. number_of (datum_at w r)) r)

-- the items between the bounds of a slice
abbrev pub part : {A : Type 0} → PlainWorld → PySlice → List A → List A
part w s xs = slice_range xs (bound_at w (length xs) 0 s.start) (bound_at w (length xs) (length xs) s.stop)

-- the items with others in the place of those between two bounds
abbrev pub put_between : {A : Type 0} → ℕ → ℕ → List A → List A → List A
put_between start stop xs ys = take start xs ++ (ys ++ drop (max start stop) xs)

abbrev pub put_part : {A : Type 0} → PlainWorld → PySlice → List A → List A → List A
put_part w s xs ys = put_between (bound_at w (length xs) 0 s.start) (bound_at w (length xs) (length xs) s.stop) xs ys

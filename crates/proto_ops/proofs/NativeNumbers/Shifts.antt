-- What is shifted to the left, and what is out of range then.
use Rattle.proto_ops.proofs.Below.{ℕ, zero, suc, pos, negsuc, neg_ℤ, arith, refl, w128, FitsSigned, pow_mono}
use Rattle.std.proofs.Common.{◌≡◌, ℤ, ◌*◌, ◌*ℤ◌, ◌^◌, ◌≤◌, ◌<◌}

-- a power of two below the range's end
pub small_power : (n : ℕ) → n < 127 → FitsSigned w128 (pos (2 ^ n))
small_power n h =
    let most : n ≤ 126 = omega (arith, h) in
    let b : 2 ^ n ≤ 2 ^ 126 = pow_mono most in
    omega (arith, b)

at_least : (a n : ℕ) → 127 ≤ n → 2 ^ 127 ≤ suc a * 2 ^ n
at_least a n h = let b : 2 ^ 127 ≤ 2 ^ n = pow_mono h in omega (arith, b)

twice_at_least : (a n : ℕ) → 127 ≤ n → 2 ^ 128 ≤ suc (suc a) * 2 ^ n
twice_at_least a n h = let b : 2 ^ 127 ≤ 2 ^ n = pow_mono h in omega (arith, b)

far_below : (m : ℕ) → 2 ^ 128 ≤ m → FitsSigned w128 (neg_ℤ (pos m)) → ⊥
far_below zero h fits = omega (arith, h)
far_below (suc m) h fits = omega (arith, h, fits.sfits)

-- no number but 0 goes by 127 places and more, but for -1 by 127
pub out_of_range : (x : ℤ) (n : ℕ) → 127 ≤ n → n ≤ 128 → (x ≡ pos 0 → ⊥) → (x ≡ negsuc 0 → n ≡ 127 → ⊥) → FitsSigned w128 (x *ℤ pos (2 ^ n)) → ⊥
out_of_range (pos zero) n h k other one fits = absurd (other refl)
out_of_range (pos (suc a)) n h k other one fits = omega (arith, at_least a n h, fits)
out_of_range (negsuc zero) n h k other one fits =
    let not_least : n ≡ 127 → ⊥ = one refl in
    let far : 128 ≤ n = grind (arith, h, not_least) in
    let b : 2 ^ 128 ≤ 2 ^ n = pow_mono far in
    let one_times : 2 ^ 128 ≤ 1 * 2 ^ n = omega (arith, b) in
    far_below (1 * 2 ^ n) one_times fits
out_of_range (negsuc (suc a)) n h k other one fits = far_below (suc (suc a) * 2 ^ n) (twice_at_least a n h) fits

-- Whole numbers of at most 128 bits.
use Rattle.row_kit.proofs.Below.{Bool, true, false, refl, sym, subst, arith, nat_lt, T, ℤ, pos, negsuc, w128, FitsSigned, lt-ltb, ints, sfits_lit, fits}
use Rattle.std.proofs.Common.{◌≡◌, ◌<◌, ◌^◌}

pub fits-true : (z : ℤ) → FitsSigned w128 z → fits z ≡ true
fits-true (pos n) h = let l : n < 2 ^ 127 = omega (arith, ints) in lt-ltb n (2 ^ 127) l
fits-true (negsuc n) h = let l : n < 2 ^ 127 = omega (arith, ints) in lt-ltb n (2 ^ 127) l

pub fits-false : (z : ℤ) → (FitsSigned w128 z → ⊥) → fits z ≡ false
fits-false (pos n) h = go (nat_lt n (2 ^ 127)) refl
  where
    go : (b : Bool) → nat_lt n (2 ^ 127) ≡ b → b ≡ false
    go true e = absurd (h (sfits_lit {w = w128} {z = pos n} (subst T (sym e) tt)))
    go false e = refl
fits-false (negsuc n) h = go (nat_lt n (2 ^ 127)) refl
  where
    go : (b : Bool) → nat_lt n (2 ^ 127) ≡ b → b ≡ false
    go true e = absurd (h (sfits_lit {w = w128} {z = negsuc n} (subst T (sym e) tt)))
    go false e = refl

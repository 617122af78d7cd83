-- Classes one of which was written.
use Rattle.class_table.proofs.Below.{ℕ, List, length, set, ap, ◌∙◌, arith, length-set, StoredClass}
use Rattle.std.proofs.Common.{◌≡◌, ◌<◌}

-- a place is still inside
pub written-inside : (kept cur : List StoredClass) (at : ℕ) (k : StoredClass) → at < length kept → cur ≡ set kept at k → at < length cur
written-inside kept cur at k l e =
    let n = ap length e ∙ length-set kept at k in
    omega (arith, l, n)

-- How far what is counted rises.
use Rattle.class_table.proofs.Below.{ℕ, ap, arith, Counts, RiseBy}
use Rattle.std.proofs.Common.{◌≡◌, ◌+◌, ◌≤◌}

pub rise-none : (x : Counts) → RiseBy 0 0 x x
rise-none x = record { merges_stay = omega arith; probes_stay = omega arith; few_merges = omega arith; few_probes = omega arith }

-- one rise after another
pub rise-then : (a b m n : ℕ) (old now then : Counts) → RiseBy a b old now → RiseBy m n now then → RiseBy (a + m) (b + n) old then
rise-then a b m n old now then r s =
    let p = r.merges_stay in
    let q = r.probes_stay in
    let u = r.few_merges in
    let v = r.few_probes in
    let w = s.merges_stay in
    let x = s.probes_stay in
    let y = s.few_merges in
    let z = s.few_probes in
    record { merges_stay = omega (arith, p, w); probes_stay = omega (arith, q, x); few_merges = omega (arith, u, y); few_probes = omega (arith, v, z) }

-- and no further than a greater bound
pub rise-within : (a b m n : ℕ) (old now : Counts) → RiseBy a b old now → a ≤ m → b ≤ n → RiseBy m n old now
rise-within a b m n old now r l k =
    let p = r.merges_stay in
    let q = r.probes_stay in
    let u = r.few_merges in
    let v = r.few_probes in
    record { merges_stay = p; probes_stay = q; few_merges = omega (arith, u, l); few_probes = omega (arith, v, k) }

pub rise-merge : (now then : Counts) → then ≡ record now { merges = now.merges + 1 } → RiseBy 1 0 now then
rise-merge now then e =
    let m : then.merges ≡ now.merges + 1 = ap (λ (x : Counts). x.merges) e in
    let p : then.probes ≡ now.probes = ap (λ (x : Counts). x.probes) e in
    record { merges_stay = omega (arith, m); probes_stay = omega (arith, p); few_merges = omega (arith, m); few_probes = omega (arith, p) }

pub rise-probe : (now then : Counts) → then ≡ record now { probes = now.probes + 1 } → RiseBy 0 1 now then
rise-probe now then e =
    let m : then.merges ≡ now.merges = ap (λ (x : Counts). x.merges) e in
    let p : then.probes ≡ now.probes + 1 = ap (λ (x : Counts). x.probes) e in
    record { merges_stay = omega (arith, m); probes_stay = omega (arith, p); few_merges = omega (arith, m); few_probes = omega (arith, p) }

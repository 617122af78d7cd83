-- What rows leave: what is said of numbers, and the bodies that are open.
use Rattle.class_world.proofs.Below.{ℕ, List, length, sym, subst, arith, length-map, Step, Held, Reading, plain, scope_of, Claim, AllHold, of_step, left_open, Leaves, LeavesOpen}
use Rattle.std.proofs.Common.{◌≡◌}
use Rattle.std.specs.Prelude.{Ok}
use Rattle.class_world.proofs.Growth.{grows-lasts}

-- as many bodies run in the plain world
pub bodies-read : (t : Reading) (w : Held) → length (plain t w).scopes ≡ length w.scopes
unfolding plain
bodies-read t w = length-map w.scopes (scope_of t)

module _ {K : Type 0} (of_kept : K → List Claim) (bodies : K → ℕ) where
  -- a row of a group that begins no body, among all rows
  pub leaves-among : {J : Type 0} (of_group : J → List Claim) (before : ℕ) (old new : Held) (step : Step J) (next : Step K) → before ≡ 0 → of_step of_kept next ≡ of_step of_group step → left_open bodies next ≡ 0 → Leaves of_group old new (Ok step) → LeavesOpen of_kept bodies before old new (Ok next)
  leaves-among of_group before old new step next none says opens h =
      let b = h.0.bodies in
      (grows-lasts old new h.0, (subst (AllHold new) (sym says) h.1, omega (arith, b, none, opens)))

  -- and a row of a group that may begin one
  pub leaves-open : {J : Type 0} (of_group : J → List Claim) (there : J → ℕ) (before had : ℕ) (old new : Held) (step : Step J) (next : Step K) → before ≡ had → of_step of_kept next ≡ of_step of_group step → left_open bodies next ≡ left_open there step → LeavesOpen of_group there had old new (Ok step) → LeavesOpen of_kept bodies before old new (Ok next)
  leaves-open of_group there before had old new step next same says opens h =
      let b = h.1.1 in
      (h.0, (subst (AllHold new) (sym says) h.1.0, omega (arith, b, same, opens)))

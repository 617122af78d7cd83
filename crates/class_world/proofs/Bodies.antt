-- The function whose body runs, as a reading has it, and that it is an object.
use Rattle.class_world.proofs.Below.{ℕ, zero, suc, List, [], length, Some, refl, arith, get_or, map, IfSome, subst, PyStrInterned, running, in_last, last_function, last_value, Scope, Held, Reading, plain, scope_of, IsNode, Holds, AllHold, Sound, of_scope, of_each}
use Rattle.std.proofs.Common.{◌≡◌, ◌∷◌}
use Rattle.class_world.proofs.Claims.{all-first, all-rest}
use Rattle.class_world.proofs.Bound.{last-holds, last-read}

-- the last one, by its place
pub function-at : (ss : List Scope) (s : Scope) (n : ℕ) → suc n ≡ length ss → Some (get_or ss n s).func ≡ last_function ss
function-at [] s n l = absurd (omega arith)
function-at (u ∷ []) s zero l = refl
function-at (u ∷ []) s (suc n) l = absurd (omega arith)
function-at (u ∷ (v ∷ ss)) s zero l = absurd (omega arith)
function-at (u ∷ (v ∷ ss)) s (suc n) l = function-at (v ∷ ss) s n (omega arith)

last-read-function : (t : Reading) (ss : List Scope) → running (map (scope_of t) ss) ≡ last_function ss
last-read-function t [] = refl
last-read-function t (s ∷ []) = refl
last-read-function t (s ∷ (u ∷ ss)) = last-read-function t (u ∷ ss)

function-holds : (w : Held) (ss : List Scope) → AllHold w (of_each of_scope ss) → IfSome (last_function ss) (λ f. Holds w (IsNode f))
function-holds w [] h = tt
function-holds w (s ∷ []) h = (all-first w (of_scope s) [] h).0
function-holds w (s ∷ (u ∷ ss)) h = function-holds w (u ∷ ss) (all-rest w (of_scope s) _ h)

-- these in a world

pub function-read : (w now : Held) → w ≡ now → (t : Reading) → running (plain t now).scopes ≡ last_function w.scopes
unfolding plain
function-read w now v t = subst (λ n. running (plain t n).scopes ≡ last_function w.scopes) v (last-read-function t w.scopes)

pub function-there : (w now : Held) → w ≡ now → Sound w → IfSome (last_function w.scopes) (λ f. Holds now (IsNode f))
function-there w now v h = subst (λ n. IfSome (last_function w.scopes) (λ f. Holds n (IsNode f))) v (function-holds w w.scopes h.scopes)

pub local-read : (w now : Held) (x : PyStrInterned) → w ≡ now → (t : Reading) → in_last (plain t now).scopes (t.text x.0) ≡ last_value w.scopes x
unfolding plain
local-read w now x v t = subst (λ n. in_last (plain t n).scopes (t.text x.0) ≡ last_value w.scopes x) v (last-read t w.scopes x)

pub local-there : (w now : Held) (x : PyStrInterned) → w ≡ now → Sound w → IfSome (last_value w.scopes x) (λ r. Holds now (IsNode r))
local-there w now x v h = subst (λ n. IfSome (last_value w.scopes x) (λ r. Holds n (IsNode r))) v (last-holds w w.scopes x h.scopes)

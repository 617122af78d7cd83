-- What the classes of a hierarchy keep to, and how it is tested.
use Rattle.order_check.specs.Below.{ℕ, suc, Bool, true, false, cond, List, [], length, get_or, Option, Some, None, is_some, is_within, Includes, bases_of}
use Rattle.std.specs.Prelude.{◌≡◌, ◌<◌, ◌≤◌, ◌==◌, ◌&&◌, ◌∷◌, ◌++◌}
use Rattle.order_check.specs.declared.hierarchy.Entry.{Entry}
use Rattle.order_check.specs.Hierarchy.{classes, keys_of, AreKeyed}
use Rattle.order_check.specs.Known.{known_in}

-- the second class is a base of the first
pub record IsBase (h : List Entry) (c b : ℕ) : Type 0 where
  pub bases : List ℕ
  pub of_class : bases_of (classes h) c ≡ Some bases
  pub held : Includes bases b

-- from a class along a list, each is a base of the one before
abbrev pub AreBases : List Entry → ℕ → List ℕ → Type 0
AreBases h c [] = Unit {0}
AreBases h c (b ∷ bs) = IsBase h c b × AreBases h b bs

-- bases are classes of the hierarchy
abbrev pub AreThere : List Entry → Type 0
AreThere h = (c b : ℕ) → IsBase h c b → Includes (keys_of h) b

-- how many classes have no base
abbrev pub roots : List Entry → ℕ
roots [] = 0
roots (e ∷ h) = cond (length e.bases.items == 0) (suc (roots h)) (roots h)

-- one class at most has no base
abbrev pub IsRooted : List Entry → Type 0
IsRooted h = roots h ≤ 1

-- no class derives from itself
abbrev pub AreApart : List Entry → Type 0
AreApart h = (c : ℕ) (between : List ℕ) → AreBases h c (between ++ c ∷ []) → ⊥

-- the keys differ, bases are classes of the hierarchy, one class at most has no base, and no class derives from itself
pub record IsWellFormed (h : List Entry) : Type 0 where
  pub keyed : AreKeyed h
  pub there : AreThere h
  pub root : IsRooted h
  pub apart : AreApart h

-- each of some classes has a rank
abbrev pub are_ranked : (ℕ → Option ℕ) → List ℕ → Bool
are_ranked rank [] = true
are_ranked rank (b ∷ bs) = is_some (rank b) && are_ranked rank bs

-- a rank is below n, and the bases of a class that has one have lesser ones
unfoldable pub IsRanking : List Entry → List (Option ℕ) → ℕ → Type 0
IsRanking h ranks n = (c m : ℕ) → known_in h ranks c ≡ Some m → (m < n) × ((b : ℕ) → IsBase h c b → (k : ℕ) × (known_in h ranks b ≡ Some k) × (k < m))

-- a class that has no rank has a base that has none
abbrev pub IsStuckAt : List Entry → List (Option ℕ) → ℕ → Type 0
IsStuckAt h ranks c = known_in h ranks c ≡ None → (bs : List ℕ) → bases_of (classes h) c ≡ Some bs → are_ranked (known_in h ranks) bs ≡ false

unfoldable pub IsStuckTo : List Entry → List (Option ℕ) → ℕ → Type 0
IsStuckTo h ranks n = (k : ℕ) → k < n → IsStuckAt h ranks (get_or (keys_of h) k 0)

abbrev pub have_ranks : List (Option ℕ) → Bool
have_ranks [] = true
have_ranks (r ∷ rs) = is_some r && have_ranks rs

-- the bases of some classes are among some keys
abbrev pub all_within : List ℕ → List Entry → Bool
all_within keys [] = true
all_within keys (e ∷ h) = is_within e.bases.items keys && all_within keys h

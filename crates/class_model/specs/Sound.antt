-- What the classes of a machine keep to.
use Rattle.class_model.specs.Below.{ℕ, true, false, not, eqb, List, Some, is_some}
use Rattle.std.specs.Prelude.{◌≡◌}
use Rattle.class_model.specs.Order.{Includes}
use Rattle.class_model.specs.Class.{Classes, class_at, is_class, bases_of, is_sub, lin}
use Rattle.class_model.specs.Numbers.{is_ascending}
use Rattle.class_model.specs.Layout.{is_empty, base, solid}
use Rattle.class_model.specs.Dict.{has_dict, has_its_dict}

pub record AreSound {K : Type 0} (t : Classes K) : Type 0 where
  -- the numbers ascend
  pub ascending : is_ascending t ≡ true
  -- only the class 0, `object`, has no base
  pub root : (c : ℕ) (bs : List ℕ) → bases_of t c ≡ Some bs → is_empty bs ≡ eqb c 0
  -- bases are classes that are there
  pub there : (c b : ℕ) (bs : List ℕ) → bases_of t c ≡ Some bs → Includes bs b → is_class t b ≡ true
  -- no class derives from a base that derives from it
  pub apart : (c b : ℕ) (bs : List ℕ) → bases_of t c ≡ Some bs → Includes bs b → is_sub t b c ≡ false
  -- each class has an order
  pub order : (c : ℕ) → is_class t c ≡ true → is_some (lin t c) ≡ true
  -- each class has a solid class, and each but `object` a best base
  pub solid : (c : ℕ) → is_class t c ≡ true → is_some (solid t c) ≡ true
  pub best : (c : ℕ) → is_class t c ≡ true → is_some (base t c) ≡ not (eqb c 0)
  -- its flags say that its objects have a dict exactly where it brings one or the flags of one of its bases say so
  pub dicts : (c : ℕ) → has_dict t c ≡ has_its_dict t (class_at t c)

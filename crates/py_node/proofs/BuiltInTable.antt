-- The table of built-in classes has a row for each class, at its place.
use Rattle.py_node.proofs.Below.{true, refl, nat_lt, slice_get, Some, BuiltIn, Object, all_built_ins, built_in_count}
use Rattle.std.proofs.Common.{◌≡◌, ◌<◌}
use borrow.Author.Tests.{ltb-true}
use Rattle.py_node.specs.BuiltIns.{place_of}

below-test : (b : BuiltIn) → nat_lt (place_of b) built_in_count ≡ true
unfolding place_of
below-test Object = refl
below-test _ = refl

pub below : (b : BuiltIn) → place_of b < built_in_count
below b = ltb-true _ _ (below-test b)

-- the class stands at its place
pub class-at_place : (b : BuiltIn) → slice_get all_built_ins (place_of b) ≡ Some b
unfolding place_of all_built_ins
class-at_place Object = refl
class-at_place _ = refl

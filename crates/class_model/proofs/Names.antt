-- The built-in classes have the first numbers.
use Rattle.class_model.proofs.Below.{true, refl, ltb-true, BuiltIn, Object, place_of, built_ins}
use Rattle.std.proofs.Common.{◌≡◌, ◌<◌, ltb}

first_test : (b : BuiltIn) → ltb (place_of b) built_ins ≡ true
unfolding place_of
first_test Object = refl
first_test _ = refl

-- the built-in classes have the first numbers
pub place-first : (b : BuiltIn) → place_of b < built_ins
place-first b = ltb-true (place_of b) built_ins (first_test b)

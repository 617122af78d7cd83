-- The objects that every world has.
use Rattle.class_world.specs.Below.{ℕ, fixed_none, fixed_not_implemented, fixed_false, fixed_true}
use Rattle.class_world.specs.declared.built_ins.Fixed.{Fixed}
use Rattle.class_world.specs.declared.built_ins.Fixed.TheVariants.{None, NotImplemented, False, True}

abbrev pub number_of_fixed : Fixed → ℕ
number_of_fixed None = fixed_none
number_of_fixed NotImplemented = fixed_not_implemented
number_of_fixed False = fixed_false
number_of_fixed True = fixed_true

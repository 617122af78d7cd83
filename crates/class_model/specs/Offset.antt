-- Where the places of an object lie, one after another.
use Rattle.class_model.specs.Below.{ℕ, cond, Option, None, option_map}
use Rattle.std.specs.Prelude.{◌+◌}
use Rattle.class_model.specs.Class.{Classes}
use Rattle.class_model.specs.Layout.{is_place, first_place}

-- the offset of a place in the objects of a class: the number of the own members of the layout's earlier classes, added up, plus its index
abbrev pub offset_of : {K : Type 0} → Classes K → ℕ → ℕ → ℕ → Option ℕ
offset_of t c d i = cond (is_place t c d i) (option_map (λ n. n + i) (first_place t c d)) None

-- The strings of a list.
use Rattle.script_text.specs.Below.{List, [], Option, Some, None, option_map, Items, no_items, item, as_str, Text}
use Rattle.std.specs.Prelude.{◌∷◌}

-- f of two parts, where both are there
abbrev pub of_two : {A B C : Type 0} → (A → B → C) → Option A → Option B → Option C
of_two f (Some a) b = option_map (f a) b
of_two f None b = None

-- the strings of a list
abbrev pub texts_in : Items → Option (List Text)
texts_in no_items = Some []
texts_in (item d ds) = of_two ◌∷◌ (as_str d) (texts_in ds)

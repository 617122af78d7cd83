-- The bases of a class as the reader takes them, item by item. No public contract names these.
use Rattle.order_check.specs.Below.{ℕ, List, [], map, Option, Some, option_and_then, Bor, Data, Items, no_items, item, as_str, Text, of_two}
use Rattle.std.specs.Prelude.{◌∷◌}
use Rattle.order_check.specs.HierarchyText.Spelled.{PlainClass, key_of, named_of, class_after}

-- the names that the code lends
abbrev pub texts : List (Bor Text) → List Text
texts names = map (λ n. n.now) names

-- the key that an item names
abbrev pub base_key : List Text → Data → Option ℕ
base_key names d = option_and_then (key_of names) (as_str d)

-- the keys that some items name
abbrev pub base_keys : List Text → Items → Option (List ℕ)
base_keys names no_items = Some []
base_keys names (item d ds) = of_two ◌∷◌ (base_key names d) (base_keys names ds)

-- the class that an item spells after those with some names
abbrev pub class_at : List Text → Data → Option PlainClass
class_at names d = option_and_then (class_after names) (named_of d)

-- What is written of a hierarchy: of each class but the first its linearisation, or else why it has none.
use Rattle.order_check.specs.Below.{ℕ, false, cond, eqb, List, [], drop, map, codes, Option, Some, None, flat_map, filter_map, Text, Class, lin, escaped}
use Rattle.std.specs.Prelude.{◌∷◌}
use Rattle.order_check.specs.declared.report.Pair.{Pair}
use Rattle.order_check.specs.Found.{cycle_of}
use Rattle.order_check.specs.Orders.{lists_of}
use Rattle.order_check.specs.Report.{first_without, found_pairs}
use Rattle.order_check.specs.HierarchyText.Spelled.{PlainClass}
use Rattle.order_check.specs.ReportText.ReportText.{order_shown, cycle_shown, line_of}

-- a class as the model has it. Of a class its key and its bases alone make its linearisation
abbrev pub model_class : PlainClass → Class ℕ
model_class c = record { name = []; number = c.key; bases = c.bases; attrs = []; members = []; flags = 0; brings = false }

-- the linearisation of the class with a key. There is none where a base is missing, where bases go round, or where no order exists
abbrev pub order_among : List PlainClass → ℕ → Option (List ℕ)
order_among cs c = lin (map model_class cs) c

-- the name of the class with a key, and nothing where there is none
abbrev pub name_among : List PlainClass → ℕ → Text
name_among [] c = []
name_among (k ∷ ks) c = cond (eqb k.key c) k.name (name_among ks c)

-- the same, as names are written
abbrev pub shown_among : List PlainClass → ℕ → Text
shown_among cs c = escaped (name_among cs c)

-- the cycle that is found in some lists, pair by pair
abbrev pub cycle_pairs : List ℕ → List (List ℕ) → List Pair
cycle_pairs bases ls = found_pairs bases ls (cycle_of ls)

-- the same of a class's lists: the linearisations of its bases in order, and the list of bases
abbrev pub class_cycle : (ℕ → Option (List ℕ)) → List ℕ → List Pair
class_cycle order bases = cycle_pairs bases (lists_of bases (filter_map order bases))

-- the line of a class: its linearisation, where it has one; else the first of its bases that has none, if there is one; else a cycle
abbrev pub line_from : (ℕ → Text) → (ℕ → Option (List ℕ)) → PlainClass → Option (List ℕ) → Option ℕ → Text
line_from name order c (Some line) without = line_of (codes "order") c.name (order_shown name line)
line_from name order c None (Some b) = line_of (codes "none") c.name (name b)
line_from name order c None None = line_of (codes "cycle") c.name (cycle_shown name (class_cycle order c.bases))

-- the same, with a name and an order for each key
abbrev pub line_by : (ℕ → Text) → (ℕ → Option (List ℕ)) → PlainClass → Text
line_by name order c = line_from name order c (order c.key) (first_without order c.bases)

-- the same, with the names and the orders of some classes
unfoldable pub plain_line : List PlainClass → PlainClass → Text
plain_line cs c = line_by (shown_among cs) (order_among cs) c

-- a line for each class but the first
unfoldable pub plain_report : List PlainClass → Text
plain_report cs = flat_map (plain_line cs) (drop 1 cs)

-- What a hierarchy has of a class.
use Rattle.order_check.specs.Below.{ℕ, List, string_bytes, Text, Class}
use Rattle.order_check.specs.declared.hierarchy.Entry.{Entry}

-- its number, its name and its bases
abbrev pub Shown : Type 0
Shown = ℕ × Text × List ℕ

abbrev pub shown : Entry → Shown
shown e = (e.key, string_bytes e.name, e.bases.items)

abbrev pub class_shown : {K : Type 0} → Class K → Shown
class_shown k = (k.number, k.name, k.bases)

-- How the table names attributes, and the numbers of classes.
use Rattle.class_table.specs.Below.{ℕ, List, map, Option, option_map, Vec, PyStrInterned, PyTypeRef, is_same_name, number_of as number_of_name, Keys}

-- the names that are known have the first numbers
abbrev pub table_keys : Keys PyStrInterned
table_keys = record { same = is_same_name; special = λ x. record { 0 = number_of_name x } }

-- what `__slots__` name, where a class has some
abbrev pub slot_names : Option (Vec PyStrInterned) → Option (List PyStrInterned)
slot_names slots = option_map (λ v. v.items) slots

-- the numbers of some classes
abbrev pub numbers : List PyTypeRef → List ℕ
numbers cs = map (λ c. c.0) cs

-- the number of a class, where there is one
abbrev pub number_of : Option PyTypeRef → Option ℕ
number_of c = option_map (λ r. r.0) c

-- What is written of a report.
use Rattle.order_check.specs.Below.{ℕ, List, [], drop, map, codes, Option, Some, None, string_bytes, Text, escaped, joined, end_of_line}
use Rattle.std.specs.Prelude.{◌∷◌, ◌++◌}
use Rattle.order_check.specs.declared.hierarchy.Entry.{Entry}
use Rattle.order_check.specs.declared.report.Pair.{Pair}
use Rattle.order_check.specs.declared.report.Line.{Line}
use Rattle.order_check.specs.declared.report.Line.TheVariants.{Order, Cycle, Without}
use Rattle.order_check.specs.Hierarchy.{name_in}

-- the name of the class with a key, as names are written
abbrev pub shown : List Entry → ℕ → Text
shown h c = escaped (name_in h c)

-- what is told, where each key has its name

-- a list of a class's constraints: the linearisation of a base, or the list of bases
abbrev pub list_shown : (ℕ → Text) → Option ℕ → Text
list_shown name None = codes "bases"
list_shown name (Some b) = name b

-- one class before another, and the list that has them so
abbrev pub pair_shown : (ℕ → Text) → Pair → Text
pair_shown name p = name p.first ++ codes " < " ++ name p.second ++ codes " in " ++ list_shown name p.list

-- a linearisation
abbrev pub order_shown : (ℕ → Text) → List ℕ → Text
order_shown name line = joined (codes ", ") (map name line)

-- the pairs of a cycle
abbrev pub cycle_shown : (ℕ → Text) → List Pair → Text
cycle_shown name pairs = joined (codes "; ") (map (pair_shown name) pairs)

-- a line: a word, the name of its class, and what is told of that
abbrev pub line_of : Text → Text → Text → Text
line_of word name told = word ++ codes " " ++ escaped name ++ codes ": " ++ told ++ end_of_line

-- the word that a line begins with
abbrev pub line_word : Line → Text
line_word (Order line) = codes "order"
line_word (Cycle pairs) = codes "cycle"
line_word (Without b) = codes "none"

-- what a line tells of its class
abbrev pub line_told : List Entry → Line → Text
line_told h (Order line) = order_shown (shown h) line.items
line_told h (Cycle pairs) = cycle_shown (shown h) pairs.items
line_told h (Without b) = shown h b

abbrev pub line_text : List Entry → Entry → Line → Text
line_text h e line = line_of (line_word line) (string_bytes e.name) (line_told h line)

-- each class with its line
unfoldable pub lines_text : List Entry → List Entry → List Line → Text
lines_text h [] ls = []
lines_text h (e ∷ es) [] = []
lines_text h (e ∷ es) (l ∷ ls) = line_text h e l ++ lines_text h es ls

-- the first class has no line
abbrev pub report_text : List Entry → List Line → Text
report_text h ls = lines_text h (drop 1 h) ls

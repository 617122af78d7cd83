-- The names that every world knows, in the order of their numbers.
use Rattle.py_node.specs.Below.{ℕ, List, [], map, slice_index_or}
use denote.Enum.Declared.{tag_of}
use Rattle.py_node.specs.contracts.known.Known.{the_type}
use Rattle.py_node.specs.declared.known.Known.{Known}
use Rattle.py_node.specs.declared.known.TheConstants.{KNOWN}
use Rattle.py_node.specs.Tree.{Text}

-- their texts
unfoldable pub known_texts : List Text
known_texts = map (λ r. r.1.now) KNOWN

-- the number of a name: its place
unfoldable pub number_of : Known → ℕ
number_of = tag_of the_type

-- the text of a name
unfoldable pub known_text : Known → Text
known_text x = slice_index_or known_texts (number_of x) []

-- The kinds and causes of faults, with their words, as their tables have them.
use Rattle.py_node.specs.Below.{ℕ, List, [], map, slice_index_or}
use denote.Enum.Declared.{tag_of}
use Rattle.py_node.specs.contracts.raised.Kind.{the_type as kinds}
use Rattle.py_node.specs.contracts.raised.Cause.{the_type as causes}
use Rattle.py_node.specs.declared.raised.Kind.{Kind}
use Rattle.py_node.specs.declared.raised.Kind.TheVariants.{TypeError}
use Rattle.py_node.specs.declared.raised.Cause.{Cause}
use Rattle.py_node.specs.declared.raised.Raised.{Raised}
use Rattle.py_node.specs.declared.raised.TheConstants.{KINDS, CAUSES}

unfoldable pub kind_words : List (List ℕ)
kind_words = map (λ r. r.1.now) KINDS

abbrev pub kind_place : Kind → ℕ
kind_place = tag_of kinds

-- the word for a kind
abbrev pub kind_word : Kind → List ℕ
kind_word k = slice_index_or kind_words (kind_place k) []

-- the word for each cause, and the kind of its faults
unfoldable pub cause_rows : List (List ℕ × Kind)
cause_rows = map (λ r. (r.1.now, r.2)) CAUSES

abbrev pub cause_place : Cause → ℕ
cause_place = tag_of causes

abbrev pub cause_row_of : Cause → List ℕ × Kind
cause_row_of c = slice_index_or cause_rows (cause_place c) ([], TypeError)

-- the word for a cause
abbrev pub cause_word : Cause → List ℕ
cause_word c = (cause_row_of c).0

-- the kind of the faults of a cause
abbrev pub kind_of : Cause → Kind
kind_of c = (cause_row_of c).1

-- a fault of a cause, with the kind that such faults have
unfoldable pub raised : Cause → Raised
raised c = record { kind = kind_of c; cause = c }

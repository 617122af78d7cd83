-- The words of operations.
use Rattle.script_text.specs.Below.{ℕ, Bool, bytes_eq, List, map, Option, option_map, option_and_then, find, Data, as_str, Word, Text}
use Rattle.std.specs.Prelude.{◌==◌, ◌||◌}
use Rattle.script_text.specs.declared.words.Arity.{Arity}
use Rattle.script_text.specs.declared.words.Arity.TheVariants as arity
use Rattle.script_text.specs.declared.words.TheConstants.{WORDS}

-- whether it is so many operands
abbrev pub allows : Arity → ℕ → Bool
allows arity.One n = n == 1
allows arity.Two n = n == 2
allows arity.TwoOrThree n = n == 2 || n == 3
allows arity.Three n = n == 3
allows arity.Four n = n == 4

-- the words, the operation that each stands for, and how many operands it takes
unfoldable pub words : List (Text × Word × Arity)
words = map (λ row. (row.0.now, row.1, row.2)) WORDS

-- the operation that a text stands for, and how many operands it takes
abbrev pub word_of : Text → Option (Word × Arity)
word_of text = option_map (λ row. (row.1, row.2)) (find (λ row. bytes_eq text row.0) words)

abbrev pub operation_of : Data → Option (Word × Arity)
operation_of d = option_and_then word_of (as_str d)

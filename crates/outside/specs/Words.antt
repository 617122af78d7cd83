-- The words that the program is called with.
use Rattle.outside.specs.Below.{ℕ, nat_le, Bool, false, not, List, [], Option, None, Some, option_map, codes, bytes_eq, is_ascii_digit, list_all, digits_value}
use Rattle.std.specs.Prelude.{◌==◌, ◌&&◌, ◌||◌, ◌∷◌, if◌then◌else◌}
use Rattle.outside.specs.declared.words.Generation.{Generation}
use Rattle.outside.specs.declared.words.Pace.TheVariants.{Single, Parallel}
use Rattle.outside.specs.declared.words.Question.{Question}
use Rattle.outside.specs.declared.words.Question.TheVariants.{Run, Share, Check}
use Rattle.outside.specs.declared.words.Job.{Job}
use Rattle.outside.specs.declared.words.Job.TheVariants.{Answer, Generate}

abbrev pub Text : Type 0
Text = List ℕ

abbrev pub is_empty : Text → Bool
is_empty text = bytes_eq text []

-- ASCII digits alone, at least one, with no zero in front of others
abbrev pub is_numeral : Text → Bool
is_numeral [] = false
is_numeral (first ∷ others) = list_all is_ascii_digit (first ∷ others) && (not (first == 48) || is_empty others)

-- a number from `low` to `high`
abbrev pub is_in_range : ℕ → ℕ → ℕ → Bool
is_in_range low high n = nat_le low n && nat_le n high

-- the number that a text writes, where it is a numeral of one from `low` to `high`
abbrev pub number_written : ℕ → ℕ → Text → Option ℕ
number_written low high text = if is_numeral text && is_in_range low high (digits_value 10 text) then Some (digits_value 10 text) else None

-- what a word alone asks of a text
abbrev pub question_alone : Text → Option Question
question_alone command = if bytes_eq command (codes "check") then Some (Check Single) else None

-- the units that a word writes
abbrev pub units_written : Text → Option ℕ
units_written word = number_written 1 1000000000 word

-- what two words ask of a text: the units N of `run N` or of `share N`, or the orders by as many threads as there are processors
abbrev pub question_in : Text → Text → Option Question
question_in command word =
    if bytes_eq command (codes "run") then option_map Run (units_written word)
    else (if bytes_eq command (codes "share") then option_map Share (units_written word)
    else (if bytes_eq command (codes "check") && bytes_eq word (codes "par") then Some (Check Parallel) else None))

-- both numbers, where there are both
abbrev pub generation_by : Option ℕ → Option ℕ → Option Generation
generation_by (Some seed) (Some count) = Some (record { seed = seed; count = count })
generation_by seed count = None

-- the seed and the count of the words `gen SEED COUNT`
abbrev pub generation_in : Text → Text → Text → Option Generation
generation_in command seed count = if bytes_eq command (codes "gen") then generation_by (number_written 0 18446744073709551615 seed) (number_written 0 100000 count) else None

-- what the words ask for, if the program knows them
abbrev pub job_in : List Text → Option Job
job_in (command ∷ []) = option_map Answer (question_alone command)
job_in (command ∷ word ∷ []) = option_map Answer (question_in command word)
job_in (command ∷ seed ∷ count ∷ []) = option_map Generate (generation_in command seed count)
job_in words = None

-- What the program writes: what answers the text that was read, or what the replies to generated commands add up to.
use Rattle.serve.specs.Below.{ℕ, List, length, Ok, Err, Question, Share, Check, Text, Tree, replies_text, script_of, sessions_of, ScriptError as Refusal, Run, plain_run, classes_text, start, PlainClass, hierarchy_of, plain_report, say, PlainEntry, Legal, Mix, journal_text, generated, summary}
use Rattle.std.specs.Prelude.{◌≡◌, ◌≤◌, ◌++◌}
use Rattle.outside.specs.declared.words.Question.TheVariants.{Run as RunQuestion}

-- what is written for a run: its replies, and then the classes that scripts made in the world after it
abbrev pub text_of : Run → Text
text_of run = replies_text run.replies ++ classes_text run.world

-- the text of a run of a new plain machine: of these commands, each with so many units
abbrev pub run_text : List Tree → ℕ → Text
run_text commands units = text_of (plain_run say start commands units)

-- bytes spell a script, and this is the text of its run
abbrev pub IsTextOf : Text → ℕ → Text → Type 0
IsTextOf bytes units text = (commands : List Tree) × (script_of bytes ≡ Ok commands) × (text ≡ run_text commands units)

-- this is the text of a legal journal that is a mix of an opening and sessions, of whose commands each had so many units
abbrev pub IsMixText : List (List Tree) → ℕ → Text → Type 0
IsMixText sessions units text = (j : List PlainEntry) × Legal j × Mix j sessions units × (text ≡ journal_text j)

-- bytes spell an opening and sessions, and this is such a text of them
abbrev pub IsMixOf : Text → ℕ → Text → Type 0
IsMixOf bytes units text = (sessions : List (List Tree)) × (sessions_of bytes ≡ Ok sessions) × IsMixText sessions units text

-- bytes spell a hierarchy, and this is the text of the orders and cycles of its classes
abbrev pub IsReportOf : Text → Text → Type 0
IsReportOf bytes text = (classes : List PlainClass) × (hierarchy_of bytes ≡ Ok classes) × (text ≡ plain_report classes)

-- bytes spell what the question asks of, and this text answers it
abbrev pub IsAnswer : Question → Text → Text → Type 0
IsAnswer (RunQuestion units) bytes text = IsTextOf bytes units text
IsAnswer (Share units) bytes text = IsMixOf bytes units text
IsAnswer (Check pace) bytes text = IsReportOf bytes text

-- no text that answers is longer than this
abbrev pub IsRoomFor : ℕ → Question → Text → Type 0
IsRoomFor room question bytes = (text : Text) → IsAnswer question bytes text → length text ≤ room

-- bytes spell what the question asks of
abbrev pub IsSpelled : Question → Text → Type 0
IsSpelled (RunQuestion units) bytes = (commands : List Tree) × (script_of bytes ≡ Ok commands)
IsSpelled (Share units) bytes = (sessions : List (List Tree)) × (sessions_of bytes ≡ Ok sessions)
IsSpelled (Check pace) bytes = (classes : List PlainClass) × (hierarchy_of bytes ≡ Ok classes)

-- bytes don't spell what the question asks of, and this is the word for it
abbrev pub IsRefused : Question → Text → Refusal → Type 0
IsRefused (RunQuestion units) bytes e = script_of bytes ≡ Err e
IsRefused (Share units) bytes e = sessions_of bytes ≡ Err e
IsRefused (Check pace) bytes e = hierarchy_of bytes ≡ Err e

-- what the replies to the commands of a seed add up to: a new plain machine runs them, each with 10,000 units
abbrev pub generation_text : ℕ → ℕ → Text
generation_text seed count = summary (plain_run say start (generated seed count) 10000).replies

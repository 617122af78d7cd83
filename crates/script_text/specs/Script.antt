-- The commands that the bytes of a script spell, or why they spell none.
use Rattle.script_text.specs.Below.{ℕ, List, ok_or, Result, Ok, Err, map, Data, null, boolean, number, string, array, object, Items, no_items, item, Command, Tree, tree_of}
use Rattle.script_text.specs.declared.json_text.error.ScriptError.{ScriptError}
use Rattle.script_text.specs.declared.json_text.error.ScriptError.TheVariants.{NoCommand, Shape}
use Rattle.script_text.specs.JsonText.Json.{json_of}
use Rattle.script_text.specs.Forms.{exprs_of}

-- at least one expression, and each is a command
unfoldable pub commands_in : Items → Result (List Tree) ScriptError
commands_in no_items = Err NoCommand
commands_in (item d ds) = ok_or (exprs_of (item d ds)) Shape

-- a script is an array of commands
unfoldable pub commands_of : Data → Result (List Tree) ScriptError
commands_of (array ds) = commands_in ds
commands_of null = Err Shape
commands_of (boolean b) = Err Shape
commands_of (number n) = Err Shape
commands_of (string s) = Err Shape
commands_of (object ms) = Err Shape

-- the refusal of the text, or what its value spells
unfoldable pub told_by : Result Data ScriptError → Result (List Tree) ScriptError
told_by (Err e) = Err e
told_by (Ok d) = commands_of d

-- the commands that the bytes spell, or the first refusal that holds
unfoldable pub script_of : List ℕ → Result (List Tree) ScriptError
script_of bytes = told_by (json_of bytes)

-- the expressions of commands, as trees
abbrev pub command_trees : List Command → List Tree
command_trees cs = map (λ c. tree_of c.expr) cs

-- The sessions that the bytes of a text spell, or why they spell none.
use Rattle.script_text.specs.Below.{ℕ, suc, leb, List, [], Bool, true, false, Option, Some, ok_or, Result, Ok, Err, map, Vec, Global, Data, null, boolean, number, string, array, object, Items, no_items, item, Command, Tree}
use Rattle.std.specs.Prelude.{◌&&◌, ◌||◌, ◌∷◌, if◌then◌else◌}
use Rattle.script_text.specs.declared.json_text.error.ScriptError.{ScriptError}
use Rattle.script_text.specs.declared.json_text.error.ScriptError.TheVariants.{NoCommand, Shape}
use Rattle.script_text.specs.JsonText.Json.{json_of}
use Rattle.script_text.specs.JsonText.Texts.{of_two}
use Rattle.script_text.specs.Forms.{list_of}
use Rattle.script_text.specs.Script.{command_trees}

-- whether a value is an empty array
unfoldable pub is_empty_array : Data → Bool
is_empty_array (array no_items) = true
is_empty_array (array (item d ds)) = false
is_empty_array null = false
is_empty_array (boolean b) = false
is_empty_array (number n) = false
is_empty_array (string s) = false
is_empty_array (object ms) = false

-- whether one of them is an empty array
unfoldable pub any_empty : Items → Bool
any_empty no_items = false
any_empty (item d ds) = is_empty_array d || any_empty ds

-- whether an item past the first is an empty array: a session without a command
unfoldable pub lacks_command : Items → Bool
lacks_command no_items = false
lacks_command (item d ds) = any_empty ds

-- how many items there are
unfoldable pub count_in : Items → ℕ
count_in no_items = 0
count_in (item d ds) = suc (count_in ds)

-- an opening and 1 to 8 sessions are so many
abbrev pub are_few : ℕ → Bool
are_few count = leb 2 count && leb count 9

-- each item is an array of expressions
unfoldable pub lists_in : Items → Option (List (List Tree))
lists_in no_items = Some []
lists_in (item d ds) = of_two ◌∷◌ (list_of d) (lists_in ds)

-- no session without a command, then as many lists of expressions as may be
unfoldable pub sessions_in : Items → Result (List (List Tree)) ScriptError
sessions_in ds =
    if lacks_command ds then Err NoCommand
    else (if are_few (count_in ds) then ok_or (lists_in ds) Shape else Err Shape)

-- sessions are an array of lists of commands
unfoldable pub sessions_by : Data → Result (List (List Tree)) ScriptError
sessions_by (array ds) = sessions_in ds
sessions_by null = Err Shape
sessions_by (boolean b) = Err Shape
sessions_by (number n) = Err Shape
sessions_by (string s) = Err Shape
sessions_by (object ms) = Err Shape

-- the refusal of the text, or what its value spells
unfoldable pub sessions_told : Result Data ScriptError → Result (List (List Tree)) ScriptError
sessions_told (Err e) = Err e
sessions_told (Ok d) = sessions_by d

-- the opening and the sessions that the bytes spell, or the first refusal that holds
unfoldable pub sessions_of : List ℕ → Result (List (List Tree)) ScriptError
sessions_of bytes = sessions_told (json_of bytes)

-- the expressions of the commands of each session, as trees
abbrev pub session_trees : List (Vec Command Global) → List (List Tree)
session_trees sessions = map (λ s. command_trees s.items) sessions

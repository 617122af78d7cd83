-- The JSON value of a text, or why it is none.
use Rattle.script_text.specs.Below.{ℕ, codes, List, Bool, false, not, Option, Some, None, is_some, Result, Ok, Err, is_utf8, Data, null, boolean, number, string, array, object, Items, no_items, item, Members, no_members, member, as_i64, read}
use Rattle.std.specs.Prelude.{◌||◌, if◌then◌else◌}
use Rattle.script_text.specs.declared.json_text.error.ScriptError.{ScriptError}
use Rattle.script_text.specs.declared.json_text.error.ScriptError.TheVariants.{NotJson, Number, NoCommand, Shape}

-- the JSON value of a text in UTF-8
unfoldable pub value_of : List ℕ → Option Data
value_of bytes = if is_utf8 bytes then read bytes else None

unfoldable mutual
  -- whether a number in the value, however deep, is no integer of 64 bits
  pub has_bad_number : Data → Bool
  has_bad_number null = false
  has_bad_number (boolean b) = false
  has_bad_number (number n) = not (is_some (as_i64 n))
  has_bad_number (string s) = false
  has_bad_number (array ds) = any_bad ds
  has_bad_number (object ms) = any_bad_member ms

  pub any_bad : Items → Bool
  any_bad no_items = false
  any_bad (item d ds) = has_bad_number d || any_bad ds

  pub any_bad_member : Members → Bool
  any_bad_member no_members = false
  any_bad_member (member k d ms) = has_bad_number d || any_bad_member ms

-- no value, then a bad number
unfoldable pub checked : Option Data → Result Data ScriptError
checked None = Err NotJson
checked (Some d) = if has_bad_number d then Err Number else Ok d

-- the value that the bytes spell, or the first refusal that holds
unfoldable pub json_of : List ℕ → Result Data ScriptError
json_of bytes = checked (value_of bytes)

-- the word of a refusal
unfoldable pub error_word : ScriptError → List ℕ
error_word NotJson = codes "NotJson"
error_word Number = codes "Number"
error_word NoCommand = codes "NoCommand"
error_word Shape = codes "Shape"

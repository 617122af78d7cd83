-- What a fault of reading is.
use Rattle.script_text.specs.declared.json_text.items.Unread.{Unread}
use Rattle.script_text.specs.declared.json_text.items.Unread.TheVariants as unread
use Rattle.script_text.specs.declared.json_text.error.ScriptError.TheVariants.{Shape}
use Rattle.script_text.specs.declared.json_text.error.ScriptFault.{ScriptFault}
use Rattle.script_text.specs.declared.json_text.error.ScriptFault.TheVariants as fault

-- memory could not be had
abbrev pub the_memory : ScriptFault
the_memory = fault.OutOfMemory (record {})

-- what stands for it in a fault of a script
abbrev pub fault_of : Unread → ScriptFault
fault_of unread.Shape = fault.Script Shape
fault_of unread.OutOfMemory = the_memory

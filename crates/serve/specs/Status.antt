-- The exit status of each way to end, and the word for it.
use Rattle.serve.specs.Below.{ℕ, codes, Option, Some, None, Text, error_word}
use Rattle.serve.specs.declared.status.Status.{Status}
use Rattle.serve.specs.declared.status.Status.TheVariants.{Done, Usage, Script, ReadFault, WriteFault, OutOfMemory, TooLarge}

abbrev pub exit_of : Status → ℕ
exit_of Done = 0
exit_of Usage = 2
exit_of (Script e) = 3
exit_of ReadFault = 4
exit_of WriteFault = 5
exit_of OutOfMemory = 6
exit_of TooLarge = 7

-- all was written, or memory could not be had
abbrev pub IsDoneOrPoor : Status → Type 0
IsDoneOrPoor Done = Unit {0}
IsDoneOrPoor OutOfMemory = Unit {0}
IsDoneOrPoor _ = ⊥

-- the input was read to its end
abbrev pub HasReadAll : Status → Type 0
HasReadAll Done = Unit {0}
HasReadAll (Script e) = Unit {0}
HasReadAll WriteFault = Unit {0}
HasReadAll _ = ⊥

-- all was written, the sink failed, or memory could not be had
abbrev pub IsWriteEnd : Status → Type 0
IsWriteEnd Done = Unit {0}
IsWriteEnd WriteFault = Unit {0}
IsWriteEnd OutOfMemory = Unit {0}
IsWriteEnd _ = ⊥

-- the word that standard error is told, where the call did not end well
unfoldable pub word_of : Status → Option Text
word_of Done = None
word_of Usage = Some (codes "Usage")
word_of (Script e) = Some (error_word e)
word_of ReadFault = Some (codes "ReadFault")
word_of WriteFault = Some (codes "WriteFault")
word_of OutOfMemory = Some (codes "OutOfMemory")
word_of TooLarge = Some (codes "TooLarge")

-- What is written for a journal.
use Rattle.shared_vm.specs.Below.{List, codes, decimal, flat_map, Text, classes_text, end_of_line, reply_lines}
use Rattle.std.specs.Prelude.{◌++◌}
use Rattle.shared_vm.specs.Journal.{PlainEntry, replay}

-- the line of the seat, and the lines of the reply
abbrev pub entry_lines : PlainEntry → Text
entry_lines e = codes "seat " ++ decimal e.seat ++ end_of_line ++ reply_lines e.reply

abbrev pub entries_text : List PlainEntry → Text
entries_text j = flat_map entry_lines j

-- its entries, and then the classes that scripts made in the world that it leaves
abbrev pub journal_text : List PlainEntry → Text
journal_text j = entries_text j ++ classes_text (replay j)

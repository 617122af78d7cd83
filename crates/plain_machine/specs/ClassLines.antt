-- What is written for a class.
use Rattle.plain_machine.specs.Below.{Bool, List, [], map, codes, flat_map, Text}
use Rattle.std.specs.Prelude.{◌++◌, if◌then◌else◌}
use Rattle.plain_machine.specs.Escapes.{escaped}
use Rattle.plain_machine.specs.Lines.{joined, end_of_line}

abbrev pub class_head : Text → Text
class_head name = codes "class " ++ escaped name ++ codes ": "

abbrev pub slots_head : Text → Text
slots_head name = codes "slots " ++ escaped name ++ codes ":"

-- a filled slot, by its printed name
abbrev pub slot_word : Text → Text
slot_word slot = codes " " ++ slot

-- a class: the names along its linearisation, and the printed names of its filled slots
abbrev pub class_lines : Text → List Text → List Text → Text
class_lines name line slots =
    class_head name ++ joined (codes ", ") (map escaped line) ++ end_of_line ++ slots_head name ++ flat_map slot_word slots ++ end_of_line

-- one name more along a linearisation that is being written
abbrev pub class_member : Bool → Text → Text
class_member is_first name = (if is_first then [] else codes ", ") ++ escaped name

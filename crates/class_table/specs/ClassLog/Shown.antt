-- The classes that a list of changes shows.
use Rattle.class_table.specs.Below.{Bool, cond, List, [], fold, bit_and, PyStrInterned, is_same_name, heap_type, Class, Classes, heap_class, any_has_dict, with_class, with_class_attr, without_class_attr, with_bases}
use Rattle.std.specs.Prelude.{◌==◌}
use Rattle.class_table.specs.Start.{start_classes}
use Rattle.class_table.specs.Keys.{table_keys}
use Rattle.class_table.specs.OneBase.{says_so, static_flags}
use Rattle.class_table.specs.ClassLog.Change.{Made, Change, Make, SetOwn, DelOwn, SetBases}

-- a script makes the class: else it is a static class
abbrev pub is_of_script : Made → Bool
is_of_script m = bit_and m.flags heap_type == heap_type

-- a static class. It gives its objects a dict where its base does, and brings one where the flags that are given say so
abbrev pub static_class : Classes PyStrInterned → Made → Class PyStrInterned
static_class t m = record { name = m.name; number = m.class; bases = m.bases; attrs = m.attrs; members = []; flags = static_flags m.flags (any_has_dict t m.bases); brings = says_so m.flags }

-- the class that is made
abbrev pub made_class : Classes PyStrInterned → Made → Class PyStrInterned
made_class t m = cond (is_of_script m) (heap_class table_keys t m.name m.class m.bases m.attrs m.slots) (static_class t m)

-- the classes after a change
abbrev pub changed : Classes PyStrInterned → Change → Classes PyStrInterned
changed t (Make m) = with_class t (made_class t m)
changed t (SetOwn c n v) = with_class_attr is_same_name t c n v
changed t (DelOwn c n) = without_class_attr is_same_name t c n
changed t (SetBases c bs) = with_bases t c bs

-- the classes before any change: those of a new world
unfoldable pub first_classes : Classes PyStrInterned
first_classes = start_classes

-- the classes after these changes, one after the other
abbrev pub shown : List Change → Classes PyStrInterned
shown changes = fold changed first_classes changes

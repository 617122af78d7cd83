-- The built-in classes: their places, names, bases and flags. The fixed objects, and how many there are of both.
use Rattle.py_node.specs.Below.{ℕ, Bool, true, false, List, [], map, Option, None, option_map, slice_index_or}
use Rattle.std.specs.Prelude.{◌+◌, ◌^◌}
use denote.Enum.Declared.{tag_of}
use Rattle.py_node.specs.contracts.built_in.BuiltIn.{the_type}
use Rattle.py_node.specs.declared.built_in.BuiltIn.{BuiltIn}
use Rattle.py_node.specs.declared.built_in.TheConstants.{BUILT_INS}
use Rattle.py_node.specs.Tree.{Text}

-- all of them, in order
unfoldable pub all_built_ins : List BuiltIn
all_built_ins = map (λ r. r.0) BUILT_INS

-- their names
unfoldable pub built_in_names : List Text
built_in_names = map (λ r. r.1.now) BUILT_INS

-- their bases
unfoldable pub built_in_bases : List (Option BuiltIn)
built_in_bases = map (λ r. r.2) BUILT_INS

-- their flags
unfoldable pub built_in_flags : List ℕ
built_in_flags = map (λ r. r.3.0) BUILT_INS

-- how many they are
abbrev pub built_in_count : ℕ
built_in_count = 23

-- where the class stands among all classes
unfoldable pub place_of : BuiltIn → ℕ
place_of = tag_of the_type

unfoldable pub name_of : BuiltIn → Text
name_of b = slice_index_or built_in_names (place_of b) []

-- only `object` has none
unfoldable pub base_of : BuiltIn → Option ℕ
base_of b = option_map place_of (slice_index_or built_in_bases (place_of b) None)

-- scripts can change none of the built-in classes
unfoldable pub flags_of : BuiltIn → ℕ
flags_of b = slice_index_or built_in_flags (place_of b) 0

-- the flags of classes: scripts can't change the class; a script made it; it can be a base; it marks descriptors of methods; it gives its objects a dict
abbrev pub immutable_type : ℕ
immutable_type = 2 ^ 8

abbrev pub heap_type : ℕ
heap_type = 2 ^ 9

abbrev pub base_type : ℕ
base_type = 2 ^ 10

abbrev pub method_descriptor : ℕ
method_descriptor = 2 ^ 17

abbrev pub has_dict : ℕ
has_dict = 2 ^ 40

-- the flags of a class that a script makes: its objects have a dict or not
abbrev pub heap_flags : Bool → ℕ
heap_flags false = heap_type + base_type
heap_flags true = heap_type + base_type + has_dict

-- the fixed objects: None, NotImplemented, False and True stand behind the classes
abbrev pub fixed_none : ℕ
fixed_none = 23

abbrev pub fixed_not_implemented : ℕ
fixed_not_implemented = 24

abbrev pub fixed_false : ℕ
fixed_false = 25

abbrev pub fixed_true : ℕ
fixed_true = 26

-- how many nodes the built-in classes and the fixed objects are
abbrev pub fixed_node_count : ℕ
fixed_node_count = 27

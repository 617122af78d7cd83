-- Classes with one base and no members, which no script makes.
use Rattle.class_table.specs.Below.{ℕ, Bool, true, false, cond, List, [], Option, Some, None, bit_and, bit_or, Cause, NotBaseType, PyObjectRef, heap_type, Text, Class, Classes, class_at}
use Rattle.std.specs.Prelude.{◌-◌, ◌^◌, ◌==◌, ◌∷◌}
use Rattle.py_node.specs.BuiltIns.{has_dict as dict_flag}
use Rattle.class_table.specs.Refused.{is_base_at}

-- why a class may not have a base alone: the base may have no subclasses
abbrev pub refused_single : {K : Type 0} → Classes K → ℕ → Option Cause
refused_single t b = cond (is_base_at (class_at t b)) None (Some NotBaseType)

-- a class with one base
abbrev pub single_class : {K : Type 0} → Text → ℕ → ℕ → List (K × PyObjectRef) → ℕ → Bool → Class K
single_class name number base attrs flags brings = record { name = name; number = number; bases = base ∷ []; attrs = attrs; members = []; flags = flags; brings = brings }

-- whether flags say that a class gives its objects a dict. A static class brings one where those that are given say so
abbrev pub says_so : ℕ → Bool
says_so flags = bit_and flags dict_flag == dict_flag

-- the flags of a static class: those that are given, but that no script makes it, and that it gives its objects a dict where its base does
abbrev pub static_flags : ℕ → Bool → ℕ
static_flags flags false = bit_and flags (2 ^ 64 - 1 - heap_type)
static_flags flags true = bit_or (bit_and flags (2 ^ 64 - 1 - heap_type)) dict_flag

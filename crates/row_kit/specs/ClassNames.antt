-- What classes are called, in their modules.
use Rattle.row_kit.specs.Below.{ℕ, Bool, true, false, cond, codes, Option, Some, None, List, [], PyObjectRef, known_text, Text, own_of, Datum, AGetSet, AText, PlainWorld, datum_at, is_text, name_at}
use Rattle.std.specs.Prelude.{◌++◌}
use Rattle.py_node.specs.declared.known.Known.TheVariants as known
use Rattle.class_model.specs.Class.{class_at as class_numbered}

abbrev pub text_of : Option Datum → Option Text
text_of (Some (AText x)) = Some x
text_of _ = None

abbrev pub is_getset : Option Datum → Bool
is_getset (Some (AGetSet c x get set)) = true
is_getset _ = false

abbrev pub unless_getset : PlainWorld → Option PyObjectRef → Option PyObjectRef
unless_getset w None = None
unless_getset w (Some v) = cond (is_getset (datum_at w v)) None (Some v)

-- what a class is itself given under a name. What reads the name of other classes is not meant
abbrev pub given : PlainWorld → ℕ → Text → Option PyObjectRef
given w c x = unless_getset w (own_of (λ y. is_text y x) (class_numbered w.classes c))

-- the text that is given, or else this one; nothing where what is given is no text
abbrev pub text_or : PlainWorld → Option PyObjectRef → Text → Option Text
text_or w None x = Some x
text_or w (Some v) x = text_of (datum_at w v)

-- the name of a class within its module
abbrev pub qualname : PlainWorld → ℕ → Option Text
qualname w c = text_or w (given w c (known_text known.Qualname)) (name_at w.classes c)

abbrev pub builtins : Text
builtins = codes "builtins"

-- its module
abbrev pub module_of : PlainWorld → ℕ → Option Text
module_of w c = text_or w (given w c (known_text known.Module)) builtins

-- the module and the name within it, or else the name alone: a module is named that is a text other than `builtins`
abbrev pub in_module : Option Text → Text → Text → Text
in_module None q x = x
in_module (Some m) q x = cond (is_text m builtins) x (m ++ codes "." ++ q)

abbrev pub or_nothing : Option (List ℕ) → List ℕ
or_nothing None = []
or_nothing (Some cs) = cs

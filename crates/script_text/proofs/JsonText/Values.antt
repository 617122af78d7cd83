-- The value of a text.
use Rattle.script_text.proofs.Below.{ℕ, List, Bool, true, false, cond, Some, None, refl, is_utf8-from_IsUtf8, IsUtf8-from_is_utf8, IsUtf8, is_utf8, Data, read, Unread, ScriptError, Shape, Script, fault_of, value_of}
use Rattle.std.proofs.Common.{◌≡◌}
use Rattle.script_text.specs.declared.json_text.items.Unread.TheVariants as unread

pub value-of_text : (bytes : List ℕ) (d : Data) → IsUtf8 bytes → read bytes ≡ Some d → value_of bytes ≡ Some d
unfolding value_of
value-of_text bytes d text reads = rw (is_utf8-from_IsUtf8 bytes text) reads

none-by : (bytes : List ℕ) (b : Bool) → is_utf8 bytes ≡ b → (IsUtf8 bytes → read bytes ≡ None) → cond b (read bytes) None ≡ None
none-by bytes true e none = none (IsUtf8-from_is_utf8 bytes e)
none-by bytes false e none = refl

pub value-of_none : (bytes : List ℕ) → (IsUtf8 bytes → read bytes ≡ None) → value_of bytes ≡ None
unfolding value_of
value-of_none bytes none = none-by bytes (is_utf8 bytes) refl none

-- a fault that is a refusal comes of a shape
pub shape-from_fault : (u : Unread) (e : ScriptError) → fault_of u ≡ Script e → (u ≡ unread.Shape) × (e ≡ Shape)
shape-from_fault unread.Shape e h = (refl, cc)
shape-from_fault unread.OutOfMemory e h = absurd cc

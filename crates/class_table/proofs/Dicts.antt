-- What the flags of a class say of the dicts of its objects.
use Rattle.class_table.proofs.Below.{ℕ, Bool, true, false, refl, sym, ap, ◌∙◌, arith, bit_and, and_or_self, and_not_bit, heap_type, heap_flags, says_so, static_flags}
use Rattle.std.proofs.Common.{◌≡◌, ◌-◌, ◌^◌, ◌||◌}
use Rattle.std.specs.Prelude.{◌==◌}
use Rattle.py_node.specs.BuiltIns.{has_dict as dict_flag}

-- those of a class that a script makes
pub heap-says : (dict : Bool) → says_so (heap_flags dict) ≡ dict
heap-says true = refl
heap-says false = refl

pub or-no : (a : Bool) → (a || false) ≡ a
or-no true = refl
or-no false = refl

or-yes : (a : Bool) → (a || true) ≡ true
or-yes true = refl
or-yes false = refl

-- those of a static class
stripped : (flags : ℕ) → bit_and (bit_and flags (2 ^ 64 - 1 - heap_type)) dict_flag ≡ bit_and flags dict_flag
stripped flags = and_not_bit flags (2 ^ 64 - 1) heap_type 40 refl (omega arith) (omega arith) refl

pub static-says : (flags : ℕ) (dict : Bool) → says_so (static_flags flags dict) ≡ (says_so flags || dict)
static-says flags true =
    ap (λ n. n == dict_flag) (and_or_self dict_flag (bit_and flags (2 ^ 64 - 1 - heap_type))) ∙ sym (or-yes (says_so flags))
static-says flags false = ap (λ n. n == dict_flag) (stripped flags) ∙ sym (or-no (says_so flags))

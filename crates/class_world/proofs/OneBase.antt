-- Classes with one base.
use Rattle.class_world.proofs.Below.{ℕ, Bool, true, false, [], cond, Some, None, refl, sym, ap, ◌∙◌, subst, arith, option_map, bit_and, bit_or, and_self, and_assoc, and_or_apart, and-not_self, heap_flags, heap_type, method_descriptor, NotBaseType, PyStrInterned, Text, Class, is_class, is_base_at, refused_single, says_so, static_flags, IsGivenTo, IsGiven, Held, Reading, plain, Holds, IsClass, AreNames, flags_at, is_marked_heap}
use Rattle.std.proofs.Common.{◌≡◌, ◌-◌, ◌^◌}
use Rattle.std.specs.Prelude.{◌&&◌, ◌==◌}
use Rattle.py_node.specs.BuiltIns.{has_dict as dict_flag}
use Rattle.class_world.proofs.OfClasses.{class-seen}

pub class-there : (w : Held) (c : ℕ) → Holds w (IsClass c) → is_class w.classes c ≡ true
unfolding Holds
class-there w c h = h

pub no-names : (w : Held) → Holds w (AreNames [])
unfolding Holds
no-names w = λ k d l. absurd (omega (arith, l))

-- the flags of a static class don't say that a script made it
stripped : (flags : ℕ) → bit_and (bit_and flags (2 ^ 64 - 1 - heap_type)) heap_type ≡ 0
stripped flags = and-not_self flags (2 ^ 64 - 1) heap_type heap_type refl (omega arith) refl

no-heap : (flags : ℕ) (dict : Bool) → bit_and (static_flags flags dict) heap_type ≡ 0
no-heap flags false = stripped flags
no-heap flags true = and_or_apart heap_type (bit_and flags (2 ^ 64 - 1 - heap_type)) dict_flag refl ∙ stripped flags

pub static-unmarked : (flags : ℕ) (dict : Bool) → is_marked_heap (static_flags flags dict) ≡ false
static-unmarked flags dict =
    ap (λ n. (n == heap_type) && (bit_and (static_flags flags dict) method_descriptor == method_descriptor)) (no-heap flags dict)

-- flags without that of scripts stay as they are where it is taken out
stripped-twice : (flags : ℕ) → bit_and (bit_and flags (2 ^ 64 - 1 - heap_type)) (2 ^ 64 - 1 - heap_type) ≡ bit_and flags (2 ^ 64 - 1 - heap_type)
stripped-twice flags = and_assoc (2 ^ 64 - 1 - heap_type) flags (2 ^ 64 - 1 - heap_type) ∙ ap (bit_and flags) (and_self (2 ^ 64 - 1 - heap_type))

static-twice : (flags : ℕ) (dict : Bool) → static_flags flags dict ≡ static_flags (static_flags flags false) dict
static-twice flags false = sym (stripped-twice flags)
static-twice flags true = ap (λ n. bit_or n dict_flag) (sym (stripped-twice flags))

-- and say of dicts what they said
stripped-says : (flags : ℕ) → says_so flags ≡ says_so (static_flags flags false)
stripped-says flags =
    let kept : bit_and (2 ^ 64 - 1 - heap_type) dict_flag ≡ dict_flag = refl in
    ap (λ n. n == dict_flag) (sym (and_assoc dict_flag flags (2 ^ 64 - 1 - heap_type) ∙ ap (bit_and flags) kept))

-- a static class follows from the flags that are given but for that of scripts, and a script's class from those of scripts
pub static-given : (flags : ℕ) (dict : Bool) → IsGiven (static_flags flags false) (static_flags flags dict) (says_so flags) dict
static-given flags dict =
    subst (λ b. IsGivenTo b (static_flags flags false) (static_flags flags dict) (says_so flags) dict) (sym (ap (λ n. n == heap_type) (no-heap flags false)))
    (static-twice flags dict, stripped-says flags)

pub script-given : (flags : ℕ) (dict : Bool) → flags ≡ heap_flags true → IsGiven flags flags true dict
script-given flags dict e = subst (λ n. IsGiven n n true dict) (sym e) (refl, refl, refl)

-- what is seen of the classes by numbers is seen by texts
module _ (w now : Held) (v : w ≡ now) (t : Reading) (c : ℕ) where
  pub single-seen : refused_single (plain t now).classes c ≡ refused_single w.classes c
  single-seen = ap (λ b. cond b None (Some NotBaseType)) (class-seen w now v t is_base_at is_base_at refl (λ k. refl) c)

  pub flags-seen : flags_at (plain t now).classes c ≡ flags_at w.classes c
  flags-seen = class-seen w now v t (option_map (λ (k : Class Text). k.flags)) (option_map (λ (k : Class PyStrInterned). k.flags)) refl (λ k. refl) c

-- Which classes give their objects a dict.
use Rattle.class_model.specs.Below.{ℕ, zero, suc, Bool, true, false, not, List, [], filter, length, Option, Some, None, list_any, PyObjectRef, Dict, has_dict as dict_flag, heap_flags, Text}
use Rattle.std.specs.Prelude.{◌||◌, ◌∷◌}
use Rattle.class_model.specs.Class.{Class, Classes, class_at, has_flag}
use Rattle.class_model.specs.Slot.{Keys}

-- a class gives its objects a dict where it brings one or one of its bases gives one, for a class whose bases go less than n deep
unfoldable pub gives_within : {K : Type 0} → Classes K → ℕ → Option (Class K) → Bool
gives_within t zero k = false
gives_within t (suc n) None = false
gives_within t (suc n) (Some k) = k.brings || list_any (λ b. gives_within t n (class_at t b)) k.bases

-- whether a class gives its objects a dict
abbrev pub gives_dict : {K : Type 0} → Classes K → ℕ → Bool
gives_dict t c = gives_within t (length t) (class_at t c)

-- its flags say so too: this is the same of the classes of a machine

abbrev pub says_dict : {K : Type 0} → Option (Class K) → Bool
says_dict None = false
says_dict (Some k) = has_flag dict_flag k

abbrev pub has_dict : {K : Type 0} → Classes K → ℕ → Bool
has_dict t c = says_dict (class_at t c)

abbrev pub any_has_dict : {K : Type 0} → Classes K → List ℕ → Bool
any_has_dict t [] = false
any_has_dict t (b ∷ bs) = has_dict t b || any_has_dict t bs

-- whether a class brings a dict, or one of some bases gives one
abbrev pub dict_with : {K : Type 0} → Classes K → Option (Class K) → List ℕ → Bool
dict_with t None bs = false
dict_with t (Some k) bs = k.brings || any_has_dict t bs

-- whether two answers are one
abbrev pub alike : Bool → Bool → Bool
alike true b = b
alike false b = not b

-- whether a class gives a dict under other bases exactly where it does now
abbrev pub keeps_dict : {K : Type 0} → Classes K → ℕ → List ℕ → Bool
keeps_dict t c bs = alike (dict_with t (class_at t c) bs) (has_dict t c)

-- the same as under other bases, with its own
abbrev pub has_its_dict : {K : Type 0} → Classes K → Option (Class K) → Bool
has_its_dict t None = false
has_its_dict t (Some k) = k.brings || any_has_dict t k.bases

-- what `__slots__` say, where a class has some: the names of its members, which are all but `__dict__`. It brings a dict where `__dict__` is among them, and where it has none

abbrev pub is_dict : {K : Type 0} → Keys K → K → Bool
is_dict keys n = keys.same n (keys.special Dict)

abbrev pub slot_members : {K : Type 0} → Keys K → Option (List K) → List K
slot_members keys None = []
slot_members keys (Some ns) = filter (λ n. not (is_dict keys n)) ns

abbrev pub slots_bring : {K : Type 0} → Keys K → Option (List K) → Bool
slots_bring keys None = true
slots_bring keys (Some ns) = list_any (is_dict keys) ns

-- a class that a script makes
abbrev pub heap_class : {K : Type 0} → Keys K → Classes K → Text → ℕ → List ℕ → List (K × PyObjectRef) → Option (List K) → Class K
heap_class keys t name number bases attrs slots = record {
  name = name;
  number = number;
  bases = bases;
  attrs = attrs;
  members = slot_members keys slots;
  flags = heap_flags (slots_bring keys slots || any_has_dict t bases);
  brings = slots_bring keys slots;
}

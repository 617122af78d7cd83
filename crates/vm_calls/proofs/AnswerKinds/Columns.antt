-- What stands in a slot of a class is a native of a built-in class, or no native.
use Rattle.vm_calls.proofs.Below.{ℕ, Bool, true, false, cond, List, [], Option, Some, None, not, PyObjectRef, BuiltIn, SlotId, SlotEntry, Native, Wrapper, Unhashable, Sort, ByItself, BySequence, ByMapping, Nearest, all_built_ins, own_attrs, sort_of, Text, Classes, first_along, lin, wrapped, heap_entry, is_heap_at, given_entry, is_by_itself, entry, read_along, slot, entry_among, natives_of, PlainWorld, text_keys, class_at as class_of, slot_at, Kind, kind_of_native}
use Rattle.std.proofs.Common.{◌∷◌, option_and_then, slice_get, ◌&&◌}
use Rattle.class_model.specs.Class.{class_at, or_else}
use Rattle.vm_calls.proofs.AnswerKinds.Base.{So, within}

-- a native, if there is one, answers of one of these kinds
abbrev pub gives_in : Kind → Option SlotEntry → Bool
gives_in j (Some (Native n)) = within (kind_of_native n) j
gives_in j e = true

-- so do all that the built-in classes have in a slot
pub record Column (j : Kind) (s : SlotId) : Type 0 where
  pub gives : (b : BuiltIn) → So (gives_in j (entry_among b s (own_attrs b)))

module _ (j : Kind) (s : SlotId) (column : Column j s) where
  abbrev Has : Option SlotEntry → Type 0
  Has e = So (gives_in j e)

  in-row : (b : Option BuiltIn) → Has (option_and_then (λ b. entry_among b s (own_attrs b)) b)
  in-row None = tt
  in-row (Some b) = column.gives b

  native-in : (c : ℕ) → Has (natives_of c s)
  unfolding natives_of
  native-in c = in-row (slice_get all_built_ins c)

  wrapped-in : (v : Option PyObjectRef) → Has (wrapped s v)
  wrapped-in None = tt
  wrapped-in (Some v) = either-in _
    where
      either-in : (b : Bool) → Has (Some (cond b Unhashable (Wrapper s)))
      either-in true = tt
      either-in false = tt

  either-has : (b : Bool) (x y : Option SlotEntry) → Has x → Has y → Has (cond b x y)
  either-has true x y p q = p
  either-has false x y p q = q

  some-has : {A : Type 0} (o : Option A) (of : A → Option SlotEntry) → ((x : A) → Has (of x)) → Has (option_and_then of o)
  some-has None of p = tt
  some-has (Some x) of p = p x

  along-has : (of : ℕ → Option SlotEntry) → ((c : ℕ) → Has (of c)) → (line : List ℕ) → Has (first_along of line)
  along-has of p [] = tt
  along-has of p (c ∷ line) = or-has (of c) (p c) (first_along of line) (along-has of p line)
    where
      or-has : (x : Option SlotEntry) → Has x → (y : Option SlotEntry) → Has y → Has (or_else x y)
      or-has None h y k = k
      or-has (Some x) h y k = h

  given-has : (t : Classes Text) (c : ℕ) → Has (given_entry text_keys natives_of t s c)
  given-has t c = either-has (is_heap_at (class_at t c)) _ _ (some-has (lin t c) (λ line. heap_entry text_keys t c line s) (λ line. wrapped-in _)) (native-in c)

  entry-has : (t : Classes Text) (c : ℕ) → Has (entry text_keys natives_of t c s)
  entry-has t c =
      either-has (not (is_heap_at (class_at t c)) && is_by_itself (sort_of s)) _ _
      (some-has (lin t c) (first_along (given_entry text_keys natives_of t s)) (λ line. along-has (given_entry text_keys natives_of t s) (given-has t) line)) (given-has t c)

  read-has : (t : Classes Text) (sort : Sort) (c : ℕ) (line : List ℕ) → Has (read_along (entry text_keys natives_of t) sort c line s)
  read-has t ByItself c line = entry-has t c
  read-has t BySequence c line = some-has _ (λ d. entry text_keys natives_of t d s) (entry-has t)
  read-has t ByMapping c line = some-has _ (λ d. entry text_keys natives_of t d s) (entry-has t)
  read-has t Nearest c line = along-has (λ d. entry text_keys natives_of t d s) (entry-has t) line

  pub slot-gives : (t : Classes Text) (c : ℕ) → So (gives_in j (slot text_keys natives_of t c s))
  slot-gives t c = some-has (lin t c) (λ line. read_along (entry text_keys natives_of t) (sort_of s) c line s) (read-has t (sort_of s) c)

  pub slot-at-gives : (w : PlainWorld) (r : PyObjectRef) → So (gives_in j (slot_at w r s))
  slot-at-gives w r = some-has (class_of w r) (λ c. slot text_keys natives_of w.classes c s) (slot-gives w.classes)

-- What callers see of a machine.
use Rattle.vm_eval.specs.Below.{ℕ, Bool, List, [], map, Option, Some, None, Result, Ok, Err, IsTrue, length, OutOfMemory, PyObjectRef, PyStrInterned, PyTypeRef, Text, ClassFault, text_keys, with_new_class, Held, heap_class, numbers, Reading, Reads, bindings, spelled, plain}
use Rattle.std.specs.Prelude.{◌≡◌, ◌∷◌}
use Rattle.class_table.specs.declared.fault.ClassFault.TheVariants as class_fault

-- its world, whether it has failed, and for how many frames it has room
pub record State : Type 0 where
  pub world : Held
  pub failed : Bool
  pub frames : ℕ

-- want of memory sets the mark, and nothing else does
abbrev pub MarkedBy : {T : Type 0} → State → State → Result T OutOfMemory → Type 0
MarkedBy old new (Ok x) = new.failed ≡ old.failed
MarkedBy old new (Err e) = IsTrue new.failed

-- the same, where a rule may also refuse
abbrev pub MarkedAs : {T : Type 0} → State → State → Result T ClassFault → Type 0
MarkedAs old new (Ok x) = new.failed ≡ old.failed
MarkedAs old new (Err (class_fault.Refused cause)) = new.failed ≡ old.failed
MarkedAs old new (Err (class_fault.RefusedAt cause c)) = new.failed ≡ old.failed
MarkedAs old new (Err class_fault.OutOfMemory) = IsTrue new.failed

-- the world has one more class, of a script
abbrev pub MadeHeap : Reading → Held → Held → ℕ → Text → List PyTypeRef → List (PyStrInterned × PyObjectRef) → Option (List Text) → Type 0
MadeHeap t old new metaclass name bases attrs slots =
    Reads t old → plain t new ≡ with_new_class (plain t old) metaclass (heap_class text_keys (plain t old).classes name (length (plain t old).nodes) (numbers bases) (bindings t attrs) slots)

-- members stand for `__slots__`, where there are some
abbrev pub member_texts : Reading → List PyStrInterned → Option (List Text)
member_texts t [] = None
member_texts t (x ∷ xs) = Some (map (spelled t) (x ∷ xs))

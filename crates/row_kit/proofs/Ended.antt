-- How something ends, and what follows of it.
use Rattle.py_node.specs.Stops.{Ended, IfRaised, sorted}
use Rattle.py_node.specs.declared.stop.Stop.{Stop}
use Rattle.py_node.specs.declared.stop.Stop.TheVariants as stop
use Rattle.row_kit.proofs.Below.{Ok, Err, IfOk, subst, Result, Raised as Fault}
use Rattle.std.proofs.Common.{◌≡◌}

-- what follows of each end, follows of how something ended
pub ended-map : {A : Type 0} (P Q : Result A Fault → Type 0) (r : Result A Stop) → ((x : Result A Fault) → P x → Q x) → Ended r P → Ended r Q
ended-map P Q (Ok x) f h = f (Ok x) h
ended-map P Q (Err (stop.Raised x)) f h = f (Err x) h
ended-map P Q (Err stop.OutOfMemory) f h = tt

-- what holds of how something ended holds of what was caught
pub sorted_ends : {A : Type 0} (r : Result A Stop) (x : Result A Fault) (P : Result A Fault → Type 0) → Ok x ≡ sorted r → Ended r P → P x
sorted_ends (Ok v) x P e h = let same : Ok v ≡ x = cc in subst P same h
sorted_ends (Err (stop.Raised f)) x P e h = let same : Err f ≡ x = cc in subst P same h
sorted_ends (Err stop.OutOfMemory) x P e h = cc

-- what holds of a value, where there is one, holds of one that was caught
pub sorted_ok : {A : Type 0} (r : Result A Stop) (v : A) (P : A → Type 0) → Ok (Ok v) ≡ sorted r → IfOk r P → P v
sorted_ok (Ok x) v P e h = let same : x ≡ v = cc in subst P same h
sorted_ok (Err (stop.Raised f)) v P e h = cc
sorted_ok (Err stop.OutOfMemory) v P e h = cc

-- what holds of a fault, where one was raised, holds of one that was caught
pub sorted_raised : {A : Type 0} (r : Result A Stop) (x : Fault) (P : Fault → Type 0) → Ok (Err x) ≡ sorted r → IfRaised r P → P x
sorted_raised (Ok v) x P e h = cc
sorted_raised (Err (stop.Raised f)) x P e h = let same : f ≡ x = cc in subst P same h
sorted_raised (Err stop.OutOfMemory) x P e h = cc

-- what ends with the fault of what it called, if that raised one
pub stop_ends : (A : Type 0) {B : Type 0} (e : Stop) (Q : Fault → Type 0) (P : Result B Fault → Type 0) → ((x : Fault) → Q x → P (Err x)) → IfRaised {T = A} (Err e) Q → Ended {T = B} (Err e) P
stop_ends A (stop.Raised x) Q P f h = f x h
stop_ends A stop.OutOfMemory Q P f h = tt

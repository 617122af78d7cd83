-- The tables of faults have a row for each kind and each cause.
use Rattle.py_node.proofs.Below.{true, refl, nat_lt, Kind, TypeError, Cause, DuplicateBase, kind_place, cause_place}
use Rattle.std.proofs.Common.{◌≡◌, ◌<◌}
use borrow.Author.Tests.{ltb-true}

kind-test : (k : Kind) → nat_lt (kind_place k) 12 ≡ true
kind-test TypeError = refl
kind-test _ = refl

pub kind_below : (k : Kind) → kind_place k < 12
kind_below k = ltb-true _ _ (kind-test k)

cause-test : (c : Cause) → nat_lt (cause_place c) 98 ≡ true
cause-test DuplicateBase = refl
cause-test _ = refl

pub cause_below : (c : Cause) → cause_place c < 98
cause_below c = ltb-true _ _ (cause-test c)

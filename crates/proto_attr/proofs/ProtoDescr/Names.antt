-- Items of lists of names.
use Rattle.proto_attr.proofs.Below.{ℕ, List, length, slice_index_or, PyStrInterned, Held, IsName, AreNames, Holds}
use Rattle.std.proofs.Common.{◌<◌}

pub name_holds : (w : Held) (xs : List PyStrInterned) (i : ℕ) (d : PyStrInterned) → i < length xs → Holds w (AreNames xs) → Holds w (IsName (slice_index_or xs i d))
unfolding Holds
name_holds w xs i d l h = h i d l

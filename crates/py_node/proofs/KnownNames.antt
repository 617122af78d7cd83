-- The table of names has a row for each name, at its place, and no text stands twice.
use Rattle.py_node.proofs.Below.{true, length, refl, nat_lt, slice_get, Some, option_map, Known, KNOWN, known_texts, number_of}
use Rattle.std.proofs.Common.{◌≡◌, ◌<◌}
use borrow.Author.Tests.{ltb-true}
use Rattle.py_node.specs.declared.known.Known.TheVariants.{Add}

below-test : (x : Known) → nat_lt (number_of x) 130 ≡ true
unfolding number_of
below-test Add = refl
below-test _ = refl

pub below : (x : Known) → number_of x < 130
below x = ltb-true _ _ (below-test x)

-- each row is that of the name with its number
in-place : (x : Known) → option_map (λ r. r.0) (slice_get KNOWN (number_of x)) ≡ Some x
unfolding number_of
in-place Add = refl
in-place _ = refl

pub known-count : length known_texts ≡ 130
unfolding known_texts
known-count = refl

-- What is said where a list or a dict changes, by what its new contents are.
use Rattle.native_containers.proofs.Below.{true, false, cond, List, length, fold, sym, ap, ◌∙◌, nat_le, PyObjectRef, TooLong, Entries, with_entry, PlainWorld, Said, Ends, most_items, fault, unless_long, dict_changed, dict_updated, entries_at, with_kind}
use Rattle.std.proofs.Common.{◌≡◌}
use Rattle.row_kit.specs.declared.take_containers.Kind.TheVariants as kind

-- a container is not too long, or it is
module _ {A : Type 0} (w : PlainWorld) (xs : List A) (go : Said) where
  pub short : nat_le (length xs) most_items ≡ true → unless_long w xs go ≡ go
  short h = ap (λ b. cond b go (Ends w (fault TooLong))) h

  pub long : nat_le (length xs) most_items ≡ false → unless_long w xs go ≡ Ends w (fault TooLong)
  long h = ap (λ b. cond b go (Ends w (fault TooLong))) h

-- the entries of another dict, seen from a world that says the same
pub update-says : (w u : PlainWorld) (d o : PyObjectRef) (new : Entries) (go : PlainWorld → Said) → u ≡ w → new ≡ fold (with_entry w) (entries_at w d) (entries_at w o) → ((s : Said) → with_kind kind.Dict w o s ≡ s) → dict_updated w d o go ≡ dict_changed u d new go
update-says w u d o new go e made taken = taken _ ∙ (λ i. dict_changed (sym e i) d (sym made i) go)

-- What objects hold that are of no kind, and entries and nodes one by one.
use Rattle.native_containers.proofs.Below.{ℕ, length, get_or, take, take_all, fold, sym, ap, ◌∙◌, fold_more, PyObjectRef, Entries, with_entry, PlainWorld}
use Rattle.std.proofs.Common.{◌≡◌, ◌+◌, ◌<◌, ◌≤◌}

-- one entry more, where there were some already
pub entry-more : (w now : PlainWorld) (first es new ps : Entries) (i : ℕ) (d : PyObjectRef × PyObjectRef) → now ≡ w → i < length ps → fold (with_entry w) first (take i ps) ≡ es → new ≡ with_entry now es ((get_or ps i d).0, (get_or ps i d).1) → fold (with_entry w) first (take (i + 1) ps) ≡ new
entry-more w now first es new ps i d e l h k = fold_more (with_entry w) first ps i d l ∙ (λ j. with_entry (sym e j) (h j) (get_or ps i d)) ∙ sym k

pub entries-all : (w : PlainWorld) (first es ps : Entries) (i : ℕ) → length ps ≤ i → fold (with_entry w) first (take i ps) ≡ es → es ≡ fold (with_entry w) first ps
entries-all w first es ps i l h = sym h ∙ ap (fold (with_entry w) first) (take_all i ps l)

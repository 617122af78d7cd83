-- How natives end that change an item of a list in place.
use Rattle.native_containers.proofs.Below.{ℕ, zero, suc, true, List, [], length, Some, sym, ap, ◌∙◌, arith, remove, nat_le, Raised as Fault, PyObjectRef, Answer, with_datum, AList, PlainWorld, Ended, Said, Ends, most_items, World, Reading, Reads, plain, EndsAs, list_changed, unless_long, items_at, then-ends, placed, place_at}
use Rattle.std.proofs.Common.{◌≡◌, ◌-◌, ◌<◌, ◌∷◌}
use Rattle.std.specs.Prelude.{Result}
use Rattle.native_containers.proofs.Changed.{short}

abbrev Items : Type 0
Items = List PyObjectRef

-- where an object leads among the items of a list
module _ (u : PlainWorld) (list index : PyObjectRef) (rs : Items) (same : items_at u list ≡ rs) (change : Items → ℕ → Items) where
  pub leads-to : (i : ℕ) → place_at u (length rs) index ≡ Some i → placed u (place_at u (length (items_at u list)) index) (λ i. list_changed u list (change (items_at u list) i)) ≡ list_changed u list (change (items_at u list) i)
  leads-to i at =
      let here : place_at u (length (items_at u list)) index ≡ Some i = ap (λ (xs : Items). place_at u (length xs) index) same ∙ at in
      ap (λ o. placed u o (λ i. list_changed u list (change (items_at u list) i))) here

-- how many there are without one
pub fewer-by-one : (rs : Items) (i : ℕ) → i < length rs → length (remove rs i) ≡ length rs - 1
fewer-by-one [] i l = absurd (omega arith)
fewer-by-one (r ∷ rs) zero l = omega arith
fewer-by-one (r ∷ rs) (suc i) l = let e = fewer-by-one rs i (omega arith) in omega arith

-- a list that has these items is to have what a change makes of them, so many, and something is answered
module _ (said : Reading → PlainWorld → Said) (w : World) (list : PyObjectRef) (rs : Items) (same : (t : Reading) → items_at (plain t w) list ≡ rs) (change : Items → Items) (answer : Ended)
    (says : (t : Reading) → said t (plain t w) ≡ unless_long (plain t w) (change (items_at (plain t w) list)) (Ends (with_datum (plain t w) list (AList (change (items_at (plain t w) list)))) answer)) (n : ℕ) (count : length (change rs) ≡ n) where
  counted : nat_le n most_items ≡ true → (t : Reading) → nat_le (length (change (items_at (plain t w) list))) most_items ≡ true
  counted h t =
      ap (λ (rs : Items). nat_le (length (change rs)) most_items) (same t)
      ∙ ap (λ n. nat_le n most_items) count
      ∙ h

  pub items-changed : (new : World) (r : Result Answer Fault) → nat_le n most_items ≡ true → ((t : Reading) → plain t new ≡ with_datum (plain t w) list (AList (change (items_at (plain t w) list)))) → ((t : Reading) → Reads t new → Reads t w) → EndsAs (λ t u. Ends u answer) new new r → EndsAs said w new r
  items-changed new r h made reads ends =
      then-ends said (λ t u. Ends u answer) w new new r
      (λ t. says t ∙ short (plain t w) (change (items_at (plain t w) list)) _ (counted h t) ∙ ap (λ u. Ends u answer) (sym (made t))) reads ends

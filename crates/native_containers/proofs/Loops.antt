-- Loops over pairs and over keywords, a step at a time.
use Rattle.native_containers.proofs.Below.{ℕ, suc, Bool, true, false, cond, List, length, get_or, drop, sym, ap, ◌∙◌, drop_all, drop-cons, PyObjectRef, PyStrInterned, TooLong, has_place, with_value_in, PlainWorld, Said, Ends, fault, Held, Reading, bindings, IsName, IsNode, Holds, AllHold, of_binding, of_each, each-get, get-below, ends_none, names_set, next}
use Rattle.std.proofs.Common.{◌≡◌, ◌+◌, ◌<◌, ◌≤◌}

-- a pair more

-- a keyword more

abbrev Keywords : Type 0
Keywords = List (PyStrInterned × PyObjectRef)

pub keyword-holds : (w : Held) (kw : Keywords) (i : ℕ) (b : PyStrInterned × PyObjectRef) → i < length kw → AllHold w (of_each of_binding kw) → Holds w (IsName (get_or kw i b).0) × Holds w (IsNode (get_or kw i b).1)
keyword-holds w kw i b l h = let k = each-get w of_binding kw i (get_or kw i b) (get-below kw i b l) h in (k.0, k.1.0)

module _ (t : Reading) (w : PlainWorld) (d : PyObjectRef) (kw : Keywords) (i : ℕ) where
  abbrev set_from : PlainWorld → ℕ → Said
  set_from u n = names_set u d (bindings t (drop n kw))

  abbrev set_or : PyStrInterned × PyObjectRef → Bool → Said
  set_or k q = cond q (names_set (with_value_in w d (t.text k.0.0) k.1) d (bindings t (drop (suc i) kw))) (Ends w (fault TooLong))

  pub name-more : (new : PlainWorld) (b : PyStrInterned × PyObjectRef) → i < length kw → has_place w d (t.text (get_or kw i b).0.0) ≡ true → new ≡ with_value_in w d (t.text (get_or kw i b).0.0) (get_or kw i b).1 → set_from w i ≡ set_from new (i + 1)
  name-more new b l p made =
      ap (λ bs. names_set w d (bindings t bs)) (drop-cons kw i b l)
      ∙ ap (set_or (get_or kw i b)) p
      ∙ ap (λ u. set_from u (suc i)) (sym made)
      ∙ ap (set_from new) (next i)

  pub no-room : (b : PyStrInterned × PyObjectRef) → i < length kw → has_place w d (t.text (get_or kw i b).0.0) ≡ false → set_from w i ≡ Ends w (fault TooLong)
  no-room b l p = ap (λ bs. names_set w d (bindings t bs)) (drop-cons kw i b l) ∙ ap (set_or (get_or kw i b)) p

  pub names-all : length kw ≤ i → set_from w i ≡ ends_none w
  names-all l = ap (λ bs. names_set w d (bindings t bs)) (drop_all i kw l)

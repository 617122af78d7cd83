-- A key that is taken out of a dict, and how long a dict is with one.
use Rattle.native_containers.proofs.Below.{suc, Bool, true, false, [], length, Option, Some, None, cond, refl, ap, ◌∙◌, arith, length-append, is_some, PyObjectRef, MissingKey, value_of, Entries, is_like, put_under, with_entries, with_entry, with_value_for, without_value_for, PlainWorld, Ends, fault, ends_none, key_taken, value_under, entries_at}
use Rattle.std.proofs.Common.{◌≡◌, ◌∷◌}

module _ (w : PlainWorld) (d k : PyObjectRef) where
  pub not-taken : is_some (value_under w d k) ≡ false → key_taken w d k (value_under w d k) ≡ Ends w (fault MissingKey)
  not-taken h = go (value_under w d k) h
    where
      go : (o : Option PyObjectRef) → is_some o ≡ false → key_taken w d k o ≡ Ends w (fault MissingKey)
      go None h = refl
      go (Some v) h = cc

  pub taken : is_some (value_under w d k) ≡ true → key_taken w d k (value_under w d k) ≡ ends_none (with_entries w d (without_value_for (is_like w k) (entries_at w d)))
  taken h = go (value_under w d k) h
    where
      go : (o : Option PyObjectRef) → is_some o ≡ true → key_taken w d k o ≡ ends_none (with_entries w d (without_value_for (is_like w k) (entries_at w d)))
      go None h = cc
      go (Some v) h = refl

-- a value that is written over
length-over : (test : PyObjectRef → Bool) (v : PyObjectRef) (es : Entries) → length (with_value_for test v es) ≡ length es
length-over test v [] = refl
length-over test v (e ∷ es) = go (test e.0) (length-over test v es)
  where
    go : (b : Bool) → length (with_value_for test v es) ≡ length es → length (cond b ((e.0, v) ∷ es) (e ∷ with_value_for test v es)) ≡ suc (length es)
    go true h = refl
    go false h = ap suc h

pub length-put : (w : PlainWorld) (es : Entries) (k v old : PyObjectRef) → value_of (is_like w k) es ≡ Some old → length (with_entry w es (k, v)) ≡ length es
length-put w es k v old h = ap (λ o. length (put_under (is_like w k) (k, v) es o)) h ∙ length-over (is_like w k) v es

pub length-new : (w : PlainWorld) (es : Entries) (k v : PyObjectRef) → value_of (is_like w k) es ≡ None → length (with_entry w es (k, v)) ≡ suc (length es)
length-new w es k v h =
    let more = length-append es ((k, v) ∷ []) in
    ap (λ o. length (put_under (is_like w k) (k, v) es o)) h ∙ omega (arith, more)

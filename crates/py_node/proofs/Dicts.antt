-- Dicts: a value that is written over, and one more key.
use Rattle.py_node.proofs.Below.{ℕ, zero, suc, Bool, true, false, cond, List, [], length, get_or, None, refl, sym, ap, ◌∙◌, arith, slice_set, position, list_any, position_from, position_from-zero, insert_key, PyObjectRef, put_at}
use Rattle.std.proofs.Common.{◌≡◌, ◌+◌, ◌<◌, ◌||◌, if◌then◌else◌, ◌∷◌, ◌++◌, Some}

-- an entry that is written over
pub put-is : (es : List (PyObjectRef × PyObjectRef)) (n : ℕ) (e : PyObjectRef × PyObjectRef) (v : PyObjectRef) → n < length es → e ≡ get_or es n e → slice_set es n (e.0, v) ≡ put_at es n v
put-is [] n e v l q = absurd (omega arith)
put-is (x ∷ es) zero e v l q = ap (λ (x : PyObjectRef × PyObjectRef). (x.0, v) ∷ es) q
put-is (x ∷ es) (suc n) e v l q = ap (λ xs. x ∷ xs) (put-is es n e v (omega arith) q)

module _ {K : Type 0} (test : K → Bool) where
  none-from : (k : ℕ) (ks : List K) → position_from test k ks ≡ None → list_any test ks ≡ false
  none-from k [] q = refl
  none-from k (x ∷ ks) q = pick (none-from (k + 1) ks) (test x) refl q
    where
      pick : (position_from test (k + 1) ks ≡ None → list_any test ks ≡ false) → (b : Bool) → test x ≡ b → cond b (Some k) (position_from test (k + 1) ks) ≡ None → list_any test (x ∷ ks) ≡ false
      pick more true h q = cc
      pick more false h q = ap (λ b. b || list_any test ks) h ∙ more q

  pub none-passes : (ks : List K) → position test ks ≡ None → list_any test ks ≡ false
  none-passes ks q = none-from 0 ks (sym (position_from-zero test ks) ∙ q)

-- a key that is not there goes last
pub key-added : {K : Type 0} (same : K → K → Bool) (ks : List K) (k : K) → position (same k) ks ≡ None → insert_key same ks k ≡ ks ++ k ∷ []
key-added same ks k q = ap (λ b. if b then ks else ks ++ k ∷ []) (none-passes (same k) ks q)

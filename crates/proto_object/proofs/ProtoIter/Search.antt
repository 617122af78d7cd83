-- How a search goes on.
use Rattle.proto_object.proofs.Below.{ℕ, inl, inr, Bool, true, false, cond, [], Result, Ok, Err, refl, sym, ap, ◌∙◌, arith, pos, le-ltb, Raised as Fault, IndexRange, PyObjectRef, Answer, Value, Truth, Exhausted, Method, Ask, End, PlainWorld, AsValue, AsTruth, AsExhausted, Answered, Ended, Ends, Told, fault, value, Reading, ended_of, plain, World, number, says, turned, Next, Equal, Search, Seeking, counted, CountsAlike, IsNoItem, IsNoTruth, Resumes, equal_rest, last_of, seeking, turn_of, iter_group, iter_stands, asks-follow, ends-follow}
use Rattle.std.proofs.Common.{◌≡◌, ◌+◌, ◌≤◌, ◌∷◌}
use Rattle.std.specs.Prelude.{◌^◌}
use Rattle.py_node.specs.declared.protocol.CompareTask.TheVariants as compare
use Rattle.py_node.specs.declared.protocol.ProtocolTask.TheVariants as protocol
use Rattle.py_node.specs.declared.task.PyMethod.TheVariants as method
use Rattle.py_node.specs.declared.task.Task.TheVariants as task
use Rattle.proto_object.specs.declared.proto_iter.seek.Search.TheVariants as search

-- past what is told, numbers don't matter
counted-past : (n m : ℕ) → 2 ^ 63 ≤ n → 2 ^ 63 ≤ m → counted n ≡ counted m
counted-past n m l k =
    ap (λ b. cond b (number (pos n)) (fault IndexRange)) (le-ltb n (2 ^ 63) l) ∙ sym (ap (λ b. cond b (number (pos m)) (fault IndexRange)) (le-ltb m (2 ^ 63) k))

module _ (u : PlainWorld) (it x : PyObjectRef) where
  -- a containment counts nothing
  contains-past : (n m : ℕ) (more : Told) → seeking u search.Contains it x n more ≡ seeking u search.Contains it x m more
  contains-past n m (Answered (Ok (AsValue v)) ∷ (Answered (Ok (AsTruth true)) ∷ more)) = refl
  contains-past n m (Answered (Ok (AsValue v)) ∷ (Answered (Ok (AsTruth false)) ∷ more)) = contains-past n m more
  contains-past n m _ = refl

  count-past : (n m : ℕ) → 2 ^ 63 ≤ n → 2 ^ 63 ≤ m → (more : Told) → seeking u search.Count it x n more ≡ seeking u search.Count it x m more
  count-past n m l k (Answered (Ok (AsValue v)) ∷ (Answered (Ok (AsTruth true)) ∷ more)) =
      count-past (n + 1) (m + 1) (omega arith) (omega arith) more
  count-past n m l k (Answered (Ok (AsValue v)) ∷ (Answered (Ok (AsTruth false)) ∷ more)) = count-past n m l k more
  count-past n m l k (Answered (Ok AsExhausted) ∷ more) = ap (Ends u) (counted-past n m l k)
  count-past n m l k _ = refl

  find-past : (n m : ℕ) → 2 ^ 63 ≤ n → 2 ^ 63 ≤ m → (more : Told) → seeking u search.Find it x n more ≡ seeking u search.Find it x m more
  find-past n m l k (Answered (Ok (AsValue v)) ∷ (Answered (Ok (AsTruth true)) ∷ more)) =
      ap (Ends u) (counted-past n m l k)
  find-past n m l k (Answered (Ok (AsValue v)) ∷ (Answered (Ok (AsTruth false)) ∷ more)) =
      find-past (n + 1) (m + 1) (omega arith) (omega arith) more
  find-past n m l k _ = refl

  alike : (s : Search) (n m : ℕ) → CountsAlike n m → (more : Told) → seeking u s it x n more ≡ seeking u s it x m more
  alike s n m (inl e) more = ap (λ j. seeking u s it x j more) e
  alike search.Contains n m (inr a) more = contains-past n m more
  alike search.Count n m (inr a) more = count-past n m a.0 a.1 more
  alike search.Find n m (inr a) more = find-past n m a.0 a.1 more

  no-item : (s : Search) (n : ℕ) (r : Result Answer Fault) → IsNoItem r → seeking u s it x n (Answered (ended_of r) ∷ []) ≡ Ends u (ended_of r)
  no-item s n (Ok (Value v)) is = absurd is
  no-item s n (Ok Exhausted) is = absurd is
  no-item s n (Ok (Method (method.Function a b))) is = refl
  no-item s n (Ok (Method (method.Attribute a))) is = refl
  no-item s n (Ok _) is = refl
  no-item s n (Err y) is = refl

module _ (s : Seeking) where
  -- once an item was asked, it does not matter which it was
  forgotten : (u : PlainWorld) (v : PyObjectRef) (r : Ended) (more : Told) → seeking u s.search s.iterator s.needle s.number (Answered (value v) ∷ (Answered r ∷ more)) ≡ equal_rest u s r more
  forgotten u v (Ok (AsTruth b)) more = refl
  forgotten u v _ more = refl

  -- an item is asked whether it is equal
  pub asks-item : (v : PyObjectRef) (w : World) → Resumes (Next s) (Ok (Value v)) w w (Ask (task.Compare (compare.BoolEq v s.needle)) (Equal s))
  asks-item v w = λ t q. (q, (refl, refl, λ u r more. forgotten u v r more))

  -- another answer ends it
  pub ends-other : (r : Result Answer Fault) (w : World) → IsNoItem r → Resumes (Next s) r w w (End r)
  ends-other r w is =
      let row = λ (t : Reading). iter_stands t (Next s) (ended_of r) in
      ends-follow iter_group row (λ t u. row t u []) w w r (λ t q. (q, no-item (plain t w) s.iterator s.needle s.search s.number r is))

  -- there is no item any more
  pub ends-last : (e : Result Answer Fault) (w : World) → ended_of e ≡ last_of s.search s.number → Resumes (Next s) (Ok Exhausted) w w (End e)
  ends-last e w h = λ t q. (q, (h, refl))

  -- an item was equal, or was not: the search goes on
  pub asks-next : (b : Bool) (n m : ℕ) (w : World) → turn_of s.search s.number b ≡ Ok m → CountsAlike m n → Resumes (Equal s) (Ok (Truth b)) w w (Ask (task.Protocol (protocol.Next s.iterator)) (Next (record s { number = n })))
  asks-next b n m w e a =
      let row = λ (t : Reading). iter_stands t (Equal s) (says b) in
      let on = λ (u : PlainWorld) (more : Told). ap (λ r. turned u r (λ j. seeking u s.search s.iterator s.needle j more)) e in
      asks-follow iter_group row (λ t u. row t u []) w w [] (task.Protocol (protocol.Next s.iterator)) (Next (record s { number = n })) (λ t q. (q, on (plain t w) [])) (λ t u r more. on u (Answered r ∷ more) ∙ alike u s.iterator s.needle s.search m n a (Answered r ∷ more))

  -- another answer ends it
  no-truth : (u : PlainWorld) (r : Result Answer Fault) → IsNoTruth r → equal_rest u s (ended_of r) [] ≡ Ends u (ended_of r)
  no-truth u (Ok (Truth b)) is = absurd is
  no-truth u (Ok (Method (method.Function a b))) is = refl
  no-truth u (Ok (Method (method.Attribute a))) is = refl
  no-truth u (Ok _) is = refl
  no-truth u (Err y) is = refl

  pub ends-untrue : (r : Result Answer Fault) (w : World) → IsNoTruth r → Resumes (Equal s) r w w (End r)
  ends-untrue r w is =
      let row = λ (t : Reading). iter_stands t (Equal s) (ended_of r) in
      ends-follow iter_group row (λ t u. row t u []) w w r (λ t q. (q, no-truth (plain t w) r is))

  -- or it ends
  pub ends-turn : (b : Bool) (e : Result Answer Fault) (w : World) → turn_of s.search s.number b ≡ Err (ended_of e) → Resumes (Equal s) (Ok (Truth b)) w w (End e)
  ends-turn b e w h =
      let row = λ (t : Reading). iter_stands t (Equal s) (says b) in
      ends-follow iter_group row (λ t u. row t u []) w w e (λ t q. let u = plain t w in (q, ap (λ r. turned u r (λ j. seeking u s.search s.iterator s.needle j [])) h))

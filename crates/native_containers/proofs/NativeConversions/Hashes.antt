-- How a tuple asks for the hashes of its items.
use Rattle.native_containers.proofs.Below.{◌∙◌, List, [], drop, ℤ, pos, Result, Ok, Err, refl, sym, subst, ap, Raised as Fault, PyObjectRef, PyStrInterned, OfTuple, Answer, Method, Number, Step, Ask, End, PlainWorld, Bindings, Said, Ends, Told, ReadObjects, ToNative, Row, end, noting, on_number, World, Reading, bindings, plain, ended_of, with_lone, ConversionKept, Hashes, Hashing, IsNoNumber, Resumes, Starts, left_to_hash, conversion_stands, conversion_job_say, hash_row, parts_at, Goes, conversion_group, goes-as}
use Rattle.std.proofs.Common.{◌≡◌, ◌∷◌}
use Rattle.py_node.specs.declared.entry.TupleNative.TheVariants as tuple
use Rattle.py_node.specs.declared.task.PyMethod.TheVariants as method
use Rattle.py_node.specs.declared.protocol.ObjectTask.TheVariants as object
use Rattle.py_node.specs.declared.task.Task.TheVariants as task
use Rattle.row_kit.specs.declared.take_containers.Kind.TheVariants as kind
use Rattle.native_containers.specs.NativeConversions.Texts.{hashed_on}
use Rattle.native_containers.proofs.NativeConversions.Steps.{ends-starts, reading-starts}

-- the next item is asked
pub hash-asks : (w : World) (item : PyObjectRef) (h : ℤ) (later : Hashing) (rs : List PyObjectRef) → later.hash ≡ h → rs ≡ item ∷ left_to_hash later → Goes (λ t u. hash_row u h rs) w w (Ask (task.Object (object.Hash item)) (Hashes later))
hash-asks w item h later rs same e =
    let P : ℤ → List PyObjectRef → Type 0 = λ z ls. Goes (λ t u. hash_row u z ls) w w (Ask (task.Object (object.Hash item)) (Hashes later)) in
    subst (λ z. P z rs) same (subst (λ ls. P later.hash ls) (sym e) (λ t q. (q, (refl, refl, λ u r more. refl))))

-- past all items
pub hash-finish : (w : World) (n h : ℤ) (rs : List PyObjectRef) → n ≡ h → rs ≡ [] → Goes (λ t u. hash_row u h rs) w w (End (Ok (Number n)))
hash-finish w n h rs same e =
    let P : ℤ → List PyObjectRef → Type 0 = λ z ls. Goes (λ t u. hash_row u z ls) w w (End (Ok (Number n))) in
    subst (λ z. P z rs) same (subst (λ ls. P n ls) (sym e) (λ t q. (q, (refl, refl))))

-- an item answered
pub hash-more : (hashing later : Hashing) (answer : Result Answer Fault) (n : ℤ) (w : World) (step : Step ConversionKept) → answer ≡ Ok (Number n) → later.hash ≡ hashed_on hashing.hash n → left_to_hash later ≡ left_to_hash hashing → Goes (λ t u. hash_row u later.hash (left_to_hash later)) w w step → Resumes (Hashes hashing) answer w w step
hash-more hashing later answer n w step is more same h =
    let P : ℤ → List PyObjectRef → Type 0 = λ z rs. Goes (λ t u. hash_row u z rs) w w step in
    subst (λ a. Resumes (Hashes hashing) a w w step) (sym is) (subst (P (hashed_on hashing.hash n)) same (subst (λ z. P z (left_to_hash later)) more h))

-- an answer that is no number is how the native ends
other-on : (answer : Result Answer Fault) → IsNoNumber answer → (u : PlainWorld) (go : ℤ → Row) → on_number u (ended_of answer) go ≡ end u (ended_of answer)
other-on (Ok (Number z)) h u go = absurd h
other-on (Ok (Method (method.Function a b))) h u go = refl
other-on (Ok (Method (method.Attribute a))) h u go = refl
other-on (Ok _) h u go = refl
other-on (Err x) h u go = refl

pub hash-other : (hashing : Hashing) (answer other : Result Answer Fault) (w : World) → IsNoNumber answer → other ≡ answer → Resumes (Hashes hashing) answer w w (End other)
hash-other hashing answer other w is e =
    goes-as conversion_group (λ t u. end u (ended_of answer)) (λ t. conversion_stands t (Hashes hashing) (ended_of answer)) (λ t u more.
    (λ i. other-on answer is u (λ n. hash_row u (hashed_on hashing.hash n) (left_to_hash hashing)) i more)) w w (End other) (λ t q. (q, (ap ended_of e, refl)))

-- a tuple begins
module _ (args : List PyObjectRef) (kw : List (PyStrInterned × PyObjectRef)) where
  read-on : (rs : List PyObjectRef) (u : PlainWorld) (b : Bindings) (more : Told) → conversion_job_say u (ToNative (OfTuple tuple.Hash) args b) (ReadObjects rs ∷ more) ≡ hash_row u (pos 1) rs more
  unfolding conversion_job_say
  read-on rs u b more = refl

  first-said : (u : PlainWorld) (b : Bindings) → conversion_job_say u (ToNative (OfTuple tuple.Hash) args b) [] ≡ with_lone kind.Tuple u args b (λ o. noting (ReadObjects (parts_at u o)) (hash_row u (pos 1) (parts_at u o) []))
  unfolding conversion_job_say
  first-said u b = refl

  pub hash-refused : (w : World) (x : Fault) → ((t : Reading) (go : PyObjectRef → Said) → with_lone kind.Tuple (plain t w) args (bindings t kw) go ≡ Ends (plain t w) (Err x)) → Starts (OfTuple tuple.Hash) args kw w w (End (Err x))
  hash-refused w x refused = ends-starts (OfTuple tuple.Hash) args kw w (Err x) (λ t. first-said (plain t w) (bindings t kw) ∙ refused t (λ o. noting (ReadObjects (parts_at (plain t w) o)) (hash_row (plain t w) (pos 1) (parts_at (plain t w) o) [])))

  pub hash-starts : (o : PyObjectRef) (hashing : Hashing) (w : World) (step : Step ConversionKept) → ((t : Reading) (go : PyObjectRef → Said) → with_lone kind.Tuple (plain t w) args (bindings t kw) go ≡ go o) → ((t : Reading) → parts_at (plain t w) o ≡ hashing.items.items) → hashing.next ≡ 0 → hashing.hash ≡ pos 1 → Goes (λ t u. hash_row u hashing.hash (left_to_hash hashing)) w w step → Starts (OfTuple tuple.Hash) args kw w w step
  hash-starts o hashing w step given same next one h =
      let rs = hashing.items.items in
      let here : left_to_hash hashing ≡ rs = ap (λ n. drop n rs) next in
      let P : ℤ → List PyObjectRef → Type 0 = λ z ls. Goes (λ t u. hash_row u z ls) w w step in
      reading-starts (OfTuple tuple.Hash) args kw rs (λ u. hash_row u (pos 1) rs) (read-on rs) w w step (λ t.
      let u = plain t w in
      first-said u (bindings t kw)
      ∙ given t (λ o. noting (ReadObjects (parts_at u o)) (hash_row u (pos 1) (parts_at u o) []))
      ∙ (λ i. noting (ReadObjects (same t i)) (hash_row u (pos 1) (same t i) []))) (subst (λ ls. P (pos 1) ls) here (subst (λ z. P z (left_to_hash hashing)) one h))

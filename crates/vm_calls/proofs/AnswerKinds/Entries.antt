-- What a slot's entry is asked for, and rows that go over items.
use Rattle.vm_calls.proofs.Below.{Bool, Err, List, Ok, Result, Some, cond, false, length, nat_le, suc, true, zero, ℕ, ℤ, [], PyObjectRef, SlotEntry, Native, Wrapper, Unhashable, TooLong, Known, Kind, kind_of_entry, kind_of, entered, on_objects, any_of, each_value, each_number, all_items, turned, each_equal, PlainWorld, DoNext, PlainTask, ToProtocol, AsValue, AsTruth, AsObjects, AsExhausted, Ended, Answered, Told, Said, Asks, Ends, Row, end, value, fault, on_value, on_truth, on_number, most_items}
use Rattle.std.proofs.Common.{◌++◌, ◌∷◌}
use Rattle.vm_calls.specs.AnswerKinds.Kinds as kinds
use Rattle.vm_calls.proofs.AnswerKinds.Base.{So, Fits, within, Family, GoesOn, KindedFor, Kinded, ended, Says, asks, asking, one_of, on-value, on-truth, on-number, native-asked, native-given, is_given}
use Rattle.vm_calls.proofs.AnswerKinds.Columns.{gives_in}

pub entered-asked : {q : Told → Kind → Bool} {k : Kind} (w : PlainWorld) (learnt : Told) (e : SlotEntry) (x : Known) (o : PyObjectRef) (args : List PyObjectRef) → So (q learnt (kind_of_entry e)) → Says q k (Asks w learnt (entered e x o args))
entered-asked w learnt (Native n) x o args h = native-asked w learnt n (o ∷ args) [] h
entered-asked w learnt (Wrapper s) x o args h = asks h
entered-asked w learnt Unhashable x o args h = asks h

pub entry-value : (e : SlotEntry) → So (gives_in kinds.Value (Some e)) → So (within (kind_of_entry e) kinds.Value)
entry-value (Native n) h = h
entry-value (Wrapper s) h = tt
entry-value Unhashable h = tt

pub entry-given : (e : SlotEntry) → So (is_given (kind_of_entry e))
entry-given (Native n) = native-given n
entry-given (Wrapper s) = tt
entry-given Unhashable = tt

pub on-objects : (k : Kind) (go : PlainWorld → List PyObjectRef → Row) (r : Ended) → Fits kinds.Objects r → ((rs : List PyObjectRef) → Kinded k (λ w. go w rs)) → Kinded k (λ w. on_objects w r (go w))
on-objects k go (Ok (AsObjects rs)) f p = p rs
on-objects k go (Ok a) f p = absurd f
on-objects k go (Err x) f p = ended k (Err x) tt

pub any-row : (k : Kind) (task : PyObjectRef → PlainTask) (last : Bool → Ended) → ((r : PyObjectRef) → So (within (kind_of (task r)) kinds.Truth)) → ((b : Bool) → Fits k (last b)) → (rs : List PyObjectRef) → Kinded k (λ w. any_of w task last rs)
any-row k task last h l [] = ended k (last false) (l false)
any-row k task last h l (r ∷ rs) =
    asking kinds.Truth k (task r) (λ w s. on_truth w s (λ b. cond b (end w (last true)) (any_of w task last rs))) (h r)
    (λ s f. on-truth k (λ w b. cond b (end w (last true)) (any_of w task last rs)) s f
    (λ b. one_of k b (λ w. end w (last true)) (λ w. any_of w task last rs) (ended k (last true) (l true)) (any-row k task last h l rs)))

pub each-value : (k : Kind) (task : PyObjectRef → PlainTask) → ((r : PyObjectRef) → So (within (kind_of (task r)) kinds.Value)) → (rs : List PyObjectRef) (go : PlainWorld → List PyObjectRef → Row) → ((vs : List PyObjectRef) → Kinded k (λ w. go w vs)) → Kinded k (λ w. each_value w task rs (go w))
each-value k task h [] go p = p []
each-value k task h (r ∷ rs) go p =
    asking kinds.Value k (task r) (λ w s. on_value w s (λ v. each_value w task rs (λ vs. go w (v ∷ vs)))) (h r)
    (λ s f. on-value k (λ w v. each_value w task rs (λ vs. go w (v ∷ vs))) s f
    (λ v. each-value k task h rs (λ w vs. go w (v ∷ vs)) (λ vs. p (v ∷ vs))))

pub each-number : (k : Kind) (task : PyObjectRef → PlainTask) (f : ℤ → ℤ → ℤ) → ((r : PyObjectRef) → So (within (kind_of (task r)) kinds.Number)) → (z : ℤ) (rs : List PyObjectRef) (go : PlainWorld → ℤ → Row) → ((z : ℤ) → Kinded k (λ w. go w z)) → Kinded k (λ w. each_number w task f z rs (go w))
each-number k task f h z [] go p = p z
each-number k task f h z (r ∷ rs) go p =
    asking kinds.Number k (task r) (λ w s. on_number w s (λ n. each_number w task f (f z n) rs (go w))) (h r)
    (λ s x. on-number k (λ w n. each_number w task f (f z n) rs (go w)) s x
    (λ n. each-number k task f h (f z n) rs go p))

-- over an iteration

either-goes : (next : Family → Type 0) (k : Kind) (R : Family) (b : Bool) (x y : Said) → GoesOn next k R x → GoesOn next k R y → GoesOn next k R (cond b x y)
either-goes next k R true x y p q = p
either-goes next k R false x y p q = q

module _ (k : Kind) (it : PyObjectRef) (go : PlainWorld → List PyObjectRef → Row) (p : (rs : List PyObjectRef) → Kinded k (λ w. go w rs)) where
  item-told : (n : ℕ) → ((rs : List PyObjectRef) → KindedFor n k (λ w. all_items w it rs (go w))) → (rs : List PyObjectRef) (r : Ended) → Fits kinds.Item r → KindedFor n k (λ w told. all_items w it rs (go w) (Answered r ∷ told))
  item-told n rec rs (Ok (AsValue v)) f = rec (rs ++ v ∷ [])
  item-told n rec rs (Ok AsExhausted) f = (p rs).every n
  item-told n rec rs (Ok a) f = absurd f
  item-told n rec rs (Err x) f = (ended k (Err x) tt).every n

  all-for : (n : ℕ) (rs : List PyObjectRef) → KindedFor n k (λ w. all_items w it rs (go w))
  all-for zero rs = tt
  all-for (suc n) rs = λ w. either-goes (KindedFor n k) k (λ w. all_items w it rs (go w)) (nat_le (length rs) most_items) (Asks w [] (ToProtocol (DoNext it))) (Ends w (fault TooLong)) (λ r f. item-told n (all-for n) rs r f) tt

  pub all-row : (rs : List PyObjectRef) → Kinded k (λ w. all_items w it rs (go w))
  all-row rs = record { every = λ n. all-for n rs }

-- how a search ends
abbrev pub FitsTurn : Kind → Result ℕ Ended → Type 0
FitsTurn k (Ok n) = Unit {0}
FitsTurn k (Err r) = Fits k r

-- a search that asks for the next item, or has one
data Searching : Type 0 where
  Next : ℕ → Searching
  Having : PyObjectRef → ℕ → Searching

module _ (k : Kind) (it x : PyObjectRef) (turn : ℕ → Bool → Result ℕ Ended) (last : ℕ → Ended) (t : (n : ℕ) (b : Bool) → FitsTurn k (turn n b)) (l : (n : ℕ) → Fits k (last n)) where
  abbrev Search : Searching → Family
  Search (Next m) = λ w. each_equal w it x turn last m
  Search (Having v m) = λ w told. each_equal w it x turn last m (Answered (value v) ∷ told)

  turned-for : (n : ℕ) → ((s : Searching) → KindedFor n k (Search s)) → (r : Result ℕ Ended) → FitsTurn k r → KindedFor n k (λ w told. turned w r (λ m. each_equal w it x turn last m told))
  turned-for n rec (Ok m) h = rec (Next m)
  turned-for n rec (Err r) h = (ended k r h).every n

  next-told : (n : ℕ) → ((s : Searching) → KindedFor n k (Search s)) → (m : ℕ) (r : Ended) → Fits kinds.Item r → KindedFor n k (λ w told. each_equal w it x turn last m (Answered r ∷ told))
  next-told n rec m (Ok (AsValue v)) f = rec (Having v m)
  next-told n rec m (Ok AsExhausted) f = (ended k (last m) (l m)).every n
  next-told n rec m (Ok a) f = absurd f
  next-told n rec m (Err y) f = (ended k (Err y) tt).every n

  equal-told : (n : ℕ) → ((s : Searching) → KindedFor n k (Search s)) → (v : PyObjectRef) (m : ℕ) (r : Ended) → Fits kinds.Truth r → KindedFor n k (λ w told. each_equal w it x turn last m (Answered (value v) ∷ (Answered r ∷ told)))
  equal-told n rec v m (Ok (AsTruth b)) f = turned-for n rec (turn m b) (t m b)
  equal-told n rec v m (Ok a) f = absurd f
  equal-told n rec v m (Err y) f = (ended k (Err y) tt).every n

  search-for : (n : ℕ) (s : Searching) → KindedFor n k (Search s)
  search-for zero s = tt
  search-for (suc n) (Next m) = λ w. (λ r f. next-told n (search-for n) m r f)
  search-for (suc n) (Having v m) = λ w. (λ r f. equal-told n (search-for n) v m r f)

  pub search-row : (m : ℕ) → Kinded k (λ w. each_equal w it x turn last m)
  search-row m = record { every = λ n. search-for n (Next m) }

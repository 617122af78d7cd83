-- Rows whose answers are of a kind.
use Rattle.vm_calls.proofs.Below.{ℕ, zero, suc, ℤ, Bool, true, false, cond, List, [], Option, Some, Ok, Err, refl, sym, subst, PyObjectRef, NativeEntry, OfObject, OfType, OfInt, OfNumber, OfStr, OfTuple, OfList, OfDict, SlotEntry, ANumber, PlainWorld, PlainTask, PlainAnswer, AsValue, AsDone, AsNumber, AsTruth, AsMaybe, Ended, Bindings, Answered, Read, ReadObjects, ReadNames, Chose, Fact, Told, Said, Asks, Ends, the_int, native_task, Row, start, fork, ask, end, make, value, on_value, on_truth, on_number, on_maybe, on_done, or_else, is_not_implemented, noting, once, once_told, choose, read_once, read_objects, read_names, entries_in, objects_in, names_in, way_in, named_end, Kind, Value, TruthValue, DoneOrValue, Number, NumberOrNone, Truth, Maybe, TruthOrNone, Objects, Item, Method, Start, is_of, kind_of_native, kind_of}
use Rattle.std.proofs.Common.{◌≡◌, ◌∷◌, ◌++◌}
use Rattle.py_node.specs.declared.entry.DictNative.TheVariants as dict
use Rattle.py_node.specs.declared.entry.ListNative.TheVariants as list
use Rattle.py_node.specs.declared.entry.NumberNative.TheVariants as number
use Rattle.py_node.specs.declared.entry.ObjectNative.TheVariants as object
use Rattle.py_node.specs.declared.entry.StrNative.TheVariants as str
use Rattle.py_node.specs.declared.entry.TupleNative.TheVariants as tuple
use Rattle.vm_calls.specs.AnswerKinds.Kinds.{Done}

-- a test that holds
abbrev pub So : Bool → Type 0
So true = Unit {0}
So false = ⊥

-- an end is a fault, or an answer of the kind
abbrev pub Fits : Kind → Ended → Type 0
Fits k (Ok a) = So (is_of k a)
Fits k (Err x) = Unit {0}

-- whether all of a kind are of another
abbrev pub within : Kind → Kind → Bool
within Value Value = true
within Value DoneOrValue = true
within Value Item = true
within TruthValue TruthValue = true
within TruthValue Value = true
within TruthValue DoneOrValue = true
within TruthValue Item = true
within Done Done = true
within Done DoneOrValue = true
within DoneOrValue DoneOrValue = true
within Number Number = true
within Number NumberOrNone = true
within NumberOrNone NumberOrNone = true
within Truth Truth = true
within Maybe Maybe = true
within TruthOrNone TruthOrNone = true
within TruthOrNone Maybe = true
within Objects Objects = true
within Item Item = true
within Method Method = true
within Start Start = true
within _ _ = false

widened : (j k : Kind) (a : PlainAnswer) → So (within j k) → So (is_of j a) → So (is_of k a)
widened Value Value a s h = h
widened Value DoneOrValue (AsValue r) s h = tt
widened Value DoneOrValue a s h = absurd h
widened Value Item (AsValue r) s h = tt
widened Value Item a s h = absurd h
widened TruthValue TruthValue a s h = h
widened TruthValue Value (AsValue r) s h = tt
widened TruthValue Value a s h = absurd h
widened TruthValue DoneOrValue (AsValue r) s h = tt
widened TruthValue DoneOrValue a s h = absurd h
widened TruthValue Item (AsValue r) s h = tt
widened TruthValue Item a s h = absurd h
widened Done Done a s h = h
widened Done DoneOrValue AsDone s h = tt
widened Done DoneOrValue a s h = absurd h
widened DoneOrValue DoneOrValue a s h = h
widened Number Number a s h = h
widened Number NumberOrNone (AsNumber z) s h = tt
widened Number NumberOrNone a s h = absurd h
widened NumberOrNone NumberOrNone a s h = h
widened Truth Truth a s h = h
widened Maybe Maybe a s h = h
widened TruthOrNone TruthOrNone a s h = h
widened TruthOrNone Maybe (AsMaybe o) s h = tt
widened TruthOrNone Maybe a s h = absurd h
widened Objects Objects a s h = h
widened Item Item a s h = h
widened Method Method a s h = h
widened Start Start a s h = h
widened j k a s h = absurd s

pub wider : (j k : Kind) (r : Ended) → So (within j k) → Fits j r → Fits k r
wider j k (Ok a) s h = widened j k a s h
wider j k (Err x) s h = tt

-- a row in whatever world it goes on
abbrev pub Family : Type 0
Family = PlainWorld → Row

-- the same, once it has learnt something
abbrev pub after : Family → Told → Ended → Family
after R learnt r = λ w told. R w (learnt ++ Answered r ∷ told)

-- what is said is an end of the kind, or asks a task, and goes on so with an answer of that task's kind
abbrev pub GoesOn : (Family → Type 0) → Kind → Family → Said → Type 0
GoesOn next k R (Ends u r) = Fits k r
GoesOn next k R (Asks u learnt task) = (r : Ended) → Fits (kind_of task) r → next (after R learnt r)

-- for so many answers
abbrev pub KindedFor : ℕ → Kind → Family → Type 0
KindedFor zero k R = Unit {0}
KindedFor (suc n) k R = (w : PlainWorld) → GoesOn (KindedFor n k) k R (R w [])

-- a row whose answer is of a kind, if each task's that it asks is
pub record Kinded (k : Kind) (R : Family) : Type 0 where
  pub every : (n : ℕ) → KindedFor n k R

-- an end
pub ended : (k : Kind) (r : Ended) → Fits k r → Kinded k (λ w. end w r)
ended k r h = record { every = go }
  where
    go : (n : ℕ) → KindedFor n k (λ w. end w r)
    go zero = tt
    go (suc n) = λ w. h

-- what is said asks a task of one of these kinds, by what it has learnt then, or ends with an answer of the kind
pub data Says (asked : Told → Kind → Bool) (k : Kind) : Said → Type 0 where
  ends : {u : PlainWorld} {r : Ended} → Fits k r → Says asked k (Ends u r)
  asks : {u : PlainWorld} {learnt : Told} {task : PlainTask} → So (asked learnt (kind_of task)) → Says asked k (Asks u learnt task)

-- it has learnt nothing before it asks
abbrev pub at_once : Kind → Told → Kind → Bool
at_once j [] i = within i j
at_once j (f ∷ fs) i = false

-- it has chosen one of several ways
abbrev pub on_way : (ℕ → Kind) → Told → Kind → Bool
on_way j (Chose way ∷ []) i = within i (j way)
on_way j _ i = false

-- it ends
abbrev pub never : Told → Kind → Bool
never learnt i = false

-- it has read some objects, or none
abbrev pub having_read : (List PyObjectRef → Kind → Bool) → Told → Kind → Bool
having_read ok [] i = ok [] i
having_read ok (ReadObjects rs ∷ []) i = ok rs i
having_read ok _ i = false

-- one answer after the other

pub stepped : (k : Kind) (R : Family) → ((w : PlainWorld) → GoesOn (Kinded k) k R (R w [])) → Kinded k R
stepped k R p = record { every = all }
  where
    next : (n : ℕ) (x : Said) → GoesOn (Kinded k) k R x → GoesOn (KindedFor n k) k R x
    next n (Ends u r) h = h
    next n (Asks u learnt task) h = λ r f. (h r f).every n

    all : (n : ℕ) → KindedFor n k R
    all zero = tt
    all (suc n) = λ w. next n (R w []) (p w)

pub goes-on : (k : Kind) (R : Family) → Kinded k R → (w : PlainWorld) → GoesOn (Kinded k) k R (R w [])
goes-on k R p w = go (R w []) (λ n. p.every (suc n) w)
  where
    go : (x : Said) → ((n : ℕ) → GoesOn (KindedFor n k) k R x) → GoesOn (Kinded k) k R x
    go (Ends u r) h = h zero
    go (Asks u learnt task) h = λ r f. record { every = λ n. h n r f }

-- a row that goes on so once what it said has asked
pub started : (j k : Kind) (said : PlainWorld → Said) (go : PlainWorld → Ended → Row) → ((w : PlainWorld) → Says (at_once j) k (said w)) → ((r : Ended) → Fits j r → Kinded k (λ w. go w r)) → Kinded k (λ w. start (said w) (go w))
started j k said go s p = stepped k (λ w. start (said w) (go w)) (λ w. next (said w) (s w))
  where
    next : (x : Said) → Says (at_once j) k x → GoesOn (Kinded k) k (λ w. start (said w) (go w)) x
    next (Ends u r) (ends h) = h
    next (Asks u [] task) (asks h) = λ r f. p r (wider (kind_of task) j r h f)
    next (Asks u (f ∷ fs) task) (asks h) = absurd h

-- the same, where its way counts
pub forked : (j : ℕ → Kind) (k : Kind) (said : PlainWorld → Said) (go : PlainWorld → ℕ → Ended → Row) → ((w : PlainWorld) → Says (on_way j) k (said w)) → ((way : ℕ) (r : Ended) → Fits (j way) r → Kinded k (λ w. go w way r)) → Kinded k (λ w. fork (said w) (go w))
forked j k said go s p = stepped k (λ w. fork (said w) (go w)) (λ w. next (said w) (s w))
  where
    next : (x : Said) → Says (on_way j) k x → GoesOn (Kinded k) k (λ w. fork (said w) (go w)) x
    next (Ends u r) (ends h) = h
    next (Asks u (Chose way ∷ []) task) (asks h) = λ r f. p way r (wider (kind_of task) (j way) r h f)
    next (Asks u learnt task) (asks h) = absurd h

-- a row that asks first
pub asking : (j k : Kind) (task : PlainTask) (go : PlainWorld → Ended → Row) → So (within (kind_of task) j) → ((r : Ended) → Fits j r → Kinded k (λ w. go w r)) → Kinded k (λ w. ask w task (go w))
asking j k task go s p = started j k (λ w. Asks w [] task) go (λ w. asks s) p

-- a row that ends at once
pub finished : (k : Kind) (R : Family) → ((w : PlainWorld) → Says never k (R w [])) → Kinded k R
finished k R s = stepped k R (λ w. next (R w []) (s w))
  where
    next : (x : Said) → Says never k x → GoesOn (Kinded k) k R x
    next (Ends u r) (ends h) = h
    next (Asks u learnt task) (asks h) = absurd h

-- a row that asks at once and ends with the answer
pub passed : (k : Kind) (said : PlainWorld → Said) → ((w : PlainWorld) → Says (at_once k) k (said w)) → Kinded k (λ w. start (said w) (end w))
passed k said s = started k k said (λ w. end w) s (λ r f. ended k r f)

-- one row or the other, whatever the world
pub one_of : (k : Kind) (b : Bool) (R S : Family) → Kinded k R → Kinded k S → Kinded k (λ w. cond b (R w) (S w))
one_of k true R S p q = p
one_of k false R S p q = q

-- what is learnt but once
pub once_learnt : {A : Type 0} (k : Kind) (P : A → Type 0) (note : A → Fact) (of : Fact → Option A) (x : PlainWorld → A) (go : PlainWorld → A → Row) → ((y : A) → of (note y) ≡ Some y) → ((w : PlainWorld) → P (x w)) → ((y : A) → P y → Kinded k (λ w. go w y)) → Kinded k (λ w. once note of (x w) (go w))
once_learnt k P note of x go e h p = stepped k (λ w. once note of (x w) (go w)) (λ w. next w (go w (x w) []) (goes-on k (λ v. go v (x w)) (p (x w) (h w)) w))
  where
    next : (v : PlainWorld) → (s : Said) → GoesOn (Kinded k) k (λ w. go w (x v)) s → GoesOn (Kinded k) k (λ w. once note of (x w) (go w)) (noting (note (x v)) s)
    next v (Ends u r) q = q
    next v (Asks u learnt task) q = λ r f. subst (λ o. Kinded k (λ w told. once_told (x w) (go w) (note (x v)) (learnt ++ Answered r ∷ told) o)) (sym (e (x v))) (q r f)

pub chosen : (k : Kind) (x : PlainWorld → ℕ) (go : PlainWorld → ℕ → Row) → ((y : ℕ) → Kinded k (λ w. go w y)) → Kinded k (λ w. choose (x w) (go w))
chosen k x go p = once_learnt k (λ y. Unit {0}) Chose way_in x go (λ y. refl) (λ w. tt) (λ y h. p y)

pub read_objects_once : (k : Kind) (x : PlainWorld → List PyObjectRef) (go : PlainWorld → List PyObjectRef → Row) → ((y : List PyObjectRef) → Kinded k (λ w. go w y)) → Kinded k (λ w. read_objects (x w) (go w))
read_objects_once k x go p = once_learnt k (λ y. Unit {0}) ReadObjects objects_in x go (λ y. refl) (λ w. tt) (λ y h. p y)

pub read_names_once : (k : Kind) (x : PlainWorld → Bindings) (go : PlainWorld → Bindings → Row) → ((y : Bindings) → Kinded k (λ w. go w y)) → Kinded k (λ w. read_names (x w) (go w))
read_names_once k x go p = once_learnt k (λ y. Unit {0}) ReadNames names_in x go (λ y. refl) (λ w. tt) (λ y h. p y)

pub read_entries_once : (k : Kind) (P : List SlotEntry → Type 0) (x : PlainWorld → List SlotEntry) (go : PlainWorld → List SlotEntry → Row) → ((w : PlainWorld) → P (x w)) → ((y : List SlotEntry) → P y → Kinded k (λ w. go w y)) → Kinded k (λ w. read_once (x w) (go w))
read_entries_once k P x go h p = once_learnt k P Read entries_in x go (λ y. refl) h p

-- goes on with an answer of a kind

pub on-value : (k : Kind) (go : PlainWorld → PyObjectRef → Row) (r : Ended) → Fits Value r → ((v : PyObjectRef) → Kinded k (λ w. go w v)) → Kinded k (λ w. on_value w r (go w))
on-value k go (Ok (AsValue v)) f p = p v
on-value k go (Ok a) f p = absurd f
on-value k go (Err x) f p = ended k (Err x) tt

pub on-truth : (k : Kind) (go : PlainWorld → Bool → Row) (r : Ended) → Fits Truth r → ((b : Bool) → Kinded k (λ w. go w b)) → Kinded k (λ w. on_truth w r (go w))
on-truth k go (Ok (AsTruth b)) f p = p b
on-truth k go (Ok a) f p = absurd f
on-truth k go (Err x) f p = ended k (Err x) tt

pub on-number : (k : Kind) (go : PlainWorld → ℤ → Row) (r : Ended) → Fits Number r → ((z : ℤ) → Kinded k (λ w. go w z)) → Kinded k (λ w. on_number w r (go w))
on-number k go (Ok (AsNumber z)) f p = p z
on-number k go (Ok a) f p = absurd f
on-number k go (Err x) f p = ended k (Err x) tt

pub on-maybe : (k : Kind) (go : PlainWorld → Option PyObjectRef → Row) (r : Ended) → Fits Maybe r → ((o : Option PyObjectRef) → Kinded k (λ w. go w o)) → Kinded k (λ w. on_maybe w r (go w))
on-maybe k go (Ok (AsMaybe o)) f p = p o
on-maybe k go (Ok a) f p = absurd f
on-maybe k go (Err x) f p = ended k (Err x) tt

pub on-done : (k : Kind) (go : Family) (r : Ended) → Kinded k go → Kinded k (λ w. on_done w r (go w))
on-done k go (Ok a) p = p
on-done k go (Err x) p = ended k (Err x) tt

pub or-else : (go : Family) (r : Ended) → Fits Value r → Kinded Value go → Kinded Value (λ w. or_else w r (go w))
or-else go r f p = on-value Value (λ w x. cond (is_not_implemented x) (go w) (end w (value x))) r f (λ x. one_of Value (is_not_implemented x) go (λ w. end w (value x)) p (ended Value (value x) tt))

-- an end that reads the world
pub ended-by : (k : Kind) (r : PlainWorld → Ended) → ((w : PlainWorld) → Fits k (r w)) → Kinded k (λ w. end w (r w))
ended-by k r h = finished k (λ w. end w (r w)) (λ w. ends (h w))

-- it has learnt nothing before it asks, whatever that is
abbrev pub whatever : Told → Kind → Bool
whatever [] i = true
whatever (f ∷ fs) i = false

-- a row that goes on whatever the answer is
pub started_so : (k : Kind) (said : PlainWorld → Said) (go : PlainWorld → Ended → Row) → ((w : PlainWorld) → Says whatever k (said w)) → ((r : Ended) → Kinded k (λ w. go w r)) → Kinded k (λ w. start (said w) (go w))
started_so k said go s p = stepped k (λ w. start (said w) (go w)) (λ w. next (said w) (s w))
  where
    next : (x : Said) → Says whatever k x → GoesOn (Kinded k) k (λ w. start (said w) (go w)) x
    next (Ends u r) (ends h) = h
    next (Asks u [] task) (asks h) = λ r f. p r
    next (Asks u (f ∷ fs) task) (asks h) = absurd h

pub either-fits : (k : Kind) (b : Bool) (x y : Ended) → Fits k x → Fits k y → Fits k (cond b x y)
either-fits k true x y p q = p
either-fits k false x y p q = q

-- a native's answer is of its kind, as whichever task it is asked
pub native-kind : (n : NativeEntry) (args : List PyObjectRef) (kw : Bindings) → kind_of (native_task n args kw) ≡ kind_of_native n
unfolding kind_of_native
native-kind (OfObject n) args kw = refl
native-kind (OfType n) args kw = refl
native-kind (OfInt n) args kw = refl
native-kind n args kw = refl

pub native-asked : {q : Told → Kind → Bool} {k : Kind} (w : PlainWorld) (learnt : Told) (n : NativeEntry) (args : List PyObjectRef) (kw : Bindings) → So (q learnt (kind_of_native n)) → Says q k (Asks w learnt (native_task n args kw))
native-asked {q} w learnt n args kw h = asks (subst (λ i. So (q learnt i)) (sym (native-kind n args kw)) h)

-- an object or a number, which natives give
abbrev pub is_given : Kind → Bool
is_given Value = true
is_given TruthValue = true
is_given Number = true
is_given _ = false

abbrev pub IsGiven : Ended → Type 0
IsGiven (Ok (AsValue r)) = Unit {0}
IsGiven (Ok (AsNumber z)) = Unit {0}
IsGiven (Ok a) = ⊥
IsGiven (Err x) = Unit {0}

given-answer : (i : Kind) (a : PlainAnswer) → So (is_given i) → So (is_of i a) → IsGiven (Ok a)
given-answer Value (AsValue r) s h = tt
given-answer Value a s h = absurd h
given-answer TruthValue (AsValue r) s h = tt
given-answer TruthValue a s h = absurd h
given-answer Number (AsNumber z) s h = tt
given-answer Number a s h = absurd h
given-answer i a s h = absurd s

pub given : (i : Kind) (r : Ended) → So (is_given i) → Fits i r → IsGiven r
given i (Ok a) s h = given-answer i a s h
given i (Err x) s h = tt

pub value-given : (i : Kind) → So (within i Value) → So (is_given i)
value-given Value h = tt
value-given TruthValue h = tt
value-given i h = absurd h

pub native-given : (n : NativeEntry) → So (is_given (kind_of_native n))
unfolding kind_of_native
native-given (OfObject object.Hash) = tt
native-given (OfNumber number.Hash) = tt
native-given (OfStr str.Hash) = tt
native-given (OfTuple tuple.Hash) = tt
native-given (OfList list.Length) = tt
native-given (OfDict dict.Length) = tt
native-given n = tt

-- it has learnt nothing before it asks what gives an object or a number
abbrev pub for_given : Told → Kind → Bool
for_given [] i = is_given i
for_given (f ∷ fs) i = false

pub started-given : (k : Kind) (said : PlainWorld → Said) (go : PlainWorld → Ended → Row) → ((w : PlainWorld) → Says for_given k (said w)) → ((r : Ended) → IsGiven r → Kinded k (λ w. go w r)) → Kinded k (λ w. start (said w) (go w))
started-given k said go s p = stepped k (λ w. start (said w) (go w)) (λ w. next (said w) (s w))
  where
    next : (x : Said) → Says for_given k x → GoesOn (Kinded k) k (λ w. start (said w) (go w)) x
    next (Ends u r) (ends h) = h
    next (Asks u [] task) (asks h) = λ r f. p r (given (kind_of task) r h f)
    next (Asks u (f ∷ fs) task) (asks h) = absurd h

-- what is called by name, or read, is an object
pub named-end : (r : Ended) → IsGiven r → Kinded Value (λ w. named_end w r)
named-end (Ok (AsNumber z)) f = finished Value (λ w. make w the_int (ANumber z)) (λ w. ends tt)
named-end (Ok (AsValue v)) f = ended Value (value v) tt
named-end (Ok a) f = absurd f
named-end (Err x) f = ended Value (Err x) tt

pub named-row : (said : PlainWorld → Said) → ((w : PlainWorld) → Says for_given Value (said w)) → Kinded Value (λ w. start (said w) (named_end w))
named-row said s = started-given Value said (λ w. named_end w) s named-end

-- a test that holds, as an equation
pub true-so : (b : Bool) → So b → b ≡ true
true-so true s = refl
true-so false s = absurd s

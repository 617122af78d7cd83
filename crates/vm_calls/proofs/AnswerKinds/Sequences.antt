-- The natives that read and set items, go over them, compare, repeat, make or show what has parts answer of their kinds.
use Rattle.vm_calls.proofs.Below.{Bool, Err, List, None, Ok, Option, Some, cond, drop, encode_utf8_all, false, inl, inr, length, refl, subst, suc, sym, take, true, ℕ, [], PyObjectRef, IterEnd, SelfType, PySlice, SequenceIterator, items_at, answered as when_answered, at_place, stood, as_stood, is_number, item_ends, item_asked, item_got, get_item, tuple_get_item, list_get_item, chars_at, char_asked, character_at, character_made, char_rest, str_get_item, set_asked, set_rest, set_item, list_set_item, del_asked, del_rest, del_item, list_del_item, is_among, look_for, contains, list_extended, extend_rest, extend, list_extend, slice_at, part, place_at, put_part, iterator_in, found_in, next_in, next_from, is_end, next_item, iterator_next, chars, slice_get, slice_set, with_text_and, with_own_text, Kind, kind_of, as_said, argument, tested_first, taking_one, taking_two, taking_three, with_lone, with_own_and, with_own_and_two, tuple_made, list_made, list_changed, is_plain, ATuple, AList, Bindings, PlainWorld, DoIdEq, DoIndex, DoCollect, PlainTask, ToCompare, ToProtocol, AsValue, AsObjects, Ended, ReadObjects, Told, Said, Asks, Ends, datum_at, the_tuple, the_list, Row, value, fault, truth, with_two, Text}
use Rattle.std.proofs.Common.{◌++◌, ◌||◌, ◌∷◌, ◌≡◌, ◌⊎◌}
use Rattle.row_kit.specs.TakeContainers.{is_of as is_container}
use Rattle.row_kit.specs.declared.take_containers.Kind.{Kind as Container}
use Rattle.row_kit.specs.declared.take_containers.Kind.TheVariants as kind
use Rattle.native_containers.specs.declared.native_items.next.Found.{Found}
use Rattle.native_containers.specs.declared.native_items.next.Found.TheVariants as seen
use Rattle.native_containers.specs.NativeItems.Items.{placed as at_index, part_set}
use Rattle.native_containers.specs.NativeItems.Iterators.{next_by, next_rest}
use Rattle.vm_calls.specs.AnswerKinds.Kinds as kinds
use Rattle.vm_calls.proofs.AnswerKinds.Base.{So, Fits, within, wider, Family, GoesOn, Kinded, ended, Says, ends, asks, at_once, never, stepped, goes-on, started, finished, read_objects_once, on-value, either-fits}
use Rattle.vm_calls.proofs.AnswerKinds.Said.{either, takes-two, takes-text}
use Rattle.vm_calls.proofs.AnswerKinds.Gives.{object-given, text-given}
use Rattle.vm_calls.proofs.AnswerKinds.Entries.{on-objects, any-row}
use Rattle.vm_calls.proofs.AnswerKinds.Containers.{unless-long, list-changed}

-- a row that says this, whatever it was told
said-row : (k : Kind) (said : PlainWorld → Said) → ((w : PlainWorld) → Says never k (said w)) → Kinded k (λ w. as_said (said w))
said-row k said s = finished k (λ w. as_said (said w)) s

-- a row whose arguments are tested first
pub tested-row : (k : Kind) (said : PlainWorld → Said) (go : Family) → Kinded k go → ((w : PlainWorld) → (said w ≡ go w []) ⊎ Says never k (said w)) → Kinded k (λ w. tested_first (said w) (go w))
tested-row k said go p h = stepped k (λ w. tested_first (said w) (go w)) (λ w. at w (h w))
  where
    over : (s : Said) → Says never k s → GoesOn (Kinded k) k (λ w. tested_first (said w) (go w)) s
    over (Ends u r) (ends f) = f
    over (Asks u learnt task) (asks f) = absurd f

    on : (s : Said) → GoesOn (Kinded k) k go s → GoesOn (Kinded k) k (λ w. tested_first (said w) (go w)) s
    on (Ends u r) q = q
    on (Asks u [] task) q = q
    on (Asks u (f ∷ fs) task) q = q

    at : (w : PlainWorld) → (said w ≡ go w []) ⊎ Says never k (said w) → GoesOn (Kinded k) k (λ w. tested_first (said w) (go w)) (said w)
    at w (inl e) = subst (GoesOn (Kinded k) k (λ w. tested_first (said w) (go w))) (sym e) (on (go w []) (goes-on k go p w))
    at w (inr s) = over (said w) s

-- what a native takes, tested once

lone-tested : {k : Kind} (c : Container) (w : PlainWorld) (args : List PyObjectRef) (kw : Bindings) (row : PyObjectRef → Row) → (with_lone c w args kw (λ o. row o []) ≡ row (argument args 0) []) ⊎ Says never k (with_lone c w args kw (λ o. row o []))
lone-tested c w [] kw row = inr (ends tt)
lone-tested c w (o ∷ []) [] row = alone (is_container c (datum_at w o))
  where
    alone : {k : Kind} (b : Bool) → (cond b (row o []) (Ends w (fault SelfType)) ≡ row o []) ⊎ Says never k (cond b (row o []) (Ends w (fault SelfType)))
    alone true = inl refl
    alone false = inr (ends tt)
lone-tested c w (o ∷ []) (x ∷ kw) row = inr (either (is_container c (datum_at w o)) (ends tt) (ends tt))
lone-tested c w (o ∷ (a ∷ args)) kw row = inr (either (is_container c (datum_at w o)) (ends tt) (ends tt))

pub one-taken : (k : Kind) (c : Container) (args : List PyObjectRef) (kw : Bindings) (row : PlainWorld → PyObjectRef → Row) → ((o : PyObjectRef) → Kinded k (λ w. row w o)) → Kinded k (λ w. taking_one c w args kw (row w))
one-taken k c args kw row p = tested-row k (λ w. with_lone c w args kw (λ o. row w o [])) (λ w. row w (argument args 0)) (p (argument args 0)) (λ w. lone-tested c w args kw (row w))

two-tested : {k : Kind} (c : Container) (w : PlainWorld) (args : List PyObjectRef) (kw : Bindings) (row : PyObjectRef → PyObjectRef → Row) → (with_own_and c w args kw (λ o a. row o a []) ≡ row (argument args 0) (argument args 1) []) ⊎ Says never k (with_own_and c w args kw (λ o a. row o a []))
two-tested c w [] kw row = inr (ends tt)
two-tested c w (o ∷ []) kw row = inr (either (is_container c (datum_at w o)) (ends tt) (ends tt))
two-tested c w (o ∷ (a ∷ [])) [] row = both (is_container c (datum_at w o))
  where
    both : {k : Kind} (b : Bool) → (cond b (row o a []) (Ends w (fault SelfType)) ≡ row o a []) ⊎ Says never k (cond b (row o a []) (Ends w (fault SelfType)))
    both true = inl refl
    both false = inr (ends tt)
two-tested c w (o ∷ (a ∷ [])) (x ∷ kw) row = inr (either (is_container c (datum_at w o)) (ends tt) (ends tt))
two-tested c w (o ∷ (a ∷ (b ∷ args))) kw row = inr (either (is_container c (datum_at w o)) (ends tt) (ends tt))

pub two-taken : (k : Kind) (c : Container) (args : List PyObjectRef) (kw : Bindings) (row : PlainWorld → PyObjectRef → PyObjectRef → Row) → ((o a : PyObjectRef) → Kinded k (λ w. row w o a)) → Kinded k (λ w. taking_two c w args kw (row w))
two-taken k c args kw row p = tested-row k (λ w. with_own_and c w args kw (λ o a. row w o a [])) (λ w. row w (argument args 0) (argument args 1)) (p (argument args 0) (argument args 1)) (λ w. two-tested c w args kw (row w))

three-tested : {k : Kind} (c : Container) (w : PlainWorld) (args : List PyObjectRef) (kw : Bindings) (row : PyObjectRef → PyObjectRef → PyObjectRef → Row) → (with_own_and_two c w args kw (λ o a b. row o a b []) ≡ row (argument args 0) (argument args 1) (argument args 2) []) ⊎ Says never k (with_own_and_two c w args kw (λ o a b. row o a b []))
three-tested c w [] kw row = inr (ends tt)
three-tested c w (o ∷ []) kw row = inr (either (is_container c (datum_at w o)) (ends tt) (ends tt))
three-tested c w (o ∷ (a ∷ [])) kw row = inr (either (is_container c (datum_at w o)) (ends tt) (ends tt))
three-tested c w (o ∷ (a ∷ (b ∷ []))) [] row = all (is_container c (datum_at w o))
  where
    all : {k : Kind} (t : Bool) → (cond t (row o a b []) (Ends w (fault SelfType)) ≡ row o a b []) ⊎ Says never k (cond t (row o a b []) (Ends w (fault SelfType)))
    all true = inl refl
    all false = inr (ends tt)
three-tested c w (o ∷ (a ∷ (b ∷ []))) (x ∷ kw) row = inr (either (is_container c (datum_at w o)) (ends tt) (ends tt))
three-tested c w (o ∷ (a ∷ (b ∷ (d ∷ args)))) kw row = inr (either (is_container c (datum_at w o)) (ends tt) (ends tt))

pub three-taken : (k : Kind) (c : Container) (args : List PyObjectRef) (kw : Bindings) (row : PlainWorld → PyObjectRef → PyObjectRef → PyObjectRef → Row) → ((o a b : PyObjectRef) → Kinded k (λ w. row w o a b)) → Kinded k (λ w. taking_three c w args kw (row w))
three-taken k c args kw row p = tested-row k (λ w. with_own_and_two c w args kw (λ o a b. row w o a b [])) (λ w. row w (argument args 0) (argument args 1) (argument args 2)) (p (argument args 0) (argument args 1) (argument args 2)) (λ w. three-tested c w args kw (row w))

-- objects that were read before the first ask, if any

abbrev pub read_or : (Kind → Bool) → Told → Kind → Bool
read_or ok [] i = ok i
read_or ok (ReadObjects rs ∷ []) i = ok i
read_or ok _ i = false

stood-row : (k : Kind) (P : Ended → Type 0) (ok : Kind → Bool) (o : PyObjectRef) (said : PlainWorld → Said) (go : PlainWorld → List PyObjectRef → Ended → Row) → ((i : Kind) (r : Ended) → So (ok i) → Fits i r → P r) → ((w : PlainWorld) → Says (read_or ok) k (said w)) → ((rs : PlainWorld → List PyObjectRef) (r : Ended) → P r → Kinded k (λ w. go w (rs w) r)) → Kinded k (λ w. as_stood w o (said w) (go w))
stood-row k P ok o said go sound s p = stepped k (λ w. as_stood w o (said w) (go w)) (λ w. next (said w) (s w))
  where
    next : (x : Said) → Says (read_or ok) k x → GoesOn (Kinded k) k (λ w. as_stood w o (said w) (go w)) x
    next (Ends u r) (ends h) = h
    next (Asks u [] task) (asks h) = (λ r f. p (λ w. items_at w o) r (sound (kind_of task) r h f))
    next (Asks u (ReadObjects rs ∷ []) task) (asks h) = (λ r f. p (λ w. rs) r (sound (kind_of task) r h f))
    next (Asks u learnt task) (asks h) = absurd h

stood-asked : {k : Kind} (ok : Kind → Bool) (w : PlainWorld) (b : Bool) (o : PyObjectRef) (task : PlainTask) → So (ok (kind_of task)) → Says (read_or ok) k (Asks w (stood w b o) task)
stood-asked ok w true o task h = asks h
stood-asked ok w false o task h = asks h

abbrev is_object : Kind → Bool
is_object i = within i kinds.Value

placed-said : {k : Kind} (w : PlainWorld) (i : Option ℕ) (go : ℕ → Said) → ((i : ℕ) → Says never k (go i)) → Says never k (at_index w i go)
placed-said w None go p = ends tt
placed-said w (Some i) go p = p i

place-row : (k : Kind) (n : PlainWorld → ℕ) (go : PlainWorld → ℕ → Said) (r : Ended) → Fits kinds.Value r → ((w : PlainWorld) → (i : ℕ) → Says never k (go w i)) → Kinded k (λ w. at_place w (n w) r (go w))
place-row k n go r f p = on-value k (λ w i. as_said (at_index w (place_at w (n w) i) (go w))) r f (λ i. said-row k (λ w. at_index w (place_at w (n w) i) (go w)) (λ w. placed-said w (place_at w (n w) i) (go w) (p w)))

item-ends : (w : PlainWorld) (r : Option PyObjectRef) → Says never kinds.Value (item_ends w r)
item-ends w None = ends tt
item-ends w (Some r) = ends tt

item-asked : (w : PlainWorld) (made : List PyObjectRef → Said) (s : Option PySlice) (o k : PyObjectRef) → ((rs : List PyObjectRef) → Says (read_or is_object) kinds.Value (made rs)) → Says (read_or is_object) kinds.Value (item_asked w made s o k)
item-asked w made (Some s) o k p = p (part w s (items_at w o))
item-asked w made None o k p = stood-asked is_object w (is_number w k) o (ToProtocol (DoIndex k)) tt

get-item-row : (made : PlainWorld → List PyObjectRef → Said) → ((w : PlainWorld) → (rs : List PyObjectRef) → Says (read_or is_object) kinds.Value (made w rs)) → (o k : PyObjectRef) → Kinded kinds.Value (λ w. get_item w (made w) o k)
get-item-row made p o k =
    stood-row kinds.Value (Fits kinds.Value) is_object o (λ w. item_asked w (made w) (slice_at w k) o k) (λ w. item_got w) (λ i r h f. wider i kinds.Value r h f)
    (λ w. item-asked w (made w) (slice_at w k) o k (p w)) (λ rs r f. place-row kinds.Value (λ w. length (rs w)) (λ w i. item_ends w (slice_get (rs w) i)) r f (λ w i. item-ends w (slice_get (rs w) i)))

pub tuple-get-item : (args : List PyObjectRef) (kw : Bindings) → Kinded kinds.Value (λ w. tuple_get_item w args kw)
tuple-get-item args kw = two-taken kinds.Value kind.Tuple args kw (λ w. get_item w (tuple_made w)) (get-item-row (λ w. tuple_made w) (λ w rs. object-given w the_tuple (ATuple rs)))

pub list-get-item : (args : List PyObjectRef) (kw : Bindings) → Kinded kinds.Value (λ w. list_get_item w args kw)
list-get-item args kw = two-taken kinds.Value kind.List args kw (λ w. get_item w (list_made w)) (get-item-row (λ w. list_made w) (λ w rs. object-given w the_list (AList rs)))

-- an item or the items of a part
abbrev is_either : Kind → Bool
is_either i = within i kinds.Value || within i kinds.Objects

either-sound : (i : Kind) (r : Ended) → So (is_either i) → Fits i r → Fits kinds.Value r ⊎ Fits kinds.Objects r
either-sound kinds.Value r h f = inl f
either-sound kinds.TruthValue r h f = inl (wider kinds.TruthValue kinds.Value r tt f)
either-sound kinds.Objects r h f = inr f
either-sound i r h f = absurd h

part-set-said : (w : PlainWorld) (s : Option PySlice) (o : PyObjectRef) (rs vs : List PyObjectRef) → Says never kinds.Value (part_set w s o rs vs)
part-set-said w None o rs vs = ends tt
part-set-said w (Some s) o rs vs = list-changed w o (put_part w s rs vs)

set-rest : (o k v : PyObjectRef) (rs : PlainWorld → List PyObjectRef) (r : Ended) → Fits kinds.Value r ⊎ Fits kinds.Objects r → Kinded kinds.Value (λ w. set_rest w o k v (rs w) r)
set-rest o k v rs (Ok (AsObjects vs)) f = said-row kinds.Value (λ w. part_set w (slice_at w k) o (rs w) vs) (λ w. part-set-said w (slice_at w k) o (rs w) vs)
set-rest o k v rs (Ok (AsValue i)) f = place-row kinds.Value (λ w. length (rs w)) (λ w i. list_changed w o (slice_set (rs w) i v)) (value i) tt (λ w i. list-changed w o (slice_set (rs w) i v))
set-rest o k v rs (Ok a) (inl f) = absurd f
set-rest o k v rs (Ok a) (inr f) = absurd f
set-rest o k v rs (Err x) f = ended kinds.Value (Err x) tt

set-asked : (w : PlainWorld) (s : Option PySlice) (o k v : PyObjectRef) → Says (read_or is_either) kinds.Value (set_asked w s o k v)
set-asked w (Some s) o k v = stood-asked is_either w (is_plain w v) o (ToProtocol (DoCollect v)) tt
set-asked w None o k v = stood-asked is_either w (is_number w k) o (ToProtocol (DoIndex k)) tt

set-item-row : (o k v : PyObjectRef) → Kinded kinds.Value (λ w. set_item w o k v)
set-item-row o k v =
    stood-row kinds.Value (λ r. Fits kinds.Value r ⊎ Fits kinds.Objects r) is_either o (λ w. set_asked w (slice_at w k) o k v) (λ w. set_rest w o k v) either-sound
    (λ w. set-asked w (slice_at w k) o k v) (λ rs r f. set-rest o k v rs r f)

pub list-set-item : (args : List PyObjectRef) (kw : Bindings) → Kinded kinds.Value (λ w. list_set_item w args kw)
list-set-item args kw = three-taken kinds.Value kind.List args kw (λ w. set_item w) set-item-row

del-asked : (w : PlainWorld) (s : Option PySlice) (o k : PyObjectRef) → Says (read_or is_object) kinds.Value (del_asked w s o k)
del-asked w (Some s) o k = list-changed w o (put_part w s (items_at w o) [])
del-asked w None o k = stood-asked is_object w (is_number w k) o (ToProtocol (DoIndex k)) tt

del-item-row : (o k : PyObjectRef) → Kinded kinds.Value (λ w. del_item w o k)
del-item-row o k =
    stood-row kinds.Value (Fits kinds.Value) is_object o (λ w. del_asked w (slice_at w k) o k) (λ w. del_rest w o) (λ i r h f. wider i kinds.Value r h f)
    (λ w. del-asked w (slice_at w k) o k) (λ rs r f. place-row kinds.Value (λ w. length (rs w)) (λ w i. list_changed w o (take i (rs w) ++ drop (suc i) (rs w))) r f (λ w i. list-changed w o (take i (rs w) ++ drop (suc i) (rs w))))

pub list-del-item : (args : List PyObjectRef) (kw : Bindings) → Kinded kinds.Value (λ w. list_del_item w args kw)
list-del-item args kw = two-taken kinds.Value kind.List args kw (λ w. del_item w) del-item-row

truth-fits : (b : Bool) → Fits kinds.TruthValue (value (truth b))
truth-fits true = tt
truth-fits false = tt

pub contains-row : (c : Container) (args : List PyObjectRef) (kw : Bindings) → Kinded kinds.TruthValue (λ w. contains c w args kw)
contains-row c args kw =
    two-taken kinds.TruthValue c args kw (λ w. look_for w)
    (λ o x. read_objects_once kinds.TruthValue (λ w. items_at w o) (λ w. is_among w x) (λ rs. any-row kinds.TruthValue (λ r. ToCompare (DoIdEq r x)) (λ b. value (truth b)) (λ r. tt) truth-fits rs))

abbrev is_objects : Kind → Bool
is_objects i = within i kinds.Objects

extend-row : (o v : PyObjectRef) → Kinded kinds.Value (λ w. extend w o v)
extend-row o v =
    stood-row kinds.Value (Fits kinds.Objects) is_objects o (λ w. Asks w (stood w (is_plain w v) o) (ToProtocol (DoCollect v))) (λ w. extend_rest w o) (λ i r h f. wider i kinds.Objects r h f)
    (λ w. stood-asked is_objects w (is_plain w v) o (ToProtocol (DoCollect v)) tt)
    (λ rs r f. on-objects kinds.Value (λ w vs. as_said (list_extended w o (rs w ++ vs))) r f
    (λ vs. said-row kinds.Value (λ w. list_extended w o (rs w ++ vs)) (λ w. unless-long w (rs w ++ vs) _ (ends tt))))

pub list-extend : (args : List PyObjectRef) (kw : Bindings) → Kinded kinds.Value (λ w. list_extend w args kw)
list-extend args kw = two-taken kinds.Value kind.List args kw (λ w. extend w) extend-row

-- characters

character-said : (w : PlainWorld) (x : Option Text) → Says never kinds.Value (character_made w x)
character-said w None = ends tt
character-said w (Some x) = text-given w (Ok x)

own-text : {q : Told → Kind → Bool} (w : PlainWorld) (args : List PyObjectRef) (go : Text → Said) → ((x : Text) → Says q kinds.Value (go x)) → Says q kinds.Value (with_own_text w args go)
own-text w [] go p = ends tt
own-text w (o ∷ args) go p = takes-text w o go p

char-asked : (w : PlainWorld) (s : Option PySlice) (x : Text) (k : PyObjectRef) → Says (at_once kinds.Value) kinds.Value (char_asked w s x k)
char-asked w (Some s) x k = text-given w (Ok (encode_utf8_all (part w s (chars x))))
char-asked w None x k = asks tt

answered-row : (j k : Kind) (said : PlainWorld → Said) (go : PlainWorld → Ended → Row) → ((w : PlainWorld) → Says (at_once j) k (said w)) → ((r : Ended) → Fits j r → Kinded k (λ w. go w r)) → Kinded k (λ w. when_answered (said w) (go w))
answered-row j k said go s p = started j k said go s p

pub str-get-item : (args : List PyObjectRef) (kw : Bindings) → Kinded kinds.Value (λ w. str_get_item w args kw)
str-get-item args kw =
    answered-row kinds.Value kinds.Value (λ w. with_text_and w args kw (λ x k. char_asked w (slice_at w k) x k)) (λ w. char_rest w (chars_at w (argument args 0)))
    (λ w. own-text w args (λ x. with_two w args kw (λ o a. char_asked w (slice_at w a) x a)) (λ x. takes-two w args kw (λ o a. char_asked w (slice_at w a) x a) (λ o a. char-asked w (slice_at w a) x a)))
    (λ r f. on-value kinds.Value (λ w i. as_said (character_made w (character_at w (chars_at w (argument args 0)) i))) r f
    (λ i. said-row kinds.Value (λ w. character_made w (character_at w (chars_at w (argument args 0)) i)) (λ w. character-said w (character_at w (chars_at w (argument args 0)) i))))

-- iterators

next-in : (w : PlainWorld) (o : PyObjectRef) (i : SequenceIterator) (n : ℕ) (f : Found) → Says (at_once kinds.Value) kinds.Value (next_in w o i n f)
next-in w o i n seen.Nothing = ends tt
next-in w o i n (seen.Item r) = ends tt
next-in w o i n (seen.Character c) = ends tt
next-in w o i n seen.Unknown = asks tt

next-from : (w : PlainWorld) (o : PyObjectRef) (i : SequenceIterator) (n : Option ℕ) → Says (at_once kinds.Value) kinds.Value (next_from w o i n)
next-from w o i None = ends tt
next-from w o i (Some n) = next-in w o i n (found_in n (datum_at w i.object))

next-by : (w : PlainWorld) (o : PyObjectRef) (i : Option SequenceIterator) → Says (at_once kinds.Value) kinds.Value (next_by w o i)
next-by w o None = ends tt
next-by w o (Some i) = next-from w o i i.place

next-ends : (w : PlainWorld) (o : PyObjectRef) (i : Option SequenceIterator) (r : Ended) → Fits kinds.Value r → Says never kinds.Value (next_rest w o i r [])
next-ends w o (Some i) (Ok (AsValue v)) f = ends tt
next-ends w o (Some i) (Err x) f = ends (either-fits kinds.Value (is_end x.kind) (fault IterEnd) (Err x) tt tt)
next-ends w o i r f = ends f

pub iterator-next : (args : List PyObjectRef) (kw : Bindings) → Kinded kinds.Value (λ w. iterator_next w args kw)
iterator-next args kw =
    one-taken kinds.Value kind.Iterator args kw (λ w. next_item w)
    (λ o. started kinds.Value kinds.Value (λ w. next_by w o (iterator_in (datum_at w o))) (λ w. next_rest w o (iterator_in (datum_at w o))) (λ w. next-by w o (iterator_in (datum_at w o)))
    (λ r f. finished kinds.Value (λ w. next_rest w o (iterator_in (datum_at w o)) r) (λ w. next-ends w o (iterator_in (datum_at w o)) r f)))

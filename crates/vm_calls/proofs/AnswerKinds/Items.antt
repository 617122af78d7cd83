-- The rows of items, slices and views answer of their kinds.
use Rattle.vm_calls.proofs.Below.{Bool, Err, None, Ok, Option, Some, cond, false, suc, true, zero, ℕ, ℤ, [], PyObjectRef, NotSubscriptable, NonIterableMethod, MapSubscript, MapAssSubscript, SeqItem, SlotEntry, Known, Kind, items_job_say, is_subscripted, get_item_by, item_by, class_item, get_item_rest, get_item_say, deleted, set_item_by, del_item_by, assigner, ends_done, with_slice, get_slice_by, set_slice_by, del_slice_by, on_method, on_iterable, listed_by, listed, view_by, view_say, all_items, entered, is_exactly, list_made, keys_of, values_of, pairs_made, entries_at, AList, PlainWorld, DoInvoke, DoCall, DoGetItem, DoSetItem, DoDelItem, DoGetSlice, DoSetSlice, DoDelSlice, DoKeys, DoValues, DoItems, ToAttribute, ToCall, AsValue, AsFunction, AsAttribute, Ended, Chose, Told, Said, slot_at, the_list, the_dict, start, ask, end, done, pass, fault, is_attribute_error, on_value, make, Entries}
use Rattle.std.proofs.Common.{◌∷◌}
use Rattle.py_node.specs.declared.known.Known.TheVariants as known
use Rattle.vm_calls.specs.AnswerKinds.Kinds as kinds
use Rattle.vm_calls.proofs.AnswerKinds.Base.{So, Fits, Kinded, ended, Says, ends, asks, at_once, on_way, started, forked, asking, finished, passed, on-value, on-done, whatever, started_so, either-fits}
use Rattle.vm_calls.proofs.AnswerKinds.Said.{either}
use Rattle.vm_calls.proofs.AnswerKinds.Columns.{gives_in, slot-at-gives}
use Rattle.vm_calls.proofs.AnswerKinds.Tables.{item-column, subscript-column}
use Rattle.vm_calls.proofs.AnswerKinds.Gives.{object-given}
use Rattle.vm_calls.proofs.AnswerKinds.Containers.{pairs-given}
use Rattle.vm_calls.proofs.AnswerKinds.Entries.{entered-asked, entry-value, all-row}

get-item-said : (w : PlainWorld) (e seq : Option SlotEntry) (class : Bool) (o k : PyObjectRef) → So (gives_in kinds.Value e) → Says (on_way (λ n. kinds.Value)) kinds.Value (get_item_by w e seq class o k)
get-item-said w (Some e) seq class o k h = entered-asked w (Chose 0 ∷ []) e known.GetItem o (k ∷ []) (entry-value e h)
get-item-said w None (Some e) class o k h = asks tt
get-item-said w None None true o k h = asks tt
get-item-said w None None false o k h = ends tt

item-said : (w : PlainWorld) (e : Option SlotEntry) (o i : PyObjectRef) → So (gives_in kinds.Value e) → Says (at_once kinds.Value) kinds.Value (item_by w e o i)
item-said w None o i h = ends tt
item-said w (Some e) o i h = entered-asked w [] e known.GetItem o (i ∷ []) (entry-value e h)

class-item : (k : PyObjectRef) (r : Ended) → Fits kinds.Value r → Kinded kinds.Value (λ w. class_item w k r)
class-item k (Ok (AsValue v)) f = passed kinds.Value (λ w. pass w (ToCall (DoCall v (k ∷ []) []))) (λ w. asks tt)
class-item k (Ok a) f = absurd f
class-item k (Err x) f = ended kinds.Value (cond (is_attribute_error x.kind) (fault NotSubscriptable) (Err x)) (either-fits kinds.Value (is_attribute_error x.kind) (fault NotSubscriptable) (Err x) tt tt)

get-item-rest : (o k : PyObjectRef) (way : ℕ) (r : Ended) → Fits kinds.Value r → Kinded kinds.Value (λ w. get_item_rest w o k way r)
get-item-rest o k zero r f = ended kinds.Value r f
get-item-rest o k (suc zero) r f =
    on-value kinds.Value (λ w i. start (item_by w (slot_at w o SeqItem) o i) (end w)) r f
    (λ i. passed kinds.Value (λ w. item_by w (slot_at w o SeqItem) o i) (λ w. item-said w (slot_at w o SeqItem) o i (slot-at-gives kinds.Value SeqItem item-column w o)))
get-item-rest o k (suc (suc n)) r f = class-item k r f

get-item-row : (o k : PyObjectRef) → Kinded kinds.Value (λ w. get_item_say w o k)
get-item-row o k =
    forked (λ n. kinds.Value) kinds.Value (λ w. get_item_by w (slot_at w o MapSubscript) (slot_at w o SeqItem) (is_subscripted w o) o k) (λ w. get_item_rest w o k)
    (λ w. get-item-said w (slot_at w o MapSubscript) (slot_at w o SeqItem) (is_subscripted w o) o k (slot-at-gives kinds.Value MapSubscript subscript-column w o)) (λ way r f. get-item-rest o k way r f)

set-item-said : (w : PlainWorld) (e : Option SlotEntry) (o k v : PyObjectRef) → Says whatever kinds.Done (set_item_by w e o k v)
set-item-said w None o k v = ends tt
set-item-said w (Some e) o k v = entered-asked w [] e known.SetItem o (k ∷ v ∷ []) tt

del-item-said : (w : PlainWorld) (e : Option SlotEntry) (o k : PyObjectRef) → Says whatever kinds.Done (del_item_by w e o k)
del-item-said w None o k = ends tt
del-item-said w (Some e) o k = entered-asked w [] (deleted e) known.DelItem o (k ∷ []) tt

done-row : (said : PlainWorld → Said) → ((w : PlainWorld) → Says whatever kinds.Done (said w)) → Kinded kinds.Done (λ w. start (said w) (ends_done w))
done-row said s = started_so kinds.Done said (λ w. ends_done w) s (λ r. on-done kinds.Done (λ w. end w done) r (ended kinds.Done done tt))

-- slices

sliced : {q : Told → Kind → Bool} {k : Kind} (w : PlainWorld) (i j : ℤ) (go : PlainWorld → PyObjectRef → Said) → ((u : PlainWorld) (s : PyObjectRef) → Says q k (go u s)) → Says q k (with_slice w i j go)
sliced w i j go p = p _ _

get-slice-said : (w : PlainWorld) (e : Option SlotEntry) (o : PyObjectRef) (i j : ℤ) → So (gives_in kinds.Value e) → Says (at_once kinds.Value) kinds.Value (get_slice_by w e o i j)
get-slice-said w None o i j h = ends tt
get-slice-said w (Some e) o i j h = sliced w i j (λ u s. pass u (entered e known.GetItem o (s ∷ []))) (λ u s. entered-asked u [] e known.GetItem o (s ∷ []) (entry-value e h))

set-slice-said : (w : PlainWorld) (e : Option SlotEntry) (o : PyObjectRef) (i j : ℤ) (v : PyObjectRef) → Says whatever kinds.Done (set_slice_by w e o i j v)
set-slice-said w None o i j v = ends tt
set-slice-said w (Some e) o i j v = sliced w i j (λ u s. pass u (entered e known.SetItem o (s ∷ v ∷ []))) (λ u s. entered-asked u [] e known.SetItem o (s ∷ v ∷ []) tt)

del-slice-said : (w : PlainWorld) (e : Option SlotEntry) (o : PyObjectRef) (i j : ℤ) → Says whatever kinds.Done (del_slice_by w e o i j)
del-slice-said w None o i j = ends tt
del-slice-said w (Some e) o i j = sliced w i j (λ u s. pass u (entered (deleted e) known.DelItem o (s ∷ []))) (λ u s. entered-asked u [] (deleted e) known.DelItem o (s ∷ []) tt)

-- views

listed-rest : (r : Ended) → Fits kinds.Value r → Kinded kinds.Value (λ w. on_iterable w r (λ it. all_items w it [] (λ rs. make w the_list (AList rs))))
listed-rest (Err x) f = ended kinds.Value (fault NonIterableMethod) tt
listed-rest (Ok (AsValue it)) f = all-row kinds.Value it (λ w rs. make w the_list (AList rs)) (λ rs. finished kinds.Value (λ w. make w the_list (AList rs)) (λ w. ends tt)) []
listed-rest (Ok a) f = absurd f

listed-row : (r : PyObjectRef) → Kinded kinds.Value (λ w. listed w r)
listed-row r =
    started kinds.Value kinds.Value (λ w. listed_by w r) (λ w s. on_iterable w s (λ it. all_items w it [] (λ rs. make w the_list (AList rs))))
    (λ w. either (is_exactly w r the_list) (ends tt) (asks tt)) (λ s f. listed-rest s f)

view-said : (w : PlainWorld) (dict : Bool) (x : Known) (made : Entries → Said) (o : PyObjectRef) → ((es : Entries) → Says (at_once kinds.Method) kinds.Value (made es)) → Says (at_once kinds.Method) kinds.Value (view_by w dict x made o)
view-said w true x made o p = p (entries_at w o)
view-said w false x made o p = asks tt

view-rest : (r : Ended) → Fits kinds.Method r → Kinded kinds.Value (λ w. on_method w r (λ target f. ask w (ToAttribute (DoInvoke target f [] [])) (λ s. on_value w s (listed w))))
view-rest (Ok (AsFunction o f)) h = asking kinds.Value kinds.Value (ToAttribute (DoInvoke (Some o) f [] [])) (λ w s. on_value w s (listed w)) tt (λ s x. on-value kinds.Value (λ w. listed w) s x listed-row)
view-rest (Ok (AsAttribute f)) h = asking kinds.Value kinds.Value (ToAttribute (DoInvoke None f [] [])) (λ w s. on_value w s (listed w)) tt (λ s x. on-value kinds.Value (λ w. listed w) s x listed-row)
view-rest (Ok a) h = absurd h
view-rest (Err x) h = ended kinds.Value (Err x) tt

view-row : (x : Known) (made : PlainWorld → Entries → Said) (o : PyObjectRef) → ((w : PlainWorld) → (es : Entries) → Says (at_once kinds.Method) kinds.Value (made w es)) → Kinded kinds.Value (λ w. view_say w x (made w) o)
view-row x made o p =
    started kinds.Method kinds.Value (λ w. view_by w (is_exactly w o the_dict) x (made w) o) (λ w r. on_method w r (λ target f. ask w (ToAttribute (DoInvoke target f [] [])) (λ s. on_value w s (listed w))))
    (λ w. view-said w (is_exactly w o the_dict) x (made w) o (p w)) (λ r f. view-rest r f)

pub get-item : (o k : PyObjectRef) → Kinded kinds.Value (λ w. items_job_say w (DoGetItem o k))
unfolding items_job_say
get-item o k = get-item-row o k

pub set-item : (o k v : PyObjectRef) → Kinded kinds.Done (λ w. items_job_say w (DoSetItem o k v))
unfolding items_job_say
set-item o k v = done-row (λ w. set_item_by w (assigner w o) o k v) (λ w. set-item-said w (assigner w o) o k v)

pub del-item : (o k : PyObjectRef) → Kinded kinds.Done (λ w. items_job_say w (DoDelItem o k))
unfolding items_job_say
del-item o k = done-row (λ w. del_item_by w (assigner w o) o k) (λ w. del-item-said w (assigner w o) o k)

pub get-slice : (o : PyObjectRef) (i j : ℤ) → Kinded kinds.Value (λ w. items_job_say w (DoGetSlice o i j))
unfolding items_job_say
get-slice o i j = passed kinds.Value (λ w. get_slice_by w (slot_at w o MapSubscript) o i j) (λ w. get-slice-said w (slot_at w o MapSubscript) o i j (slot-at-gives kinds.Value MapSubscript subscript-column w o))

pub set-slice : (o : PyObjectRef) (i j : ℤ) (v : PyObjectRef) → Kinded kinds.Done (λ w. items_job_say w (DoSetSlice o i j v))
unfolding items_job_say
set-slice o i j v = done-row (λ w. set_slice_by w (slot_at w o MapAssSubscript) o i j v) (λ w. set-slice-said w (slot_at w o MapAssSubscript) o i j v)

pub del-slice : (o : PyObjectRef) (i j : ℤ) → Kinded kinds.Done (λ w. items_job_say w (DoDelSlice o i j))
unfolding items_job_say
del-slice o i j = done-row (λ w. del_slice_by w (slot_at w o MapAssSubscript) o i j) (λ w. del-slice-said w (slot_at w o MapAssSubscript) o i j)

pub keys-row : (o : PyObjectRef) → Kinded kinds.Value (λ w. items_job_say w (DoKeys o))
unfolding items_job_say
keys-row o = view-row known.Keys (λ w es. list_made w (keys_of es)) o (λ w es. object-given w the_list (AList (keys_of es)))

pub values-row : (o : PyObjectRef) → Kinded kinds.Value (λ w. items_job_say w (DoValues o))
unfolding items_job_say
values-row o = view-row known.Values (λ w es. list_made w (values_of es)) o (λ w es. object-given w the_list (AList (values_of es)))

pub items-row : (o : PyObjectRef) → Kinded kinds.Value (λ w. items_job_say w (DoItems o))
unfolding items_job_say
items-row o = view-row known.Items (λ w. pairs_made w []) o (λ w es. pairs-given w [] es)

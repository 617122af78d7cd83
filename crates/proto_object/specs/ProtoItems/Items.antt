-- What the rows of items say: how the item of a key is read, set and taken out.
use Rattle.proto_object.specs.Below.{ℕ, zero, suc, Bool, true, false, cond, not, eqb, [], Option, Some, None, Ok, Err, option_or, PyObjectRef, NotSubscriptable, NoItemAssignment, NoItemDeletion, NativeEntry, OfList, OfDict, MapSubscript, MapAssSubscript, SeqItem, SeqAssItem, SlotEntry, Native, known_text, the_type, is_instance, PlainWorld, DoGetAttr, DoCall, DoIndex, ToAttribute, ToCall, ToProtocol, AsValue, Ended, Chose, Said, Asks, Ends, Row, start, fork, pass, end, done, fault, is_attribute_error, on_value, on_done, slot_at, entered}
use Rattle.std.specs.Prelude.{◌&&◌, ◌∷◌}
use Rattle.py_node.specs.declared.entry.DictNative.TheVariants as dict
use Rattle.py_node.specs.declared.entry.ListNative.TheVariants as list
use Rattle.py_node.specs.declared.known.Known.TheVariants as known

-- a class other than `type`
abbrev pub is_subscripted : PlainWorld → PyObjectRef → Bool
is_subscripted w o = is_instance w o the_type && not (eqb o.0 the_type)

-- an item is read as from a mapping, or else by a whole number as from a sequence. A class may say what it gives for a key
abbrev pub get_item_by : PlainWorld → Option SlotEntry → Option SlotEntry → Bool → PyObjectRef → PyObjectRef → Said
get_item_by w (Some e) seq class o k = Asks w (Chose 0 ∷ []) (entered e known.GetItem o (k ∷ []))
get_item_by w None (Some e) class o k = Asks w (Chose 1 ∷ []) (ToProtocol (DoIndex k))
get_item_by w None None true o k = Asks w (Chose 2 ∷ []) (ToAttribute (DoGetAttr o (known_text known.ClassGetitem)))
get_item_by w None None false o k = Ends w (fault NotSubscriptable)

-- the item of a whole number
abbrev pub item_by : PlainWorld → Option SlotEntry → PyObjectRef → PyObjectRef → Said
item_by w None o i = Ends w (fault NotSubscriptable)
item_by w (Some e) o i = pass w (entered e known.GetItem o (i ∷ []))

abbrev pub class_item : PlainWorld → PyObjectRef → Ended → Row
class_item w k (Ok (AsValue g)) = start (pass w (ToCall (DoCall g (k ∷ []) []))) (end w)
class_item w k (Ok other) = end w (Ok other)
class_item w k (Err x) = end w (cond (is_attribute_error x.kind) (fault NotSubscriptable) (Err x))

abbrev pub get_item_rest : PlainWorld → PyObjectRef → PyObjectRef → ℕ → Ended → Row
get_item_rest w o k zero r = end w r
get_item_rest w o k (suc zero) r = on_value w r (λ i. start (item_by w (slot_at w o SeqItem) o i) (end w))
get_item_rest w o k (suc (suc n)) r = class_item w k r

abbrev pub get_item_say : PlainWorld → PyObjectRef → PyObjectRef → Row
get_item_say w o k =
    fork (get_item_by w (slot_at w o MapSubscript) (slot_at w o SeqItem) (is_subscripted w o) o k) (get_item_rest w o k)

-- an item is set, or taken out, as in a mapping, or else as in a sequence. One entry stands for both
abbrev pub deleting : NativeEntry → NativeEntry
deleting (OfList n) = OfList list.DelItem
deleting (OfDict n) = OfDict dict.DelItem
deleting n = n

abbrev pub deleted : SlotEntry → SlotEntry
deleted (Native n) = Native (deleting n)
deleted e = e

abbrev pub set_item_by : PlainWorld → Option SlotEntry → PyObjectRef → PyObjectRef → PyObjectRef → Said
set_item_by w None o k v = Ends w (fault NoItemAssignment)
set_item_by w (Some e) o k v = pass w (entered e known.SetItem o (k ∷ v ∷ []))

abbrev pub del_item_by : PlainWorld → Option SlotEntry → PyObjectRef → PyObjectRef → Said
del_item_by w None o k = Ends w (fault NoItemDeletion)
del_item_by w (Some e) o k = pass w (entered (deleted e) known.DelItem o (k ∷ []))

abbrev pub assigner : PlainWorld → PyObjectRef → Option SlotEntry
assigner w o = option_or (slot_at w o MapAssSubscript) (slot_at w o SeqAssItem)

-- whatever the answer is, it is done
abbrev pub ends_done : PlainWorld → Ended → Row
ends_done w r = on_done w r (end w done)

abbrev pub set_item_say : PlainWorld → PyObjectRef → PyObjectRef → PyObjectRef → Row
set_item_say w o k v = start (set_item_by w (assigner w o) o k v) (ends_done w)

abbrev pub del_item_say : PlainWorld → PyObjectRef → PyObjectRef → Row
del_item_say w o k = start (del_item_by w (assigner w o) o k) (ends_done w)

-- What the rows of slices say: how a part of a sequence is read, set and taken out.
use Rattle.proto_object.specs.Below.{ℕ, ℤ, [], Option, Some, None, PyObjectRef, Slice, Unsliceable, MapSubscript, MapAssSubscript, SlotEntry, place_of, the_int, ANumber, ASlice, PlainWorld, Said, Ends, Row, start, pass, end, fault, slot_at, with_node, next_node, entered}
use Rattle.std.specs.Prelude.{◌∷◌}
use Rattle.py_node.specs.declared.known.Known.TheVariants as known
use Rattle.proto_object.specs.ProtoItems.Items.{deleted, ends_done}

abbrev pub the_slice : ℕ
the_slice = place_of Slice

-- a new number for each bound, and then a new slice of both
abbrev pub with_slice : PlainWorld → ℤ → ℤ → (PlainWorld → PyObjectRef → Said) → Said
with_slice w i j go =
    let first = with_node w the_int (ANumber i) in
    let both = with_node first the_int (ANumber j) in
    let slice = ASlice (record { start = Some (next_node w the_int); stop = Some (next_node first the_int); step = None }) in
    go (with_node both the_slice slice) (next_node both the_slice)

abbrev pub get_slice_by : PlainWorld → Option SlotEntry → PyObjectRef → ℤ → ℤ → Said
get_slice_by w None o i j = Ends w (fault Unsliceable)
get_slice_by w (Some e) o i j = with_slice w i j (λ u s. pass u (entered e known.GetItem o (s ∷ [])))

abbrev pub get_slice_say : PlainWorld → PyObjectRef → ℤ → ℤ → Row
get_slice_say w o i j = start (get_slice_by w (slot_at w o MapSubscript) o i j) (end w)

abbrev pub set_slice_by : PlainWorld → Option SlotEntry → PyObjectRef → ℤ → ℤ → PyObjectRef → Said
set_slice_by w None o i j v = Ends w (fault Unsliceable)
set_slice_by w (Some e) o i j v = with_slice w i j (λ u s. pass u (entered e known.SetItem o (s ∷ v ∷ [])))

abbrev pub set_slice_say : PlainWorld → PyObjectRef → ℤ → ℤ → PyObjectRef → Row
set_slice_say w o i j v = start (set_slice_by w (slot_at w o MapAssSubscript) o i j v) (ends_done w)

abbrev pub del_slice_by : PlainWorld → Option SlotEntry → PyObjectRef → ℤ → ℤ → Said
del_slice_by w None o i j = Ends w (fault Unsliceable)
del_slice_by w (Some e) o i j = with_slice w i j (λ u s. pass u (entered (deleted e) known.DelItem o (s ∷ [])))

abbrev pub del_slice_say : PlainWorld → PyObjectRef → ℤ → ℤ → Row
del_slice_say w o i j = start (del_slice_by w (slot_at w o MapAssSubscript) o i j) (ends_done w)

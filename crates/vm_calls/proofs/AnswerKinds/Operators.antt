-- The rows of operators answer of their kinds.
use Rattle.vm_calls.proofs.Below.{Bool, Err, List, None, Ok, Option, Some, cond, eqb, false, suc, true, zero, ℕ, ℤ, [], PyObjectRef, Cause, UnsupportedOperand, NotConcatenable, NotRepeatable, RepeatTooLong, InplaceMultiply, NativeEntry, OfList, SlotId, SlotEntry, Native, Wrapper, Unhashable, Known, PyNumberBinaryOp, PyNumberUnaryOp, is_same_entry, without_same, class_at as class_of, list_any as any_in, option_or, repeated as native_repeated, Kind, kind_of_native, kind_of_entry, kind_of_operator, kind_of, total, int_or_fault, sum_say, int_say, operator_say, in_turn, binop1_say, method_of, asked_of_method, enter_by, enter_say, unsupported, slot_in_place, in_place_by, in_place_rest, inplace_op1_say, unary_name, unary_by, unary_say, enter_power_by, enter_power_say, thirds, third_of, third_by, power_in_turn, power_say, power_in_place_by, power_in_place_rest, inplace_power_say, joined, is_sequence, concat_by, concat_rest, concat_say, inplace_concat_slot, inplace_concat_say, repeated_by, repeated_rest, mul_say, inplace_mul_say, repeat_by, repeat_rest, repeat_say, inplace_repeat_slot, inplace_repeat_say, on_count, sequence_for, with_times, list_repeated, native_repeat, Datum, AText, ATuple, AList, Bindings, PlainWorld, OperatorJob, DoAdd, DoBinOp1, DoEnter, DoBinary, DoInplaceOp1, DoInplace, DoConcat, DoInplaceAdd, DoInplaceConcat, DoMul, DoRepeat, DoInplaceMul, DoInplaceRepeat, DoNativeRepeat, DoEnterPower, DoPower, DoInplacePower, DoUnary, DoInt, PlainTask, ToOperator, AsValue, Ended, Chose, Told, Said, text_keys, datum_at, number_of, slot_at, candidates_at, next_node, special_at, the_int, the_str, the_tuple, the_list, Row, start, ask, end, value, pass, fault, not_implemented, or_else, fits_index, within_index, read_once, native_task, two_of, known_text, operator_row, names_of, slot, goes_first, natives_of}
use Rattle.std.proofs.Common.{◌&&◌, ◌∷◌}
use Rattle.py_node.specs.declared.entry.SlotId.TheVariants as slots
use Rattle.py_node.specs.declared.task.PyNumberBinaryOp.TheVariants as op
use Rattle.class_model.specs.Slot.{in_turn as either_turn}
use Rattle.vm_calls.specs.AnswerKinds.Kinds as kinds
use Rattle.vm_calls.proofs.AnswerKinds.Base.{So, Fits, within, Kinded, ended, Says, ends, asks, at_once, on_way, never, started, forked, asking, finished, passed, chosen, read_entries_once, or-else, native-asked}
use Rattle.vm_calls.proofs.AnswerKinds.Said.{either}
use Rattle.vm_calls.proofs.AnswerKinds.Columns.{gives_in, Column, slot-gives, slot-at-gives}
use Rattle.vm_calls.proofs.AnswerKinds.Tables.{concat-column, inplace-concat-column}
use Rattle.vm_calls.proofs.AnswerKinds.OperatorTables.{power-column, right-power-column, inplace-power-column, left-column, right-column, in-place-gives}
use Rattle.vm_calls.proofs.AnswerKinds.Gives.{object-given}
use Rattle.proto_ops.specs.Sequences.{repeated}

-- the candidates are natives that answer with objects, or special methods

abbrev AllGive : List SlotEntry → Type 0
AllGive [] = Unit {0}
AllGive (s ∷ ss) = So (gives_in kinds.Value (Some s)) × AllGive ss

entry-within : (s : SlotEntry) → So (gives_in kinds.Value (Some s)) → So (within (kind_of_entry s) kinds.Value)
entry-within (Native n) h = h
entry-within (Wrapper s) h = tt
entry-within Unhashable h = tt

either-gives : (b : Bool) (x y : Option SlotEntry) → So (gives_in kinds.Value x) → So (gives_in kinds.Value y) → So (gives_in kinds.Value (cond b x y))
either-gives true x y p q = p
either-gives false x y p q = q

or-gives : (x y : Option SlotEntry) → So (gives_in kinds.Value x) → So (gives_in kinds.Value y) → So (gives_in kinds.Value (option_or x y))
or-gives None y p q = q
or-gives (Some s) y p q = p

two-give : (first : Bool) (l r : SlotEntry) → So (gives_in kinds.Value (Some l)) → So (gives_in kinds.Value (Some r)) → AllGive (cond first (r ∷ l ∷ []) (l ∷ r ∷ []))
two-give true l r p q = (q, (p, tt))
two-give false l r p q = (p, (q, tt))

turn-gives : (first : Bool) (l r : Option SlotEntry) → So (gives_in kinds.Value l) → So (gives_in kinds.Value r) → AllGive (either_turn first l r)
turn-gives first None None p q = tt
turn-gives first (Some l) None p q = (p, tt)
turn-gives first None (Some r) p q = (q, tt)
turn-gives first (Some l) (Some r) p q = two-give first l r p q

other-gives : (l r : Option SlotEntry) → So (gives_in kinds.Value r) → So (gives_in kinds.Value (without_same l r))
other-gives (Some l) (Some r) h = either-gives (is_same_entry l r) None (Some r) tt h
other-gives l r h = h

candidates-give : (left right : SlotId) → Column kinds.Value left → Column kinds.Value right → (w : PlainWorld) (c d : Option ℕ) → AllGive (candidates_at w left right c d)
candidates-give left right p q w None d = tt
candidates-give left right p q w (Some c) None = tt
candidates-give left right p q w (Some c) (Some d) =
    let l = slot text_keys natives_of w.classes c left in
    let r = slot text_keys natives_of w.classes d right in
    turn-gives (goes_first text_keys w.classes right c d) l (cond (eqb c d) None (without_same l r)) (slot-gives kinds.Value left p w.classes c)
    (either-gives (eqb c d) None (without_same l r) tt (other-gives l r (slot-gives kinds.Value right q w.classes d)))

-- operators of numbers

turns : (a b : PyObjectRef) (ss : List SlotEntry) → AllGive ss → Kinded kinds.Value (λ w. in_turn w a b ss)
turns a b [] h = ended kinds.Value (value not_implemented) tt
turns a b (s ∷ ss) h = asking kinds.Value kinds.Value (ToOperator (DoEnter s a b)) (λ w r. or_else w r (in_turn w a b ss)) (entry-within s h.0) (λ r f. or-else (λ w. in_turn w a b ss) r f (turns a b ss h.1))

binop1-row : (o : PyNumberBinaryOp) (a b : PyObjectRef) → Kinded kinds.Value (λ w. binop1_say w o a b)
binop1-row o a b =
    read_entries_once kinds.Value AllGive (λ w. candidates_at w (operator_row o).1 (operator_row o).2 (class_of w a) (class_of w b)) (λ w. in_turn w a b)
    (λ w. candidates-give (operator_row o).1 (operator_row o).2 (left-column o) (right-column o) w (class_of w a) (class_of w b)) (λ ss h. turns a b ss h)

itself : (k : Kind) → So (within k k)
itself kinds.Value = tt
itself k = tt

method-asked : (w : PlainWorld) (xs : List Known) (o : PyObjectRef) (args : List PyObjectRef) → Says (at_once kinds.Value) kinds.Value (asked_of_method w (method_of xs o args))
method-asked w [] o args = ends tt
method-asked w (x ∷ xs) o args = asks tt

enter-row : (s : SlotEntry) (a b : PyObjectRef) → Kinded (kind_of_entry s) (λ w. enter_say w s a b)
enter-row (Native n) a b = passed (kind_of_native n) (λ w. pass w (native_task n (a ∷ b ∷ []) [])) (λ w. native-asked w [] n (a ∷ b ∷ []) [] (itself (kind_of_native n)))
enter-row (Wrapper s) a b = passed kinds.Value (λ w. enter_by w (Wrapper s) a b) (λ w. method-asked w (names_of s) _ _)
enter-row Unhashable a b = passed kinds.Value (λ w. enter_by w Unhashable a b) (λ w. ends tt)

enter-power-row : (s : SlotEntry) (a b c : PyObjectRef) → Kinded (kind_of_entry s) (λ w. enter_power_say w s a b c)
enter-power-row (Native n) a b c = passed (kind_of_native n) (λ w. pass w (native_task n (a ∷ b ∷ c ∷ []) [])) (λ w. native-asked w [] n (a ∷ b ∷ c ∷ []) [] (itself (kind_of_native n)))
enter-power-row (Wrapper s) a b c = passed kinds.Value (λ w. enter_power_by w (Wrapper s) a b c) (λ w. method-asked w (names_of s) _ _)
enter-power-row Unhashable a b c = passed kinds.Value (λ w. enter_power_by w Unhashable a b c) (λ w. ends tt)

-- where an operator is not for its operands, this is done
otherwise : (task : PlainTask) (go : PlainWorld → Row) → So (within (kind_of task) kinds.Value) → Kinded kinds.Value go → Kinded kinds.Value (λ w. ask w task (λ r. or_else w r (go w)))
otherwise task go h p = asking kinds.Value kinds.Value task (λ w r. or_else w r (go w)) h (λ r f. or-else go r f p)

refused : (cause : Cause) → Kinded kinds.Value (λ w. end w (fault cause))
refused cause = ended kinds.Value (fault cause) tt

in-place-said : (w : PlainWorld) (s : Option SlotEntry) (o : PyNumberBinaryOp) (a b : PyObjectRef) → So (gives_in kinds.Value s) → Says (on_way (λ n. kinds.Value)) kinds.Value (in_place_by w s o a b)
in-place-said w None o a b h = asks tt
in-place-said w (Some s) o a b h = asks (entry-within s h)

in-place-rest : (o : PyNumberBinaryOp) (a b : PyObjectRef) (way : ℕ) (r : Ended) → Fits kinds.Value r → Kinded kinds.Value (λ w. in_place_rest w o a b way r)
in-place-rest o a b zero r f = ended kinds.Value r f
in-place-rest o a b (suc n) r f = or-else (λ w. start (pass w (ToOperator (DoBinOp1 o a b))) (end w)) r f (passed kinds.Value (λ w. pass w (ToOperator (DoBinOp1 o a b))) (λ w. asks tt))

in-place-row : (o : PyNumberBinaryOp) (a b : PyObjectRef) → Kinded kinds.Value (λ w. inplace_op1_say w o a b)
in-place-row o a b = forked (λ n. kinds.Value) kinds.Value (λ w. in_place_by w (slot_in_place w (operator_row o).3 a) o a b) (λ w. in_place_rest w o a b) (λ w. in-place-said w (slot_in_place w (operator_row o).3 a) o a b (in-place-gives o w a)) (λ way r f. in-place-rest o a b way r f)

unary-said : (w : PlainWorld) (x : Known) (a : PyObjectRef) (m : Option PyObjectRef) → Says (at_once kinds.Value) kinds.Value (unary_by w x a m)
unary-said w x a None = ends tt
unary-said w x a (Some m) = asks tt

unary-row : (o : PyNumberUnaryOp) (a : PyObjectRef) → Kinded kinds.Value (λ w. unary_say w o a)
unary-row o a = passed kinds.Value (λ w. unary_by w (unary_name o) a (special_at w a (known_text (unary_name o)))) (λ w. unary-said w (unary_name o) a (special_at w a (known_text (unary_name o))))

-- powers

third-gives : (way : ℕ) (ss : List SlotEntry) (s : Option SlotEntry) → So (gives_in kinds.Value s) → So (gives_in kinds.Value (third_of way ss s))
third-gives zero ss s h = tt
third-gives (suc n) ss None h = tt
third-gives (suc n) ss (Some s) h = either-gives (any_in (is_same_entry s) ss) None (Some s) tt h

third-said : (w : PlainWorld) (s : Option SlotEntry) (a b c : PyObjectRef) → So (gives_in kinds.Value s) → Says (at_once kinds.Value) kinds.Value (third_by w s a b c)
third-said w None a b c h = ends tt
third-said w (Some s) a b c h = asks (entry-within s h)

power-turns : (a b c : PyObjectRef) (way : ℕ) (tried ss : List SlotEntry) → AllGive ss → Kinded kinds.Value (λ w. power_in_turn w a b c way tried ss)
power-turns a b c way tried [] h =
    started kinds.Value kinds.Value (λ w. third_by w (third_of way tried (slot_at w c slots.Power)) a b c) (λ w r. or_else w r (unsupported w))
    (λ w. third-said w (third_of way tried (slot_at w c slots.Power)) a b c (third-gives way tried (slot_at w c slots.Power) (slot-at-gives kinds.Value slots.Power power-column w c)))
    (λ r f. or-else (λ w. unsupported w) r f (refused UnsupportedOperand))
power-turns a b c way tried (s ∷ ss) h = asking kinds.Value kinds.Value (ToOperator (DoEnterPower s a b c)) (λ w r. or_else w r (power_in_turn w a b c way tried ss)) (entry-within s h.0) (λ r f. or-else (λ w. power_in_turn w a b c way tried ss) r f (power-turns a b c way tried ss h.1))

power-row : (a b c : PyObjectRef) → Kinded kinds.Value (λ w. power_say w a b c)
power-row a b c =
    chosen kinds.Value (λ w. thirds w (candidates_at w slots.Power slots.RightPower (class_of w a) (class_of w b)) a b) (λ w way. read_once (candidates_at w slots.Power slots.RightPower (class_of w a) (class_of w b)) (λ tried. power_in_turn w a b c way tried tried))
    (λ way. read_entries_once kinds.Value AllGive (λ w. candidates_at w slots.Power slots.RightPower (class_of w a) (class_of w b)) (λ w tried. power_in_turn w a b c way tried tried)
    (λ w. candidates-give slots.Power slots.RightPower power-column right-power-column w (class_of w a) (class_of w b)) (λ tried h. power-turns a b c way tried tried h))

power-in-place-said : (w : PlainWorld) (s : Option SlotEntry) (a b c : PyObjectRef) → So (gives_in kinds.Value s) → Says (on_way (λ n. kinds.Value)) kinds.Value (power_in_place_by w s a b c)
power-in-place-said w None a b c h = asks tt
power-in-place-said w (Some s) a b c h = asks (entry-within s h)

power-in-place-rest : (a b c : PyObjectRef) (way : ℕ) (r : Ended) → Fits kinds.Value r → Kinded kinds.Value (λ w. power_in_place_rest w a b c way r)
power-in-place-rest a b c zero r f = ended kinds.Value r f
power-in-place-rest a b c (suc n) r f = or-else (λ w. start (pass w (ToOperator (DoPower a b c))) (end w)) r f (passed kinds.Value (λ w. pass w (ToOperator (DoPower a b c))) (λ w. asks tt))

power-in-place-row : (a b c : PyObjectRef) → Kinded kinds.Value (λ w. inplace_power_say w a b c)
power-in-place-row a b c = forked (λ n. kinds.Value) kinds.Value (λ w. power_in_place_by w (slot_at w a slots.InplacePower) a b c) (λ w. power_in_place_rest w a b c) (λ w. power-in-place-said w (slot_at w a slots.InplacePower) a b c (slot-at-gives kinds.Value slots.InplacePower inplace-power-column w a)) (λ way r f. power-in-place-rest a b c way r f)

-- sequences

joined-said : (w : PlainWorld) (s : Option SlotEntry) (task : PlainTask) → So (within (kind_of task) kinds.Value) → Says (at_once kinds.Value) kinds.Value (joined w s task)
joined-said w None task h = ends tt
joined-said w (Some s) task h = asks h

joined-row : (a : PyObjectRef) (task other : PlainTask) → So (within (kind_of task) kinds.Value) → So (within (kind_of other) kinds.Value) → Kinded kinds.Value (λ w. ask w task (λ r. or_else w r (start (joined w (slot_at w a slots.SeqItem) other) (end w))))
joined-row a task other h k = otherwise task (λ w. start (joined w (slot_at w a slots.SeqItem) other) (end w)) h (passed kinds.Value (λ w. joined w (slot_at w a slots.SeqItem) other) (λ w. joined-said w (slot_at w a slots.SeqItem) other k))

concat-said : (w : PlainWorld) (s : Option SlotEntry) (task : PlainTask) (a b : PyObjectRef) → So (gives_in kinds.Value s) → So (within (kind_of task) kinds.Value) → Says (on_way (λ n. kinds.Value)) kinds.Value (concat_by w s task a b)
concat-said w (Some (Native n)) task a b h k = native-asked w (Chose 0 ∷ []) n (a ∷ b ∷ []) [] h
concat-said w s task a b h k = either (is_sequence w a && is_sequence w b) (asks k) (ends tt)

concat-rest : (way : ℕ) (r : Ended) → Fits kinds.Value r → Kinded kinds.Value (λ w. concat_rest w way r)
concat-rest zero r f = ended kinds.Value r f
concat-rest (suc n) r f = or-else (λ w. end w (fault NotConcatenable)) r f (refused NotConcatenable)

concat-row : (a b : PyObjectRef) → Kinded kinds.Value (λ w. concat_say w a b)
concat-row a b = forked (λ n. kinds.Value) kinds.Value (λ w. concat_by w (slot_at w a slots.Concat) (ToOperator (DoBinOp1 op.Add a b)) a b) (λ w. concat_rest w) (λ w. concat-said w (slot_at w a slots.Concat) (ToOperator (DoBinOp1 op.Add a b)) a b (slot-at-gives kinds.Value slots.Concat concat-column w a) tt) (λ way r f. concat-rest way r f)

inplace-concat-row : (a b : PyObjectRef) → Kinded kinds.Value (λ w. inplace_concat_say w a b)
inplace-concat-row a b = forked (λ n. kinds.Value) kinds.Value (λ w. concat_by w (inplace_concat_slot w a) (ToOperator (DoInplaceOp1 op.Add a b)) a b) (λ w. concat_rest w) (λ w. concat-said w (inplace_concat_slot w a) (ToOperator (DoInplaceOp1 op.Add a b)) a b (or-gives _ _ (slot-at-gives kinds.Value slots.InplaceConcat inplace-concat-column w a) (slot-at-gives kinds.Value slots.Concat concat-column w a)) tt) (λ way r f. concat-rest way r f)

either-row : {q : Told → Kind → Bool} {k : Kind} (b : Bool) (R S : Row) → Says q k (R []) → Says q k (S []) → Says q k (cond b R S [])
either-row true R S p r = p
either-row false R S p r = r

index-within : {q : Told → Kind → Bool} {k : Kind} (w : PlainWorld) (cause : Cause) (z : Option ℤ) (go : ℤ → Row) → ((z : ℤ) → Says q k (go z [])) → Says q k (within_index w cause z go [])
index-within w cause None go p = ends tt
index-within w cause (Some z) go p = either-row (fits_index z) (go z) (end w (fault cause)) (p z) (ends tt)

pub count-said : {q : Told → Kind → Bool} {k : Kind} (w : PlainWorld) (r : Ended) (go : ℤ → Row) → Fits kinds.Value r → ((z : ℤ) → Says q k (go z [])) → Says q k (on_count w r go [])
count-said w (Ok (AsValue i)) go f p = index-within w RepeatTooLong (number_of (datum_at w i)) go p
count-said w (Ok a) go f p = absurd f
count-said w (Err x) go f p = ends tt

repeated-said : (w : PlainWorld) (s t : Option SlotEntry) (a b : PyObjectRef) → Says (on_way (λ n. kinds.Value)) kinds.Value (repeated_by w s t a b)
repeated-said w None None a b = ends tt
repeated-said w None (Some s) a b = asks tt
repeated-said w (Some s) r a b = asks tt

repeated-rest : (left right : ℤ → PlainTask) → ((z : ℤ) → So (within (kind_of (left z)) kinds.Value)) → ((z : ℤ) → So (within (kind_of (right z)) kinds.Value)) → (way : ℕ) (r : Ended) → Fits kinds.Value r → Kinded kinds.Value (λ w. repeated_rest w left right way r)
repeated-rest left right h k zero r f = passed kinds.Value (λ w. on_count w r (λ z told. pass w (left z)) []) (λ w. count-said w r (λ z told. pass w (left z)) f (λ z. asks (h z)))
repeated-rest left right h k (suc n) r f = passed kinds.Value (λ w. on_count w r (λ z told. pass w (right z)) []) (λ w. count-said w r (λ z told. pass w (right z)) f (λ z. asks (k z)))

repeated-row : (left right : ℤ → PlainTask) (a b : PyObjectRef) → ((z : ℤ) → So (within (kind_of (left z)) kinds.Value)) → ((z : ℤ) → So (within (kind_of (right z)) kinds.Value)) → Kinded kinds.Value (λ w. repeated w left right a b)
repeated-row left right a b h k = forked (λ n. kinds.Value) kinds.Value (λ w. repeated_by w (slot_at w a slots.SeqItem) (slot_at w b slots.SeqItem) a b) (λ w. repeated_rest w left right) (λ w. repeated-said w (slot_at w a slots.SeqItem) (slot_at w b slots.SeqItem) a b) (λ way r f. repeated-rest left right h k way r f)

mul-row : (a b : PyObjectRef) → Kinded kinds.Value (λ w. mul_say w a b)
mul-row a b = otherwise (ToOperator (DoBinOp1 op.Multiply a b)) (λ w. repeated w (λ z. ToOperator (DoRepeat a z)) (λ z. ToOperator (DoRepeat b z)) a b) tt (repeated-row (λ z. ToOperator (DoRepeat a z)) (λ z. ToOperator (DoRepeat b z)) a b (λ z. tt) (λ z. tt))

inplace-mul-row : (a b : PyObjectRef) → Kinded kinds.Value (λ w. inplace_mul_say w a b)
inplace-mul-row a b = otherwise (ToOperator (DoInplaceOp1 op.Multiply a b)) (λ w. repeated w (λ z. ToOperator (DoInplaceRepeat a z)) (λ z. ToOperator (DoRepeat b z)) a b) tt (repeated-row (λ z. ToOperator (DoInplaceRepeat a z)) (λ z. ToOperator (DoRepeat b z)) a b (λ z. tt) (λ z. tt))

repeat-said : (w : PlainWorld) (s : Option SlotEntry) (task : PyObjectRef → PlainTask) (a : PyObjectRef) (z : ℤ) → ((b : PyObjectRef) → So (within (kind_of (task b)) kinds.Value)) → Says (on_way (λ n. kinds.Value)) kinds.Value (repeat_by w s task a z)
repeat-said w (Some (Native n)) task a z h = asks tt
repeat-said w s task a z h = either (is_sequence w a) (asks (h (next_node w the_int))) (ends tt)

repeat-rest : (way : ℕ) (r : Ended) → Fits kinds.Value r → Kinded kinds.Value (λ w. repeat_rest w way r)
repeat-rest zero r f = ended kinds.Value r f
repeat-rest (suc n) r f = or-else (λ w. end w (fault NotRepeatable)) r f (refused NotRepeatable)

repeat-row : (a : PyObjectRef) (z : ℤ) → Kinded kinds.Value (λ w. repeat_say w a z)
repeat-row a z = forked (λ n. kinds.Value) kinds.Value (λ w. repeat_by w (slot_at w a slots.Repeat) (λ b. ToOperator (DoBinOp1 op.Multiply a b)) a z) (λ w. repeat_rest w) (λ w. repeat-said w (slot_at w a slots.Repeat) (λ b. ToOperator (DoBinOp1 op.Multiply a b)) a z (λ b. tt)) (λ way r f. repeat-rest way r f)

inplace-repeat-row : (a : PyObjectRef) (z : ℤ) → Kinded kinds.Value (λ w. inplace_repeat_say w a z)
inplace-repeat-row a z = forked (λ n. kinds.Value) kinds.Value (λ w. repeat_by w (inplace_repeat_slot w a) (λ b. ToOperator (DoInplaceOp1 op.Multiply a b)) a z) (λ w. repeat_rest w) (λ w. repeat-said w (inplace_repeat_slot w a) (λ b. ToOperator (DoInplaceOp1 op.Multiply a b)) a z (λ b. tt)) (λ way r f. repeat-rest way r f)

-- natives that repeat

pub times-said : {A : Type 0} {q : Told → Kind → Bool} {k : Kind} (w : PlainWorld) (z : ℤ) (xs : List A) (go : List A → Said) → ((ys : List A) → Says q k (go ys)) → Says q k (with_times w z xs go)
times-said w z xs go p = either _ (p _) (ends tt)

pub list-said : {q : Told → Kind → Bool} (w : PlainWorld) (n : NativeEntry) (o : PyObjectRef) (rs : List PyObjectRef) → Says q kinds.Value (list_repeated w n o rs)
list-said w (OfList InplaceMultiply) o rs = ends tt
list-said w n o rs = object-given w the_list (AList rs)

datum-repeated : {q : Told → Kind → Bool} (w : PlainWorld) (n : NativeEntry) (o : PyObjectRef) (z : ℤ) (d : Option Datum) → Says q kinds.Value (native_repeated w n o z d)
datum-repeated w n o z (Some (AText x)) = times-said w z x _ (λ y. object-given w the_str (AText y))
datum-repeated w n o z (Some (ATuple rs)) = times-said w z rs _ (λ ss. object-given w the_tuple (ATuple ss))
datum-repeated w n o z (Some (AList rs)) = times-said w z rs _ (λ ss. list-said w n o ss)
datum-repeated w n o z d = ends tt

pub native-repeated : {q : Told → Kind → Bool} (w : PlainWorld) (n : NativeEntry) (o : PyObjectRef) (z : ℤ) → Says q kinds.Value (native_repeat w n o z)
native-repeated w n o z = datum-repeated w n o z (sequence_for n (datum_at w o))

-- the sum of numbers

total-said : (w : PlainWorld) (z : Option ℤ) → Says never kinds.Value (int_or_fault w z [])
total-said w None = ends tt
total-said w (Some z) = ends tt

sum-said : (w : PlainWorld) (x y : Option ℤ) → Says never kinds.Value (sum_say w x y [])
sum-said w (Some x) (Some y) = total-said w (total x y)
sum-said w x y = ends tt

int-said : (w : PlainWorld) (p : Option (PyObjectRef × PyObjectRef)) (kw : Bindings) → Says never kinds.Value (int_say w p kw [])
int-said w None kw = ends tt
int-said w (Some p) [] = sum-said w (number_of (datum_at w p.0)) (number_of (datum_at w p.1))
int-said w (Some p) (k ∷ kw) = ends tt

pub operator-rows : (job : OperatorJob) → Kinded (kind_of_operator job) (λ w. operator_say w job)
unfolding operator_say
operator-rows (DoAdd a b) = joined-row a (ToOperator (DoBinOp1 op.Add a b)) (ToOperator (DoConcat a b)) tt tt
operator-rows (DoBinOp1 o a b) = binop1-row o a b
operator-rows (DoEnter s a b) = enter-row s a b
operator-rows (DoBinary o a b) = otherwise (ToOperator (DoBinOp1 o a b)) (λ w. unsupported w) tt (refused UnsupportedOperand)
operator-rows (DoInplaceOp1 o a b) = in-place-row o a b
operator-rows (DoInplace o a b) = otherwise (ToOperator (DoInplaceOp1 o a b)) (λ w. unsupported w) tt (refused UnsupportedOperand)
operator-rows (DoConcat a b) = concat-row a b
operator-rows (DoInplaceAdd a b) = joined-row a (ToOperator (DoInplaceOp1 op.Add a b)) (ToOperator (DoInplaceConcat a b)) tt tt
operator-rows (DoInplaceConcat a b) = inplace-concat-row a b
operator-rows (DoMul a b) = mul-row a b
operator-rows (DoRepeat a z) = repeat-row a z
operator-rows (DoInplaceMul a b) = inplace-mul-row a b
operator-rows (DoInplaceRepeat a z) = inplace-repeat-row a z
operator-rows (DoNativeRepeat n a z) = finished kinds.Value (λ w told. native_repeat w n a z) (λ w. native-repeated w n a z)
operator-rows (DoEnterPower s a b c) = enter-power-row s a b c
operator-rows (DoPower a b c) = power-row a b c
operator-rows (DoInplacePower a b c) = power-in-place-row a b c
operator-rows (DoUnary o a) = unary-row o a
operator-rows (DoInt n args kw) = finished kinds.Value (λ w. int_say w (two_of args) kw) (λ w. int-said w (two_of args) kw)

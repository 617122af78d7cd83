-- What the rows of comparisons say.
use Rattle.proto_ops.specs.Below.{ℕ, zero, suc, Bool, true, false, cond, not, eqb, [], Option, Some, None, Ok, PyObjectRef, UnsupportedOperand, CompareNative, ObjectNative, NativeEntry, OfObject, Compare, Richcompare, SlotEntry, Native, PyComparisonOp, Lt, Gt, Ne, Eq, Le, Ge, known_text, is_sub, PlainWorld, CompareJob, DoCompare, DoCmp, DoRichBool, DoBoolEq, DoIdEq, DoSeqLt, DoSeqGt, DoSpecial, DoIsTrue, ToAttribute, ToCompare, ToProtocol, AsTruth, AsMaybe, Ended, Said, class_at, slot_at, native_task, fixed_false, fixed_true, Row, start, ask, pass, end, value, truth, fault, or_else, on_value, on_truth, choose}
use Rattle.std.specs.Prelude.{◌&&◌, ◌∷◌}
use Rattle.py_node.specs.declared.entry.CompareNative.TheVariants as compare
use Rattle.py_node.specs.declared.entry.ObjectNative.TheVariants as object
use Rattle.proto_ops.specs.ProtoCompare.Comparisons.{swapped, method_of}

-- whether the second class is another one than the first, and derives from it
abbrev pub is_heir : PlainWorld → Option ℕ → Option ℕ → Bool
is_heir w None d = false
is_heir w (Some c) None = false
is_heir w (Some c) (Some d) = not (eqb c d) && is_sub w.classes d c

-- where no class says anything, objects are equal that are one, and have no order
abbrev pub by_identity : PlainWorld → PyObjectRef → PyObjectRef → PyComparisonOp → Row
by_identity w a b Eq = end w (value (truth (eqb a.0 b.0)))
by_identity w a b Ne = end w (value (truth (not (eqb a.0 b.0))))
by_identity w a b o = end w (fault UnsupportedOperand)

abbrev pub left_asked : PlainWorld → PyObjectRef → PyObjectRef → PyComparisonOp → (Ended → Row) → Row
left_asked w a b o go = ask w (ToCompare (DoCmp a b o)) go

abbrev pub right_asked : PlainWorld → PyObjectRef → PyObjectRef → PyComparisonOp → (Ended → Row) → Row
right_asked w a b o go = ask w (ToCompare (DoCmp b a (swapped o))) go

-- the left operand is asked first, or the right one
abbrev pub compared : PlainWorld → PyObjectRef → PyObjectRef → PyComparisonOp → ℕ → Row
compared w a b o zero = left_asked w a b o (λ r. or_else w r (right_asked w a b o (λ s. or_else w s (by_identity w a b o))))
compared w a b o (suc n) = right_asked w a b o (λ r. or_else w r (left_asked w a b o (λ s. or_else w s (by_identity w a b o))))

-- which goes first is read once: the right operand, where its class derives from that of the left one
abbrev pub compare_say : PlainWorld → PyObjectRef → PyObjectRef → PyComparisonOp → Row
compare_say w a b o = choose (cond (is_heir w (class_at w a) (class_at w b)) 1 0) (compared w a b o)

-- the natives of a comparison
abbrev pub object_native : PyComparisonOp → ObjectNative
object_native Lt = object.Lt
object_native Gt = object.Gt
object_native Ne = object.Ne
object_native Eq = object.Eq
object_native Le = object.Le
object_native Ge = object.Ge

abbrev pub built_in_native : PyComparisonOp → CompareNative
built_in_native Lt = compare.Lt
built_in_native Gt = compare.Gt
built_in_native Ne = compare.Ne
built_in_native Eq = compare.Eq
built_in_native Le = compare.Le
built_in_native Ge = compare.Ge

-- the native of a comparison, of those that a slot has
abbrev pub native_for : NativeEntry → PyComparisonOp → NativeEntry
native_for (OfObject n) o = OfObject (object_native o)
native_for (Compare b n) o = Compare b (built_in_native o)
native_for n o = n

-- what the class of the first operand says: its native, or its special method
abbrev pub cmp_by : PlainWorld → Option SlotEntry → PyObjectRef → PyObjectRef → PyComparisonOp → Said
cmp_by w (Some (Native n)) a b o = pass w (native_task (native_for n o) (a ∷ b ∷ []) [])
cmp_by w _ a b o = pass w (ToAttribute (DoSpecial a (known_text (method_of o)) (b ∷ []) []))

abbrev pub cmp_say : PlainWorld → PyObjectRef → PyObjectRef → PyComparisonOp → Row
cmp_say w a b o = start (cmp_by w (slot_at w a Richcompare) a b o) (end w)

-- the truth value that an object is, if it is one
abbrev pub truth_of : PyObjectRef → Option Bool
truth_of x = cond (eqb x.0 fixed_true) (Some true) (cond (eqb x.0 fixed_false) (Some false) None)

-- whether what a comparison gives counts as true: True and False are themselves, and anything else is asked
abbrev pub counts : PlainWorld → Option Bool → PyObjectRef → Row
counts w (Some b) x = end w (Ok (AsTruth b))
counts w None x = ask w (ToProtocol (DoIsTrue x)) (end w)

abbrev pub rich_bool_say : PlainWorld → PyObjectRef → PyObjectRef → PyComparisonOp → Row
rich_bool_say w a b o = ask w (ToCompare (DoCompare a b o)) (λ r. on_value w r (λ x. counts w (truth_of x) x))

abbrev pub bool_eq_say : PlainWorld → PyObjectRef → PyObjectRef → Row
bool_eq_say w a b = ask w (ToCompare (DoRichBool a b Eq)) (end w)

-- an object is equal to itself, and that is not asked
abbrev pub id_eq_say : PlainWorld → PyObjectRef → PyObjectRef → Row
id_eq_say w a b = cond (eqb a.0 b.0) (end w (Ok (AsTruth true))) (ask w (ToCompare (DoBoolEq a b)) (end w))

-- the order of two sequences is that of two of their items, unless these are equal
abbrev pub decided : PlainWorld → Bool → Row
decided w b = end w (Ok (AsMaybe (Some (truth b))))

abbrev pub undecided : PlainWorld → Row
undecided w = end w (Ok (AsMaybe None))

abbrev pub unless_equal : PlainWorld → Ended → Row
unless_equal w r = on_truth w r (λ equal. cond equal (undecided w) (decided w false))

abbrev pub seq_say : PlainWorld → PyComparisonOp → PyObjectRef → PyObjectRef → Row
seq_say w o a b =
    ask w (ToCompare (DoRichBool a b o)) (λ r. on_truth w r (λ holds. cond holds (decided w true) (ask w (ToCompare (DoBoolEq a b)) (unless_equal w))))

unfoldable pub compare_job_say : PlainWorld → CompareJob → Row
compare_job_say w (DoCompare a b o) told = compare_say w a b o told
compare_job_say w (DoCmp a b o) told = cmp_say w a b o told
compare_job_say w (DoRichBool a b o) told = rich_bool_say w a b o told
compare_job_say w (DoBoolEq a b) told = bool_eq_say w a b told
compare_job_say w (DoIdEq a b) told = id_eq_say w a b told
compare_job_say w (DoSeqLt a b) told = seq_say w Lt a b told
compare_job_say w (DoSeqGt a b) told = seq_say w Gt a b told

-- The rows of comparisons answer of their kinds.
use Rattle.vm_calls.proofs.Below.{Bool, None, Ok, Option, Some, cond, eqb, false, not, suc, true, zero, ℕ, [], PyObjectRef, UnsupportedOperand, NativeEntry, OfObject, Compare, Richcompare, SlotEntry, Native, PyComparisonOp, Lt, Gt, Ne, Eq, Le, Ge, class_at as class_of, kind_of_native, kind_of_compare, kind_of, is_heir, by_identity, compared, compare_say, native_for, cmp_by, cmp_say, counts, rich_bool_say, bool_eq_say, id_eq_say, decided, undecided, seq_say, compare_job_say, swapped, PlainWorld, CompareJob, DoCompare, DoCmp, DoRichBool, DoBoolEq, DoIdEq, DoSeqLt, DoSeqGt, DoIsTrue, PlainTask, ToCompare, ToProtocol, AsTruth, AsMaybe, slot_at, ask, end, value, fault, on_value, on_truth, truth, or_else}
use Rattle.std.proofs.Common.{◌∷◌}
use Rattle.vm_calls.specs.AnswerKinds.Kinds as kinds
use Rattle.vm_calls.proofs.AnswerKinds.Base.{So, within, Family, Kinded, ended, Says, asks, at_once, asking, passed, one_of, chosen, on-value, on-truth, or-else, native-asked}
use Rattle.vm_calls.proofs.AnswerKinds.Columns.{gives_in, slot-at-gives}
use Rattle.vm_calls.proofs.AnswerKinds.Tables.{compare-column}
use Rattle.proto_ops.specs.ProtoCompare.Say.{truth_of}

identity-row : (a b : PyObjectRef) (o : PyComparisonOp) → Kinded kinds.Value (λ w. by_identity w a b o)
identity-row a b Eq = ended kinds.Value (value (truth (eqb a.0 b.0))) tt
identity-row a b Ne = ended kinds.Value (value (truth (not (eqb a.0 b.0)))) tt
identity-row a b Lt = ended kinds.Value (fault UnsupportedOperand) tt
identity-row a b Gt = ended kinds.Value (fault UnsupportedOperand) tt
identity-row a b Le = ended kinds.Value (fault UnsupportedOperand) tt
identity-row a b Ge = ended kinds.Value (fault UnsupportedOperand) tt

-- two tasks are asked, one after the other, until one is for its operands
both-asked : (first second : PlainTask) (go : Family) → So (within (kind_of first) kinds.Value) → So (within (kind_of second) kinds.Value) → Kinded kinds.Value go → Kinded kinds.Value (λ w. ask w first (λ r. or_else w r (ask w second (λ s. or_else w s (go w)))))
both-asked first second go h k p =
    asking kinds.Value kinds.Value first (λ w r. or_else w r (ask w second (λ s. or_else w s (go w)))) h
    (λ r f. or-else (λ w. ask w second (λ s. or_else w s (go w))) r f
    (asking kinds.Value kinds.Value second (λ w s. or_else w s (go w)) k (λ s x. or-else go s x p)))

compared-row : (a b : PyObjectRef) (o : PyComparisonOp) (way : ℕ) → Kinded kinds.Value (λ w. compared w a b o way)
compared-row a b o zero = both-asked (ToCompare (DoCmp a b o)) (ToCompare (DoCmp b a (swapped o))) (λ w. by_identity w a b o) tt tt (identity-row a b o)
compared-row a b o (suc n) = both-asked (ToCompare (DoCmp b a (swapped o))) (ToCompare (DoCmp a b o)) (λ w. by_identity w a b o) tt tt (identity-row a b o)

compare-row : (a b : PyObjectRef) (o : PyComparisonOp) → Kinded kinds.Value (λ w. compare_say w a b o)
compare-row a b o = chosen kinds.Value (λ w. cond (is_heir w (class_of w a) (class_of w b)) 1 0) (λ w. compared w a b o) (λ way. compared-row a b o way)

comparing : (n : NativeEntry) (o : PyComparisonOp) → So (within (kind_of_native n) kinds.Value) → So (within (kind_of_native (native_for n o)) kinds.Value)
unfolding kind_of_native
comparing (OfObject n) Lt h = tt
comparing (OfObject n) Gt h = tt
comparing (OfObject n) Ne h = tt
comparing (OfObject n) Eq h = tt
comparing (OfObject n) Le h = tt
comparing (OfObject n) Ge h = tt
comparing (Compare b n) o h = tt
comparing n o h = h

cmp-said : (w : PlainWorld) (e : Option SlotEntry) (a b : PyObjectRef) (o : PyComparisonOp) → So (gives_in kinds.Value e) → Says (at_once kinds.Value) kinds.Value (cmp_by w e a b o)
cmp-said w (Some (Native n)) a b o h = native-asked w [] (native_for n o) (a ∷ b ∷ []) [] (comparing n o h)
cmp-said w e a b o h = asks tt

cmp-row : (a b : PyObjectRef) (o : PyComparisonOp) → Kinded kinds.Value (λ w. cmp_say w a b o)
cmp-row a b o = passed kinds.Value (λ w. cmp_by w (slot_at w a Richcompare) a b o) (λ w. cmp-said w (slot_at w a Richcompare) a b o (slot-at-gives kinds.Value Richcompare compare-column w a))

counts-row : (b : Option Bool) (x : PyObjectRef) → Kinded kinds.Truth (λ w. counts w b x)
counts-row (Some b) x = ended kinds.Truth (Ok (AsTruth b)) tt
counts-row None x = asking kinds.Truth kinds.Truth (ToProtocol (DoIsTrue x)) (λ w. end w) tt (λ r f. ended kinds.Truth r f)

rich-row : (a b : PyObjectRef) (o : PyComparisonOp) → Kinded kinds.Truth (λ w. rich_bool_say w a b o)
rich-row a b o =
    asking kinds.Value kinds.Truth (ToCompare (DoCompare a b o)) (λ w r. on_value w r (λ x. counts w (truth_of x) x)) tt
    (λ r f. on-value kinds.Truth (λ w x. counts w (truth_of x) x) r f (λ x. counts-row (truth_of x) x))

equal-row : (a b : PyObjectRef) → Kinded kinds.Truth (λ w. bool_eq_say w a b)
equal-row a b = asking kinds.Truth kinds.Truth (ToCompare (DoRichBool a b Eq)) (λ w. end w) tt (λ r f. ended kinds.Truth r f)

same-row : (a b : PyObjectRef) → Kinded kinds.Truth (λ w. id_eq_say w a b)
same-row a b =
    one_of kinds.Truth (eqb a.0 b.0) (λ w. end w (Ok (AsTruth true))) (λ w. ask w (ToCompare (DoBoolEq a b)) (end w)) (ended kinds.Truth (Ok (AsTruth true)) tt)
    (asking kinds.Truth kinds.Truth (ToCompare (DoBoolEq a b)) (λ w. end w) tt (λ r f. ended kinds.Truth r f))

seq-row : (o : PyComparisonOp) (a b : PyObjectRef) → Kinded kinds.TruthOrNone (λ w. seq_say w o a b)
seq-row o a b =
    asking kinds.Truth kinds.TruthOrNone (ToCompare (DoRichBool a b o)) (λ w r. on_truth w r (λ holds. cond holds (decided w true) (ask w (ToCompare (DoBoolEq a b)) (λ s. on_truth w s (λ equal. cond equal (undecided w) (decided w false)))))) tt
    (λ r f. on-truth kinds.TruthOrNone (λ w holds. cond holds (decided w true) (ask w (ToCompare (DoBoolEq a b)) (λ s. on_truth w s (λ equal. cond equal (undecided w) (decided w false))))) r f
    (λ holds. one_of kinds.TruthOrNone holds (λ w. decided w true) (λ w. ask w (ToCompare (DoBoolEq a b)) (λ s. on_truth w s (λ equal. cond equal (undecided w) (decided w false))))
    (ended kinds.TruthOrNone (Ok (AsMaybe (Some (truth true)))) tt)
    (asking kinds.Truth kinds.TruthOrNone (ToCompare (DoBoolEq a b)) (λ w s. on_truth w s (λ equal. cond equal (undecided w) (decided w false))) tt
    (λ s h. on-truth kinds.TruthOrNone (λ w equal. cond equal (undecided w) (decided w false)) s h
    (λ equal. one_of kinds.TruthOrNone equal (λ w. undecided w) (λ w. decided w false) (ended kinds.TruthOrNone (Ok (AsMaybe None)) tt) (ended kinds.TruthOrNone (Ok (AsMaybe (Some (truth false)))) tt))))))

pub compare-rows : (job : CompareJob) → Kinded (kind_of_compare job) (λ w. compare_job_say w job)
unfolding compare_job_say
compare-rows (DoCompare a b o) = compare-row a b o
compare-rows (DoCmp a b o) = cmp-row a b o
compare-rows (DoRichBool a b o) = rich-row a b o
compare-rows (DoBoolEq a b) = equal-row a b
compare-rows (DoIdEq a b) = same-row a b
compare-rows (DoSeqLt a b) = seq-row Lt a b
compare-rows (DoSeqGt a b) = seq-row Gt a b

-- All rows together.
use Rattle.vm_calls.proofs.Below.{ℤ, Option, Some, None, sym, subst, PyObjectRef, PlainWorld, PlainTask, ProtocolJob, DoIsTrue, DoIndex, DoWhole, DoLength, DoHint, DoGetItem, DoSetItem, DoDelItem, DoGetSlice, DoSetSlice, DoDelSlice, DoGetIter, DoNext, DoCollect, DoContains, DoCount, DoFind, DoKeys, DoValues, DoItems, ToEval, ToAttribute, ToDescriptor, ToCall, ToClass, ToOperator, ToCompare, ToProtocol, ToObject, ToNative, Told, Saying, Kind, Value, kind_of, kind_of_attribute, kind_of_descriptor, kind_of_call, kind_of_operator, kind_of_compare, kind_of_protocol, kind_of_object, kind_of_native, is_of, protocol_row, GoesByRows, AnswersAreOfTheirKinds}
use Rattle.std.proofs.Common.{◌≡◌}
use Rattle.vm_calls.proofs.AnswerKinds.Base.{Family, Kinded, true-so}
use Rattle.vm_calls.proofs.AnswerKinds.Law.{of-its-kind}
use Rattle.vm_calls.proofs.AnswerKinds.Expressions.{expressions}
use Rattle.vm_calls.proofs.AnswerKinds.Attributes.{attributes}
use Rattle.vm_calls.proofs.AnswerKinds.Descriptors.{descriptors}
use Rattle.vm_calls.proofs.AnswerKinds.Calls.{calls}
use Rattle.vm_calls.proofs.AnswerKinds.ClassRows.{class-rows}
use Rattle.vm_calls.proofs.AnswerKinds.Operators.{operator-rows}
use Rattle.vm_calls.proofs.AnswerKinds.Comparisons.{compare-rows}
use Rattle.vm_calls.proofs.AnswerKinds.Numbers.{truth-of, index-of, whole-of, length-of, hint-of}
use Rattle.vm_calls.proofs.AnswerKinds.Iterations.{get-iter-row, next-row, collect-row, contains-row, count-row, find-row}
use Rattle.vm_calls.proofs.AnswerKinds.Items.{get-item, set-item, del-item, get-slice, set-slice, del-slice, keys-row, values-row, items-row}
use Rattle.vm_calls.proofs.AnswerKinds.ObjectRows.{object-rows}
use Rattle.vm_calls.proofs.AnswerKinds.NativeRows.{natives}

hint-given : (o : PyObjectRef) (d : Option ℤ) → Kinded (kind_of_protocol (DoHint o d)) (λ w. protocol_row w (DoHint o d))
hint-given o None = hint-of o None
hint-given o (Some z) = hint-of o (Some z)

protocols : (job : ProtocolJob) → Kinded (kind_of_protocol job) (λ w. protocol_row w job)
protocols (DoIsTrue o) = truth-of o
protocols (DoIndex o) = index-of o
protocols (DoWhole o) = whole-of o
protocols (DoLength o) = length-of o
protocols (DoHint o d) = hint-given o d
protocols (DoGetItem o k) = get-item o k
protocols (DoSetItem o k v) = set-item o k v
protocols (DoDelItem o k) = del-item o k
protocols (DoGetSlice o i j) = get-slice o i j
protocols (DoSetSlice o i j v) = set-slice o i j v
protocols (DoDelSlice o i j) = del-slice o i j
protocols (DoGetIter o) = get-iter-row o
protocols (DoNext o) = next-row o
protocols (DoCollect o) = collect-row o
protocols (DoContains o x) = contains-row o x
protocols (DoCount o x) = count-row o x
protocols (DoFind o x) = find-row o x
protocols (DoKeys o) = keys-row o
protocols (DoValues o) = values-row o
protocols (DoItems o) = items-row o

-- the same row, said otherwise
same-row : (k : Kind) (R S : Family) → ((w : PlainWorld) (told : Told) → S w told ≡ R w told) → Kinded k R → Kinded k S
same-row k R S e p = subst (Kinded k) (λ i w told. sym (e w told) i) p

rows : (say : Saying PlainTask) → GoesByRows say → (task : PlainTask) → Kinded (kind_of task) (λ w. say w task)
rows say e (ToEval job) = same-row Value _ _ (λ w told. e.expressions w job told) (expressions job)
rows say e (ToAttribute job) = same-row (kind_of_attribute job) _ _ (λ w told. e.attributes w job told) (attributes job)
rows say e (ToDescriptor job) = same-row (kind_of_descriptor job) _ _ (λ w told. e.descriptors w job told) (descriptors job)
rows say e (ToCall job) = same-row (kind_of_call job) _ _ (λ w told. e.calls w job told) (calls job)
rows say e (ToClass job) = same-row Value _ _ (λ w told. e.classes w job told) (class-rows job)
rows say e (ToOperator job) = same-row (kind_of_operator job) _ _ (λ w told. e.operators w job told) (operator-rows job)
rows say e (ToCompare job) = same-row (kind_of_compare job) _ _ (λ w told. e.comparisons w job told) (compare-rows job)
rows say e (ToProtocol job) = same-row (kind_of_protocol job) _ _ (λ w told. e.protocols w job told) (protocols job)
rows say e (ToObject job) = same-row (kind_of_object job) _ _ (λ w told. e.objects w job told) (object-rows job)
rows say e (ToNative n args kw) = same-row (kind_of_native n) _ _ (λ w told. e.natives w n args kw told) (natives (record { entry = n; args = args; kw = kw }))

pub answered : AnswersAreOfTheirKinds
answered say w u task a units depth left goes e = true-so (is_of (kind_of task) a) (of-its-kind say (rows say goes) w u task a units depth left e)

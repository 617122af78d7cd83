-- How a repetition by name goes on at an index.
use Rattle.proto_ops.proofs.Below.{List, [], Option, Ok, subst, ap, ◌∙◌, ℤ, Result, NativeEntry, Raised as Fault, RepeatTooLong, PyObjectRef, Value, End, PlainWorld, Told, Row, value, within_index, datum_at, number_of, World, Reading, plain, EndsAs, repeat_stood, ends-follow}
use Rattle.std.proofs.Common.{◌≡◌}
use Rattle.py_node.specs.Stops.{Ended, sorted}
use Rattle.py_node.specs.declared.stop.Stop.{Stop}
use Rattle.proto_ops.specs.Below.{Answer, as_said}
use Rattle.proto_ops.specs.declared.native_repeats.RepeatKept.{RepeatKept}
use Rattle.proto_ops.specs.NativeRepeats.Rows.{Resumes, repeat_group, repeat_stands}
use Rattle.proto_ops.specs.NativeRepeats.Say.{entry_of}
use Rattle.row_kit.proofs.Ended.{sorted_ends}

-- this number tells how often
abbrev Counts : Option ℤ → ℤ → Type 0
Counts m z = (u : PlainWorld) (go : ℤ → Row) (told : Told) → within_index u RepeatTooLong m go told ≡ go z told

-- what was kept is repeated
given-ends : (k : RepeatKept) (i : PyObjectRef) (old new : World) (m : Option ℤ) (z : ℤ) (r : Result Answer Fault) → ((t : Reading) → number_of (datum_at (plain t old) i) ≡ m) → Counts m z → EndsAs (λ t u. repeat_stood u (entry_of k.kind) k.object k.items.items z) old new r → Resumes k (Ok (Value i)) old new (End r)
given-ends k i old new m z r number counts ends =
    let row = λ (t : Reading). repeat_stands t k (value i) in
    ends-follow repeat_group row (λ t u. row t u []) old new r (λ t q.
    let h = ends t q in
    let u = plain t old in
    let go = λ (n : ℤ). as_said (repeat_stood u (entry_of k.kind) k.object k.items.items n) in
    (h.0, ap (λ n. within_index u RepeatTooLong n go []) (number t) ∙ counts u go [] ∙ h.1))

-- the same, where it is caught how that ended
pub given-caught : (k : RepeatKept) (i : PyObjectRef) (old new : World) (m : Option ℤ) (z : ℤ) (n : NativeEntry) (rs : List PyObjectRef) (res : Result Answer Stop) (r : Result Answer Fault) → ((t : Reading) → number_of (datum_at (plain t old) i) ≡ m) → Counts m z → n ≡ entry_of k.kind → rs ≡ k.items.items → Ok r ≡ sorted res → Ended res (EndsAs (λ t u. repeat_stood u n k.object rs z) old new) → Resumes k (Ok (Value i)) old new (End r)
given-caught k i old new m z n rs res r number counts entry items caught ends =
    let by_entry = subst (λ e. Ended res (EndsAs (λ t u. repeat_stood u e k.object rs z) old new)) entry ends in
    let by_items = subst (λ xs. Ended res (EndsAs (λ t u. repeat_stood u (entry_of k.kind) k.object xs z) old new)) items by_entry in
    given-ends k i old new m z r number counts (sorted_ends res r (EndsAs (λ t u. repeat_stood u (entry_of k.kind) k.object k.items.items z) old new) caught by_items)

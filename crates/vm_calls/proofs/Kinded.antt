-- A task that the machine answers is answered by its kind.
use Rattle.vm_calls.proofs.Below.{ℕ, Ok, refl, ap, Answer, Done, Task, Ending, Over, Outcome, Out, answer, PlainWorld, PlainAnswer, ProtocolJob, DoIsTrue, DoIndex, DoWhole, DoLength, DoHint, DoGetItem, DoSetItem, DoDelItem, DoGetSlice, DoSetSlice, DoDelSlice, DoGetIter, DoNext, DoCollect, DoContains, DoCount, DoFind, DoKeys, DoValues, DoItems, ToProtocol, Told, without_calls, Held, Reading, IsReadable, plain, task_of, answer_of, IsOfKind, protocol_row, GoesByRows, AnswersAreOfTheirKinds, Asked, unnoted, say}
use Rattle.std.proofs.Common.{◌≡◌}

protocols-go : (w : PlainWorld) (job : ProtocolJob) (told : Told) → say w (ToProtocol job) told ≡ protocol_row w job told
unfolding say
protocols-go w (DoIsTrue o) told = refl
protocols-go w (DoIndex o) told = refl
protocols-go w (DoWhole o) told = refl
protocols-go w (DoLength o) told = refl
protocols-go w (DoHint o d) told = refl
protocols-go w (DoGetItem o k) told = refl
protocols-go w (DoSetItem o k v) told = refl
protocols-go w (DoDelItem o k) told = refl
protocols-go w (DoGetSlice o i j) told = refl
protocols-go w (DoSetSlice o i j v) told = refl
protocols-go w (DoDelSlice o i j) told = refl
protocols-go w (DoGetIter o) told = refl
protocols-go w (DoNext o) told = refl
protocols-go w (DoCollect o) told = refl
protocols-go w (DoContains o x) told = refl
protocols-go w (DoCount o x) told = refl
protocols-go w (DoFind o x) told = refl
protocols-go w (DoKeys o) told = refl
protocols-go w (DoValues o) told = refl
protocols-go w (DoItems o) told = refl

-- the machine's tasks go by their rows
pub all-go : GoesByRows say
unfolding say
all-go = record {
  expressions = λ w job told. refl;
  attributes = λ w job told. refl;
  descriptors = λ w job told. refl;
  calls = λ w job told. refl;
  classes = λ w job told. refl;
  operators = λ w job told. refl;
  comparisons = λ w job told. refl;
  protocols = protocols-go;
  objects = λ w job told. refl;
  natives = λ w n args kw told. refl;
}

pub same-end : (w v : PlainWorld) (e f : Ending) (m n : ℕ) → Out w e m ≡ Out v f n → e ≡ f
same-end w v e f m n h = cc h

pub same-world : (w v : PlainWorld) (e f : Ending) (m n : ℕ) → Out w e m ≡ Out v f n → w ≡ v
same-world w v e f m n h = cc h

-- an outcome ends with an answer, if it does without the notes
pub over-noted : (o : Outcome) (v : PlainWorld) (a : PlainAnswer) (n : ℕ) → unnoted o ≡ Out v (Over (Ok a)) n → (u : PlainWorld) × (left : ℕ) × (o ≡ Out u (Over (Ok a)) left) × (without_calls u ≡ v)
over-noted (Out w e m) v a n h = (w, m, ap (λ x. Out w x m) (same-end _ v e (Over (Ok a)) m n h), same-world _ v e (Over (Ok a)) m n h)

pub asked-kind : AnswersAreOfTheirKinds → (task : Task) (old new : Held) (units : ℕ) (a : Answer) → Asked task old units new (Done a) → IsReadable new → (t : Reading) × IsOfKind (task_of t task) (answer_of a)
asked-kind law task old new units a h r =
    let t = r.0 in
    let g = h t r.1 in
    let o = over-noted (answer say (plain t old) (task_of t task) units 0) (plain t new) (answer_of a) g.1 g.2 in
    (t, law say (plain t old) o.0 (task_of t task) (answer_of a) units 0 o.1 all-go o.2)

-- A sequence is repeated as often as an index says.
use Rattle.proto_ops.proofs.Below.{◌∙◌, [], Option, Ok, refl, sym, ap, RepeatTooLong, PyObjectRef, Value, Ask, Asks, PlainTask, DoRepeat, DoInplaceRepeat, Told, ToOperator, Row, pass, value, within_index, datum_at, number_of, PlainWorld, World, Reading, plain, InplaceTimes, Pass, Times, Resumes, counted_rest, operator_group, operator_stands, asks-follow}
use Rattle.std.proofs.Common.{◌≡◌, ℤ}
use Rattle.py_node.specs.declared.task.OperatorTask.TheVariants as operator
use Rattle.py_node.specs.declared.task.Task.TheVariants as task

-- this number tells how often
abbrev Counts : Option ℤ → ℤ → Type 0
Counts n z = (u : PlainWorld) (go : ℤ → Row) (told : Told) → within_index u RepeatTooLong n go told ≡ go z told

module _ (w : World) (a i : PyObjectRef) (n : Option ℤ) (y z : ℤ) (same : y ≡ z) (read : (t : Reading) → number_of (datum_at (plain t w) i) ≡ n) (counts : Counts n z) where
  counted : (task : ℤ → PlainTask) (t : Reading) → counted_rest (plain t w) task (value i) [] ≡ Asks (plain t w) [] (task y)
  counted task t =
      let u = plain t w in
      let go = λ (m : ℤ) (told : Told). pass u (task m) in
      ap (λ m. within_index u RepeatTooLong m go []) (read t) ∙ counts u go [] ∙ ap (λ m. pass u (task m)) (sym same)

  pub times-asks : Resumes (Times a) (Ok (Value i)) w w (Ask (task.Operator (operator.Repeat a y)) Pass)
  times-asks =
      let often = λ (m : ℤ). ToOperator (DoRepeat a m) in
      asks-follow operator_group (λ t. operator_stands t (Times a) (value i)) (λ t u. counted_rest u often (value i) []) w w [] (task.Operator (operator.Repeat a y)) Pass (λ t q. (q, counted often t)) (λ t u r more. refl)

  pub inplace-times-asks : Resumes (InplaceTimes a) (Ok (Value i)) w w (Ask (task.Operator (operator.InplaceRepeat a y)) Pass)
  inplace-times-asks =
      let often = λ (m : ℤ). ToOperator (DoInplaceRepeat a m) in
      asks-follow operator_group (λ t. operator_stands t (InplaceTimes a) (value i)) (λ t u. counted_rest u often (value i) []) w w [] (task.Operator (operator.InplaceRepeat a y)) Pass (λ t q. (q, counted often t)) (λ t u r more. refl)

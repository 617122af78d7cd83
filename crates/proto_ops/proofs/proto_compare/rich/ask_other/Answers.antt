use Rattle.proto_ops.proofs.Lemmas.{true, sym, ◌∙◌, is_not_implemented, asks-left, asks-right}
use Rattle.std.proofs.Common.{◌≡◌}
use Rattle.proto_ops.proofs.proto_compare.rich.ask_other.Goals as goal

pub returns-then-right_first-clause-goes : goal.returns-then-right_first-clause-goes
returns-then-right_first-clause-goes c = λ w.
    let none : is_not_implemented c.args.x ≡ true = sym c.is_not_implemented.ensures ∙ c.if-not-is_not_implemented.false in
    rw (c.if-right_first.true, c.ask_left.ensures) (asks-left w c.args.a c.args.b c.args.x c.args.op none)

pub returns-else-right_first-clause-goes : goal.returns-else-right_first-clause-goes
returns-else-right_first-clause-goes c = λ w.
    let none : is_not_implemented c.args.x ≡ true = sym c.is_not_implemented.ensures ∙ c.if-not-is_not_implemented.false in
    rw (c.if-right_first.false, c.ask_right.ensures) (asks-right w c.args.a c.args.b c.args.x c.args.op none)

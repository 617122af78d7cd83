use Rattle.proto_call.proofs.Lemmas.{[], ap, length, arith, length-append, ltb-true, Holds, more-nodes, one-more, operands, operands_at}
use Rattle.std.proofs.Common.{◌∷◌}
use Rattle.proto_call.proofs.eval_forms.one_more.Goals as goal

pub next_operand-requires-clause-values : goal.next_operand-requires-clause-values
next_operand-requires-clause-values c = rw c.in_ok-values.ensures (more-nodes _ c.args.values.items c.args.value c.requires.kept.1.1.0 c.requires.answer)

pub next_operand-requires-clause-fits : goal.next_operand-requires-clause-fits
unfolding Holds
next_operand-requires-clause-fits c =
    let l = length-append c.args.values.items (c.args.value ∷ []) in
    let h = c.requires.kept.1.0 in
    let within = ltb-true (length c.args.values.items) (length (operands h.0)) h.2 in
    let long = ap (λ o. length (operands_at o)) h.1 in
    rw c.in_ok-values.ensures (omega (arith, l, within, long))

pub returns-clause-goes : goal.returns-clause-goes
returns-clause-goes c =
    one-more c.args.world.now c.next_operand.new.world c.args.e c.args.values c.in_ok-values.values c.args.value c.next_operand.result c.in_ok-values.ensures c.next_operand.ensures.goes

use Rattle.proto_object.proofs.Lemmas.{Equal, Ok, Truth, steps-so, asks-next, ends-turn}
use Rattle.proto_object.proofs.proto_iter.seek.turned.Goals as goal

pub returns-in-Ok-clause-goes : goal.returns-in-Ok-clause-goes
returns-in-Ok-clause-goes c = λ w.
    let a = c.args in
    let on = c.in-Ok.ensures.on in
    steps-so (Equal a.seeking) (Ok (Truth a.equal)) w c.next_item.result _ c.next_item.ensures (asks-next a.seeking a.equal c.in-Ok.number on.0 w on.1 on.2)

pub returns-in-Err-clause-goes : goal.returns-in-Err-clause-goes
returns-in-Err-clause-goes c = λ w. ends-turn c.args.seeking c.args.equal c.in-Err.ended w c.in-Err.ensures.ended

use Rattle.proto_object.proofs.Lemmas.{inl, refl, turn_of}
use Rattle.proto_object.proofs.proto_iter.seek.turn.Goals as goal

pub returns-in-Contains-false-clause-on : goal.returns-in-Contains-false-clause-on
returns-in-Contains-false-clause-on c = (c.args.number, (λ i. turn_of (c.in-Contains-false.is-0 i) c.args.number (c.in-Contains-false.is-1 i)), inl refl)

pub returns-in-Count-false-clause-on : goal.returns-in-Count-false-clause-on
returns-in-Count-false-clause-on c = (c.args.number, (λ i. turn_of (c.in-Count-false.is-0 i) c.args.number (c.in-Count-false.is-1 i)), inl refl)

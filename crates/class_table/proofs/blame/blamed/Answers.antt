use Rattle.class_table.proofs.Lemmas.{Some, sym, ap, option_map, slice_get_within, numbers, Refusal, failing-first, failing-none}
use Rattle.class_table.proofs.blame.blamed.Goals as goal

pub returns-in-None : goal.returns-in-None
returns-in-None c =
    sym (ap (option_map {U = Refusal} (λ r. (r.1, Some r.0))) (failing-none c.args.change.classes.now c.requires.coherent c.args.change.class.0 (numbers c.args.change.bases.now) c.in-None.ensures.first))

pub number_in-class-requires-clause-inside : goal.number_in-class-requires-clause-inside
number_in-class-requires-clause-inside c =
    let b = c.in-Some.ensures.blame in
    slice_get_within c.args.change.classes.now c.in-Some.first.place b.class b.at

pub returns-in-Some : goal.returns-in-Some
returns-in-Some c =
    sym (ap (option_map {U = Refusal} (λ r. (r.1, Some r.0))) (failing-first c.args.change.classes.now c.requires.coherent c.args.change.class.0 (numbers c.args.change.bases.now) c.in-Some.first c.in-Some.ensures.blame c.in-Some.ensures.first c.number_in-class.result.0 c.number_in-class.ensures.number))

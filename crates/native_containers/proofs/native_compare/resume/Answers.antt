use Rattle.native_containers.proofs.Lemmas.{in_turn, left, resumes-end, resumes-turn}
use Rattle.native_containers.proofs.native_compare.resume.Goals as goal

pub returns-in-Some-clause-goes : goal.returns-in-Some-clause-goes
returns-in-Some-clause-goes c =
    let k = c.args.kept in
    resumes-end k c.args.answer c.in-Some.ended c.args.world.now (λ u more. c.in-Some.ensures.ends u (in_turn u k.way k.last (left k)) more)

pub returns-in-None-clause-goes : goal.returns-in-None-clause-goes
returns-in-None-clause-goes c =
    let k = c.args.kept in
    resumes-turn k c.args.answer c.args.world.now c.ask_next.result (λ u more. c.in-None.ensures.goes u (in_turn u k.way k.last (left k)) more) c.ask_next.ensures.goes

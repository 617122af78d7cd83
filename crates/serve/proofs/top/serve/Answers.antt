-- The words ask for one job.
use Rattle.serve.proofs.Lemmas.{map, string_bytes, Some, Answer, job_in}
use Rattle.std.proofs.Common.{◌≡◌}
use Rattle.serve.proofs.top.serve.Goals as goal

pub returns-in-Some-Answer-clause-script : goal.returns-in-Some-Answer-clause-script
returns-in-Some-Answer-clause-script g c = λ e is.
    let asked : job_in (map string_bytes c.args.words.now) ≡ Some (Answer c.in-Some-Answer.question) = cc in
    (c.in-Some-Answer.question, asked, c.answer_source.ensures.script e is)

-- Words that are neither one, two nor three ask for nothing.
use Rattle.outside.proofs.Lemmas.{arith, map, string_bytes, length-map, no_job}
use Rattle.outside.proofs.words.job_of.Goals as goal

pub returns-in_default-clause-job : goal.returns-in_default-clause-job
returns-in_default-clause-job c =
    let count = length-map c.args.words.now string_bytes in
    no_job (map string_bytes c.args.words.now) (λ one. omega (arith, count)) (λ two. omega (arith, count)) (λ three. omega (arith, count))

pub returns-in_default-2-clause-job : goal.returns-in_default-2-clause-job
returns-in_default-2-clause-job c =
    let count = length-map c.args.words.now string_bytes in
    no_job (map string_bytes c.args.words.now) (λ one. omega (arith, count)) (λ two. omega (arith, count)) (λ three. omega (arith, count))

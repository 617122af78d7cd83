use Rattle.serve.proofs.Lemmas.{Err, Script, spelled-not_refused}
use Rattle.std.proofs.Common.{◌≡◌}
use Rattle.serve.proofs.answer.answer.Goals as goal

pub returns-in-Err-Script-clause-complete : goal.returns-in-Err-Script-clause-complete
returns-in-Err-Script-clause-complete g c = λ spelled quiet.
    let e = c.in-Err-Script.error in
    let told : c.text_of.result ≡ Err (Script e) = cc in
    spelled-not_refused c.args.question c.args.bytes.now e spelled (c.text_of.ensures.script e told)

pub returns-clause-sure : goal.returns-clause-sure
returns-clause-sure g c = λ room fault.
    let same : c.deref.result.now ≡ c.in-Ok.text.items = cc in
    let never = c.in-Err.ensures.sure (rw same (room c.in-Ok.text.items c.in-Ok.ensures.text)) in
    cc

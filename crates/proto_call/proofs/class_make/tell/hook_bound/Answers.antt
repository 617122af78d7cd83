use Rattle.proto_call.proofs.Lemmas.{of_binding, each-push, hook-bound, hook-other}
use Rattle.proto_call.proofs.class_make.tell.hook_bound.Goals as goal

pub bind_next-requires-clause-hooks : goal.bind_next-requires-clause-hooks
bind_next-requires-clause-hooks c =
    let w = c.args.world.now in
    let answer = rw c.in-Ok.ensures.object at c.requires.answer in
    rw c.in_ok-push-in-Ok.ensures.items (each-push w of_binding c.args.hooks.items (c.args.name, c.in-Ok.bound) c.requires.hooks (c.requires.name, (answer.0, tt)))

pub returns-in_ok-push-in-Ok-clause-goes : goal.returns-in_ok-push-in-Ok-clause-goes
returns-in_ok-push-in-Ok-clause-goes c =
    hook-bound c.args.telling c.args.hooks c.push.new.self c.args.name c.args.answer c.in-Ok.bound c.args.world.now c.bind_next.new.world c.bind_next.result c.in-Ok.ensures.object c.in_ok-push-in-Ok.ensures.items c.bind_next.ensures.goes

pub returns-in-Err-clause-goes : goal.returns-in-Err-clause-goes
returns-in-Err-clause-goes c =
    hook-other c.args.telling c.args.hooks c.args.name c.args.answer c.in-Err.other c.args.world.now c.in-Err.ensures.other c.in-Err.ensures.same

use Rattle.native_containers.proofs.Lemmas.{wrapper-asks, wrapper-many, wrapper-refused}
use Rattle.native_containers.proofs.native_conversions.wrapped.begin_wrapped.Goals as goal

pub returns-in-Err-clause-goes : goal.returns-in-Err-clause-goes
returns-in-Err-clause-goes c =
    let a = c.args in
    wrapper-refused a.wrapper a.call.args.now a.call.kw.now a.world.now c.in-Err.raised c.in-Err.ensures.refused

pub returns-in-Err-one-clause-goes : goal.returns-in-Err-one-clause-goes
returns-in-Err-one-clause-goes c =
    let a = c.args in
    wrapper-many a.wrapper a.call.args.now a.call.kw.now a.world.now c.in-Ok.func c.in-Ok.ensures.given c.in-Err-one.raised c.in-Err-one.ensures.refused

pub returns-in-Ok-one-clause-goes : goal.returns-in-Ok-one-clause-goes
returns-in-Ok-one-clause-goes c =
    let a = c.args in
    wrapper-asks a.wrapper a.call.args.now a.call.kw.now a.world.now c.in-Ok.func c.in-Ok.ensures.given c.in-Ok-one._wrapper c.in-Ok-one.ensures.given

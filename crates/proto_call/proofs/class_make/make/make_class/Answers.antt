use Rattle.proto_call.proofs.Lemmas.{sym, subst, IfSome, IsNode, Holds, makes-begin}
use Rattle.proto_call.proofs.ClassMake.Parts.{one-holds}
use Rattle.proto_call.proofs.class_make.make.make_class.Goals as goal

pub by_one-requires-clause-one : goal.by_one-requires-clause-one
by_one-requires-clause-one c =
    let w = c.args.world.now in
    let e = rw (c.deref.ensures.value, c.deref-2.ensures.value) at c.one_of-one.ensures in
    subst (λ o. IfSome o (λ r. Holds w (IsNode r))) (sym e) (one-holds w c.args.args.items c.args.kw.items c.requires.1.1.0)

pub returns-clause-goes : goal.returns-clause-goes
returns-clause-goes c =
    let e = rw (c.deref.ensures.value, c.deref-2.ensures.value) at c.one_of-one.ensures in
    makes-begin c.args.meta.0 c.args.args.items c.args.kw.items c.one_of-one.result c.args.world.now c.by_one.new.world c.by_one.result e c.by_one.ensures.goes

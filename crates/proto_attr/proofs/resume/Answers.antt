use Rattle.proto_attr.proofs.Lemmas.{[], Some, End, sym, subst, plain, ended_of, end, on_value, ends-follow, grows-itself}
use Rattle.proto_attr.specs.Rows.{Resumes, attribute_group, attribute_stands}
use Rattle.proto_attr.specs.Say.{as_attribute, maybe, not_none}
use Rattle.proto_attr.specs.declared.AttributeKept.TheVariants as kept
use Rattle.proto_attr.proofs.resume.Goals as goal

pub returns-in-HasAttr-clause-goes : goal.returns-in-HasAttr-clause-goes
returns-in-HasAttr-clause-goes c =
    let a = c.args in
    let w = a.world.now in
    let r = ended_of a.answer in
    subst (λ k. Resumes k a.answer w w (End c.is_some.result)) (sym c.in-HasAttr.is) (ends-follow attribute_group (λ t. attribute_stands t kept.HasAttr r) (λ t u. on_value u r (λ v. end u (not_none v)) []) w w c.is_some.result (λ t q. (q, c.is_some.ensures.answer (plain t w) [])))

pub returns-in-Maybe-clause-goes : goal.returns-in-Maybe-clause-goes
returns-in-Maybe-clause-goes c =
    let a = c.args in
    let w = a.world.now in
    let r = ended_of a.answer in
    subst (λ k. Resumes k a.answer w w (End c.maybe.result)) (sym c.in-Maybe.is) (ends-follow attribute_group (λ t. attribute_stands t kept.Maybe r) (λ t u. on_value u r (λ v. end u (maybe (Some v))) []) w w c.maybe.result (λ t q. (q, c.maybe.ensures.answer (plain t w) [])))

pub returns-in-Method-clause-goes : goal.returns-in-Method-clause-goes
returns-in-Method-clause-goes c =
    let a = c.args in
    let w = a.world.now in
    let r = ended_of a.answer in
    subst (λ k. Resumes k a.answer w w (End c.method.result)) (sym c.in-Method.is) (ends-follow attribute_group (λ t. attribute_stands t kept.Method r) (λ t u. on_value u r (λ v. end u (as_attribute v)) []) w w c.method.result (λ t q. (q, c.method.ensures.answer (plain t w) [])))

pub returns-in-Maybe-clause-safe : goal.returns-in-Maybe-clause-safe
returns-in-Maybe-clause-safe c = (grows-itself c.args.world.now, c.maybe.ensures.holds c.args.world.now c.requires.answer)

pub returns-in-Method-clause-safe : goal.returns-in-Method-clause-safe
returns-in-Method-clause-safe c = (grows-itself c.args.world.now, c.method.ensures.holds c.args.world.now c.requires.answer)

pub returns-in-HasAttr-clause-safe : goal.returns-in-HasAttr-clause-safe
returns-in-HasAttr-clause-safe c = (grows-itself c.args.world.now, c.is_some.ensures.holds c.args.world.now c.requires.answer)

use Rattle.proto_attr.proofs.Lemmas.{[], End, subst, sym, plain, ended_of, done, end, on_done, ends-follow, grows-itself, sorted_ends, told-row}
use Rattle.proto_attr.specs.ProtoDescr.Rows.{Resumes, descriptor_group, descriptor_stands}
use Rattle.proto_attr.specs.declared.proto_descr.DescriptorKept.{DescriptorKept}
use Rattle.proto_attr.specs.declared.proto_descr.DescriptorKept.TheVariants as kept
use Rattle.proto_attr.proofs.proto_descr.resume.Goals as goal

pub returns-in-Done-clause-goes : goal.returns-in-Done-clause-goes
returns-in-Done-clause-goes c =
    let a = c.args in
    let w = a.world.now in
    let r = ended_of a.answer in
    subst (λ k. Resumes k a.answer w w (End c.done.result)) (sym c.in-Done.is) (ends-follow descriptor_group (λ t. descriptor_stands t kept.Done r) (λ t u. on_done u r (end u done) []) w w c.done.result (λ t q. (q, c.done.ensures.answer (plain t w) [])))

pub returns-in-Done-clause-safe : goal.returns-in-Done-clause-safe
returns-in-Done-clause-safe c = (grows-itself c.args.world.now, c.done.ensures.holds c.args.world.now)

pub returns-in_ok-ended-in-Pass-clause-goes : goal.returns-in_ok-ended-in-Pass-clause-goes
returns-in_ok-ended-in-Pass-clause-goes c =
    let a = c.args in
    let e = c.in_ok-ended-in-Pass in
    let Goes : DescriptorKept → Type 0 = λ k. Resumes k a.answer a.world.now c.as_object.new.world (End e.ended) in
    subst Goes (sym c.in-Pass.is) (told-row a.answer a.world.now c.as_object.new.world e.ended (sorted_ends c.as_object.result e.ended _ e.ensures c.as_object.ensures.ends))

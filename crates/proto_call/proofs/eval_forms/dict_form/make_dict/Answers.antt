use Rattle.proto_call.proofs.Lemmas.{entries_from, grows-on, ok-map, EndsRow, make_dict, made-after}
use Rattle.proto_call.proofs.eval_forms.dict_form.make_dict.Goals as goal

pub returns-clause-goes : goal.returns-clause-goes
returns-clause-goes c =
    let old = c.args.world.now in
    let mid = c.entries_from.new.self in
    let new = c.new_dict.new.world in
    let ps = c.args.found.now in
    let e = c.in_ok-dict.ensures in
    ok-map (λ step. EndsRow (λ t u. make_dict u c.in_ok-dict.dict.items) mid new step) (λ step. EndsRow (λ t u. make_dict u (entries_from u ps)) old new step) c.new_dict.result (λ step h. made-after old mid new ps c.in_ok-dict.dict.items step e.same e.reads e.entries h) c.new_dict.ensures.goes

pub returns-clause-safe : goal.returns-clause-safe
returns-clause-safe c =
    let h = c.new_dict.ensures.safe in
    (grows-on c.args.world.now c.entries_from.new.self c.new_dict.new.world c.in_ok-dict.ensures.grows h.0, h.1)

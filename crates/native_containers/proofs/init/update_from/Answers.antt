use Rattle.native_containers.proofs.Lemmas.{◌∙◌, plain, update-says, err_from_is_err_and}
use Rattle.native_containers.proofs.init.update_from.Goals as goal

pub returns-clause-updated : goal.returns-clause-updated
returns-clause-updated c = λ t go.
    let w = c.args.world.now in
    let all = c.in_ok-all.ensures in
    update-says (plain t w) (plain t c.with_entries.new.world) c.args.dict c.args.other c.in_ok-all.all.items go (all.same t) (all.entries t) (c.in_default.ensures.taken t) ∙ c.in_ok-change_dict.ensures.changed t go

pub returns-in_err-change_dict-clause-refused : goal.returns-in_err-change_dict-clause-refused
returns-in_err-change_dict-clause-refused c =
    let w = c.args.world.now in
    let all = c.in_ok-all.ensures in
    let p = err_from_is_err_and c.from_residual-in_err-change_dict.result c.from_residual-in_err-change_dict.ensures.1 in
    rw (p.1, p.2) (λ t go.
    update-says (plain t w) (plain t c.with_entries.new.world) c.args.dict c.args.other c.in_ok-all.all.items go (all.same t) (all.entries t) (c.in_default.ensures.taken t) ∙ c.in_err-change_dict.ensures.refused t go)

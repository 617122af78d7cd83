use Rattle.native_containers.proofs.Lemmas.{length, ◌∙◌, arith, bindings, plain, all-grow, dict_filled, dict_updated, names_set, err_from_is_err_and, stop_ends, stop-safe, then-ended, two-filled}
use Rattle.native_containers.proofs.Below.{Err, PlainWorld, Said, Ends, Reading, EndsAs}
use Rattle.std.proofs.Common.{◌≡◌}
use Rattle.native_containers.proofs.init.fill.Goals as goal

pub set_names-requires-in-len2-clause-kw : goal.set_names-requires-in-len2-clause-kw
set_names-requires-in-len2-clause-kw c = all-grow c.args.world.now c.update_from.new.world c.in_ok-update_from-in-len2.ensures.grows _ c.requires.args.1

pub returns-in_err-update_from-in-len2-clause-ends : goal.returns-in_err-update_from-in-len2-clause-ends
returns-in_err-update_from-in-len2-clause-ends c =
    let a = c.args in
    let new = c.update_from.new.world in
    let e = c.in_err-update_from-in-len2 in
    let p = err_from_is_err_and c.from_residual.result c.from_residual.ensures.1 in
    let two : length a.call.args.now ≡ 2 = omega (arith, c.in-len2.len_at_least, c.in-len2.len_below) in
    rw (p.1, p.2) (stop_ends Said _ (λ x. (t : Reading) (go : PlainWorld → Said) → dict_updated (plain t a.world.now) a.dict _ go ≡ Ends (plain t new) (Err x)) (EndsAs (λ t u. dict_filled u a.dict a.call.args.now (bindings t a.call.kw.now)) a.world.now new) (λ x k t q. (e.ensures.reads t q, two-filled (plain t a.world.now) a.dict a.call.args.now (bindings t a.call.kw.now) _ two ∙ k t (λ u. names_set u a.dict (bindings t a.call.kw.now)))) e.ensures.refused)

pub returns-in_err-update_from-in-len2-clause-safe : goal.returns-in_err-update_from-in-len2-clause-safe
returns-in_err-update_from-in-len2-clause-safe c =
    let e = c.in_err-update_from-in-len2 in
    let p = err_from_is_err_and c.from_residual.result c.from_residual.ensures.1 in
    rw (p.1, p.2) (e.ensures.grows, stop-safe c.update_from.new.world _)

pub returns-in_ok-update_from-in-len2-clause-ends : goal.returns-in_ok-update_from-in-len2-clause-ends
returns-in_ok-update_from-in-len2-clause-ends c =
    let a = c.args in
    let u = c.in_ok-update_from-in-len2.ensures in
    let two : length a.call.args.now ≡ 2 = omega (arith, c.in-len2.len_at_least, c.in-len2.len_below) in
    then-ended (λ t u. dict_filled u a.dict a.call.args.now (bindings t a.call.kw.now)) (λ t u. names_set u a.dict (bindings t a.call.kw.now)) a.world.now c.update_from.new.world c.set_names-in-len2.new.world c.set_names-in-len2.result (λ t. two-filled (plain t a.world.now) a.dict a.call.args.now (bindings t a.call.kw.now) _ two ∙ u.updated t (λ u. names_set u a.dict (bindings t a.call.kw.now))) u.reads c.set_names-in-len2.ensures.ends

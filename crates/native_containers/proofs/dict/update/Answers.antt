use Rattle.native_containers.proofs.Lemmas.{◌∙◌, plain, dict_updated, ends_none, err_from_is_err_and, stop_ends, stop-safe}
use Rattle.native_containers.proofs.Below.{Err, PlainWorld, Said, Ends, Reading, bindings, EndsAs, with_own_and}
use Rattle.std.proofs.Common.{◌≡◌}
use Rattle.row_kit.specs.declared.take_containers.Kind.TheVariants as kind
use Rattle.native_containers.proofs.dict.update.Goals as goal

pub returns-in_err-update_from-clause-ends : goal.returns-in_err-update_from-clause-ends
returns-in_err-update_from-clause-ends c =
    let w = c.args.world.now in
    let a = c.args.call in
    let new = c.update_from.new.world in
    let e = c.in_err-update_from in
    let p = err_from_is_err_and c.from_residual-in_err-update_from.result c.from_residual-in_err-update_from.ensures.1 in
    rw (p.1, p.2) (stop_ends Said _ (λ x. (t : Reading) (go : PlainWorld → Said) → dict_updated (plain t w) _ _ go ≡ Ends (plain t new) (Err x)) (EndsAs (λ t u. with_own_and kind.Dict u a.args.now (bindings t a.kw.now) (λ d o. dict_updated u d o ends_none)) w new) (λ x k t q. (e.ensures.reads t q, c.in_ok-dict.ensures.given t (λ d o. dict_updated (plain t w) d o ends_none) ∙ k t ends_none)) e.ensures.refused)

pub returns-in_err-update_from-clause-safe : goal.returns-in_err-update_from-clause-safe
returns-in_err-update_from-clause-safe c =
    let e = c.in_err-update_from in
    let p = err_from_is_err_and c.from_residual-in_err-update_from.result c.from_residual-in_err-update_from.ensures.1 in
    rw (p.1, p.2) (e.ensures.grows, stop-safe c.update_from.new.world _)

pub returns-in_err-ends_none-clause-ends : goal.returns-in_err-ends_none-clause-ends
returns-in_err-ends_none-clause-ends c =
    let w = c.args.world.now in
    let u = c.in_ok-update_from.ensures in
    let e = c.in_err-ends_none in
    let p = err_from_is_err_and c.from_residual-in_err-ends_none.result c.from_residual-in_err-ends_none.ensures.1 in
    rw (p.1, p.2) (λ t q. (u.reads t q, c.in_ok-dict.ensures.given t (λ d o. dict_updated (plain t w) d o ends_none) ∙ u.updated t ends_none ∙ (e.ensures.ends t q).1))

pub returns-clause-ends : goal.returns-clause-ends
returns-clause-ends c = λ t q.
    let w = c.args.world.now in
    let u = c.in_ok-update_from.ensures in
    (u.reads t q, c.in_ok-dict.ensures.given t (λ d o. dict_updated (plain t w) d o ends_none) ∙ u.updated t ends_none ∙ (c.in_ok-ends_none.ensures.ends t q).1)

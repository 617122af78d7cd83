use Rattle.native_containers.proofs.Lemmas.{err_from_is_err_and, grows-itself, plain, stop_ends, stop-safe, list_made}
use Rattle.native_containers.proofs.Below.{List, Err, PyObjectRef, Said, Ends, Reading, bindings, EndsAs}
use Rattle.std.proofs.Common.{◌≡◌}
use Rattle.native_containers.specs.Say.{with_joined}
use Rattle.row_kit.specs.declared.take_containers.Kind.TheVariants as kind
use Rattle.native_containers.proofs.list.add.Goals as goal

pub returns-in_err-items-clause-ends : goal.returns-in_err-items-clause-ends
returns-in_err-items-clause-ends c =
    let w = c.args.world.now in
    let a = c.args.call in
    let e = c.in_err-items in
    let p = err_from_is_err_and c.from_residual.result c.from_residual.ensures.1 in
    rw (p.1, p.2) (stop_ends Said _ (λ x. (t : Reading) (go : List PyObjectRef → Said) → with_joined kind.List (plain t w) a.args.now (bindings t a.kw.now) go ≡ Ends (plain t w) (Err x)) (EndsAs (λ t u. with_joined kind.List u a.args.now (bindings t a.kw.now) (list_made u)) w w) (λ x k t q. (q, k t (list_made (plain t w)))) e.ensures.refused)

pub returns-in_err-items-clause-safe : goal.returns-in_err-items-clause-safe
returns-in_err-items-clause-safe c =
    let w = c.args.world.now in
    let p = err_from_is_err_and c.from_residual.result c.from_residual.ensures.1 in
    rw (p.1, p.2) (grows-itself w, stop-safe w _)

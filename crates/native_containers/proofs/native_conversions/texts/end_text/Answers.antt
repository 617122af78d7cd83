use Rattle.native_containers.proofs.Lemmas.{ap, err_from_is_err_and, grows-itself, plain, stop_ends, stop-safe, text_made}
use Rattle.native_containers.proofs.Below.{Err, Reading, EndsAs, text_ends, in_length, container_text, texts_at}
use Rattle.std.proofs.Common.{◌≡◌}
use Rattle.native_containers.proofs.native_conversions.texts.end_text.Goals as goal

pub returns-in_err-text-clause-ends : goal.returns-in_err-text-clause-ends
returns-in_err-text-clause-ends c =
    let w = c.args.world.now in
    let a = c.args in
    let e = c.in_err-text in
    let p = err_from_is_err_and c.from_residual.result c.from_residual.ensures.1 in
    rw (p.1, p.2) (stop_ends Reading _ (λ x. (t : Reading) → in_length (container_text a.container (texts_at (plain t w) a.texts.now)) ≡ Err x) (EndsAs (λ t u. text_ends u a.container a.texts.now) w w) (λ x k t q. (q, ap (text_made (plain t w)) (k t))) e.ensures.long)

pub returns-in_err-text-clause-safe : goal.returns-in_err-text-clause-safe
returns-in_err-text-clause-safe c =
    let w = c.args.world.now in
    let p = err_from_is_err_and c.from_residual.result c.from_residual.ensures.1 in
    rw (p.1, p.2) (grows-itself w, stop-safe w _)

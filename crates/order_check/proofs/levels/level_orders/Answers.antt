use Rattle.order_check.proofs.Lemmas.{ap, ◌∙◌, crosses, frees, IsFound, gathered}
use denote.Param.Send.{sendable}
use Rattle.order_check.proofs.levels.level_orders.Goals as goal

-- one line for each `Send` and `Sync`, the allocator, and then the closure's `requires` at each place of the level
pub collect-requires : goal.collect-requires
collect-requires g c κs =
    let slice = ap (λ it. it.slice.now) c.map.ensures.base ∙ c.par_iter.ensures in
    (search (sendable, crosses) depth 40, (search (sendable, crosses) depth 40, (search (sendable, crosses) depth 40, (search (sendable, crosses) depth 40, (search (sendable, crosses) depth 40, (frees, rw (slice, c.map.ensures.f) (λ k d lt x e. (rw e (c.requires k d lt), λ y p. tt))))))))

pub returns : goal.returns
returns g c =
    let chain = rw (c.map.ensures.base, c.map.ensures.f) at c.in_ok-collect.ensures in
    gathered (IsFound c.args.entries.now) _ chain.1.0 chain.0 c.in_ok-collect.field-0 chain.1.2 chain.2

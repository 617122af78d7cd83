-- A product that wraps may be added to before it wraps.
use Rattle.generator.proofs.Lemmas.{ap, mod-add-mod, next}
use Rattle.std.proofs.Common.{◌*◌}
use Rattle.generator.proofs.draws.Draws.below.Goals as goal

pub returns-clause-moves : goal.returns-clause-moves
unfolding next
returns-clause-moves c = rw (mod-add-mod (c.self.inside.state * 6364136223846793005) 18446744073709551616 1442695040888963407)
    (ap next c.self.view_is)

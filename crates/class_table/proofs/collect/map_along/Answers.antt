use Rattle.class_table.proofs.Lemmas.{take, Some, sym, subst, numbers, AreGiven}
use Rattle.std.proofs.Common.{◌+◌}
use Rattle.class_table.proofs.Collected.{given-more}
use Rattle.class_table.proofs.collect.map_along.Goals as goal

pub loop-class-preserved : goal.loop-class-preserved
loop-class-preserved g c =
    let more = given-more (goal.F-post g c.args.f) c.args.line.now c.loop-class.given.items c.loop-class.class-index (record { 0 = 0 }) c.f.result c.loop-class-test.true c.loop-class.invariant c.f.ensures in
    subst (AreGiven (goal.F-post g c.args.f) (Some (numbers (take (c.loop-class.class-index + 1) c.args.line.now)))) (sym c.in_ok-push.ensures.items) more

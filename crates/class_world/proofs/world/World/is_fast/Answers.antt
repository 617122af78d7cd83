use Rattle.class_world.proofs.Lemmas.{true, false, Some, ap, sym, ◌∙◌, class_has_flag, or_false, is_for_objects, datum_at, plain}
use Rattle.std.proofs.Common.{◌≡◌, ◌^◌}
use Rattle.std.specs.Prelude.{◌&&◌}
use Rattle.plain_machine.specs.World.{class_at}
use Rattle.class_world.proofs.world.World.is_fast.Goals as goal

pub returns-then-class_flag : goal.returns-then-class_flag
returns-then-class_flag c = λ t.
    let u = plain t c.args.self.now in
    let flag : class_has_flag u (2 ^ 17) (class_at u c.args.method) ≡ true = ap (class_has_flag u (2 ^ 17)) (c.class_of-class.ensures.reads t) ∙ ap or_false (c.class_flag.ensures t) ∙ ap or_false (ap Some c.if-class_flag.true) in
    ap (λ b. b && is_for_objects (datum_at u c.args.method)) flag ∙ c.is_for_objects.ensures t

pub returns-else-class_flag : goal.returns-else-class_flag
returns-else-class_flag c = λ t.
    let u = plain t c.args.self.now in
    let flag : class_has_flag u (2 ^ 17) (class_at u c.args.method) ≡ false = ap (class_has_flag u (2 ^ 17)) (c.class_of-class.ensures.reads t) ∙ ap or_false (c.class_flag.ensures t) ∙ ap or_false (ap Some c.if-class_flag.false) in
    ap (λ b. b && is_for_objects (datum_at u c.args.method)) flag ∙ sym c.if-class_flag.false

use Rattle.class_world.proofs.Lemmas.{refl, sym, ◌∙◌, single-seen, script-given}
use Rattle.class_world.proofs.world.World.new_simple_heap.Goals as goal

pub returns-clause-refused : goal.returns-clause-refused
returns-clause-refused c = λ t. c.add_single.ensures.refused ∙ sym (single-seen c.args.self.now c.args.self.now refl t c.args.base.0)

pub add_single-requires-clause-given : goal.add_single-requires-clause-given
add_single-requires-clause-given c = script-given c.of_script_class-flags.result.0 _ c.of_script_class-flags.ensures

use Rattle.proto_call.proofs.Lemmas.{of_binding, of_each, all-first, all-rest, of_telling}
use Rattle.proto_call.proofs.class_make.resume.Goals as goal

pub hook_bound-requires-clause-telling : goal.hook_bound-requires-clause-telling
hook_bound-requires-clause-telling c =
    let kept = rw c.in-Binding.is at c.requires.kept in
    all-first c.args.world.now (of_telling c.in-Binding.telling) (of_each of_binding c.in-Binding.hooks.items) kept.1

pub hook_bound-requires-clause-hooks : goal.hook_bound-requires-clause-hooks
hook_bound-requires-clause-hooks c =
    let kept = rw c.in-Binding.is at c.requires.kept in
    all-rest c.args.world.now (of_telling c.in-Binding.telling) (of_each of_binding c.in-Binding.hooks.items) kept.1

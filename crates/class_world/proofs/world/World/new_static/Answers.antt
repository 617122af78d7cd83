use Rattle.class_world.proofs.Lemmas.{false, refl, sym, ap, ◌∙◌, subst, says_so, static-says, is_marked_heap, single-seen, static-unmarked, static-given}
use Rattle.std.proofs.Common.{◌≡◌}
use Rattle.class_world.proofs.world.World.new_static.Goals as goal

pub add_single-requires-clause-dict : goal.add_single-requires-clause-dict
add_single-requires-clause-dict c =
    let brings = c.has_feature-brings.ensures in
    let dict = c.has_dict.ensures.given in
    rw (brings, dict) (ap says_so c.flags_of_static-flags.ensures ∙ static-says c.args.flags.0 c.has_dict.result)

pub add_single-requires-clause-unmarked : goal.add_single-requires-clause-unmarked
add_single-requires-clause-unmarked c =
    subst (λ n. is_marked_heap n ≡ false) (sym c.flags_of_static-flags.ensures) (static-unmarked c.args.flags.0 c.has_dict.result)

pub returns-clause-refused : goal.returns-clause-refused
returns-clause-refused c = λ t. c.add_single.ensures.refused ∙ sym (single-seen c.args.self.now c.args.self.now refl t c.args.base.0)

pub add_single-requires-clause-given : goal.add_single-requires-clause-given
add_single-requires-clause-given c =
    let brings = c.has_feature-brings.ensures in
    let dict = c.has_dict.ensures.given in
    let given = c.flags_of_static-given.ensures in
    let flags = c.flags_of_static-flags.ensures in
    rw (brings, dict, given, flags) (static-given c.args.flags.0 c.has_dict.result)

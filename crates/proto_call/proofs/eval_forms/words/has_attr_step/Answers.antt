use Rattle.proto_call.proofs.Lemmas.{sym, ◌∙◌, IsNode, two-hold, sorted_ok}
use Rattle.proto_call.proofs.eval_forms.words.has_attr_step.Goals as goal

pub name_in-requires : goal.name_in-requires
name_in-requires c =
    (two-hold c.args.world.now c.args.values.now c.in-Some.object c.in-Some.text c.requires (sym c.two_of.ensures ∙ c.in-Some.is)).1

pub returns-in-Ok-clause-safe : goal.returns-in-Ok-clause-safe
returns-in-Ok-clause-safe c =
    let both = two-hold c.args.world.now c.args.values.now c.in-Some.object c.in-Some.text c.requires (sym c.two_of.ensures ∙ c.in-Some.is) in
    let grows = c.name_in.ensures.grows in
    let name = sorted_ok c.name_in.result c.in-Ok.name _ (rw c.in-Ok.is at c.in_ok-raised-in-Some.ensures) c.name_in.ensures.name in
    (grows, (grows.still (IsNode c.in-Some.object) both.0, (name, tt)))

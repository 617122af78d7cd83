use Rattle.proto_call.proofs.Lemmas.{sym, ◌∙◌, two-hold}
use Rattle.proto_call.proofs.eval_forms.words.format_step.Goals as goal

pub payload-requires : goal.payload-requires
payload-requires c =
    (two-hold c.args.world.now c.args.values.now c.in-Some.object c.in-Some.spec c.requires (sym c.two_of.ensures ∙ c.in-Some.is)).1

pub returns-in-Text-clause-safe : goal.returns-in-Text-clause-safe
returns-in-Text-clause-safe c =
    let both = two-hold c.args.world.now c.args.values.now c.in-Some.object c.in-Some.spec c.requires (sym c.two_of.ensures ∙ c.in-Some.is) in
    (both.0, (both.1, tt))

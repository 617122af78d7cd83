use Rattle.class_world.proofs.Lemmas.{sym, ◌∙◌, subst, the_view, Holds, IsName, Reads, opened-one}
use Rattle.class_world.proofs.world.World.spelling.Goals as goal

pub text-requires : goal.text-requires
unfolding Holds
text-requires c = opened-one (the_view c.self.inside) c.args.self.now (IsName c.args.name) c.self.view_is c.requires

pub returns : goal.returns
returns c = λ t r.
    let reads = subst (λ w. Reads t w) (sym c.self.view_is) r in
    c.in_ok-from_str.ensures.ok ∙ sym (reads.names c.args.name.0 c.text.result.now c.text.ensures)

use Rattle.class_world.proofs.Lemmas.{arith, length-append, [], the_view, Holds, of_form, opened, form-grows, grows-seen, form-sound, form-reads, form-added}
use Rattle.std.proofs.Common.{◌∷◌}
use Rattle.class_world.proofs.world.World.add_form.Goals as goal

pub invariant_of-self-2 : goal.invariant_of-self-2
invariant_of-self-2 c =
    let w = the_view c.self.inside in
    rw c.in_ok-push.ensures.items (form-sound w c.self.invariant c.args.form (opened w c.args.self.now (of_form c.args.form) c.self.view_is c.requires))

pub returns-clause-added : goal.returns-clause-added
returns-clause-added c = rw (c.in_ok-push.ensures.items, c.len-number.ensures, c.self.inside.forms.ok.0) (form-added (the_view c.self.inside) c.args.form)

pub returns-clause-reads : goal.returns-clause-reads
returns-clause-reads c = rw c.in_ok-push.ensures.items (form-reads (the_view c.self.inside) _ c.args.form c.self.view_is)

pub returns-clause-grows : goal.returns-clause-grows
returns-clause-grows c = rw c.in_ok-push.ensures.items (grows-seen (the_view c.self.inside) _ _ c.self.view_is (form-grows _ c.args.form))

pub returns-clause-holds : goal.returns-clause-holds
unfolding Holds
returns-clause-holds c =
    let l = length-append c.self.inside.forms.items (c.args.form ∷ []) in
    rw c.in_ok-push.ensures.items (omega (arith, l, c.self.inside.forms.ok.0))

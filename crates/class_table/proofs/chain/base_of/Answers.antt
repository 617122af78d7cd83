use Rattle.class_table.proofs.Lemmas.{sym, ap, ◌∙◌, chain_from, chain-step, classes_of, base-kept, base-there}
use Rattle.std.proofs.Common.{◌∷◌}
use Rattle.class_table.proofs.chain.base_of.Goals as goal

pub returns-clause-there : goal.returns-clause-there
returns-clause-there c =
    let kept = base-kept c.args.classes.now c.requires.coherent c.args.class.0 c.stored_at.result c.stored_at.ensures.here in
    base-there (classes_of c.args.classes.now) c.requires.coherent.sound c.args.class.0 c.base.result (kept ∙ sym c.base.ensures)

pub returns-clause-chain : goal.returns-clause-chain
returns-clause-chain c =
    let kept = base-kept c.args.classes.now c.requires.coherent c.args.class.0 c.stored_at.result c.stored_at.ensures.here in
    chain-step (classes_of c.args.classes.now) c.requires.coherent.sound c.args.class.0 c.requires.there
    ∙ ap (λ b. c.args.class.0 ∷ chain_from (classes_of c.args.classes.now) b) (kept ∙ sym c.base.ensures)

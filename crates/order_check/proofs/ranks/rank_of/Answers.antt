use Rattle.order_check.proofs.Lemmas.{sym, ap, ◌∙◌, known_in, known-at, known-none}
use Rattle.order_check.proofs.ranks.rank_of.Goals as goal

pub returns-in-None : goal.returns-in-None
returns-in-None c = sym (known-none c.args.entries.now c.args.ranks.now c.args.key c.in-None.ensures)

pub returns-in-Some : goal.returns-in-Some
returns-in-Some c =
    let h = c.args.entries.now in
    let rs = c.args.ranks.now in
    sym (ap (known_in h rs) (sym c.in-Some.ensures.1) ∙ known-at h rs c.in-Some.place c.requires.keyed c.in-Some.ensures.0)

use Rattle.order_check.proofs.Lemmas.{get_or, sym, ap, ◌∙◌, name_in, name-at, name-none}
use Rattle.order_check.proofs.place.name_of.Goals as goal

pub returns-in-None : goal.returns-in-None
returns-in-None c = sym (name-none c.args.entries.now c.args.key c.in-None.ensures)

pub returns-in-Some : goal.returns-in-Some
returns-in-Some c =
    let h = c.args.entries.now in
    let i = c.in-Some.place in
    let e = get_or h i c.index-entries-place.result in
    c.as_str.ensures.value
    ∙ sym (name-at h i e c.requires c.in-Some.ensures.0 (ap (get_or h i) c.index-entries-place.is))
    ∙ ap (name_in h) c.in-Some.ensures.1

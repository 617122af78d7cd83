use Rattle.class_table.proofs.Lemmas.{List, length, ap, sym, subst, ◌∙◌, arith, slice_get, StoredClass, AreSwapped, with-lines-length, lined-line, swapped-lined}
use Rattle.class_table.proofs.renew.swap_in.Goals as goal

pub reline-requires : goal.reline-requires
reline-requires c = c.requires.lines.count

pub swap_all-requires-clause-inside : goal.swap_all-requires-clause-inside
swap_all-requires-clause-inside c = λ i h.
    let l = c.requires.inside i h in
    let n = ap length c.reline.ensures ∙ with-lines-length c.args.classes.now c.args.lines c.requires.lines.count in
    omega (arith, l, n)

pub swap_all-requires-clause-lines : goal.swap_all-requires-clause-lines
swap_all-requires-clause-lines c = λ j i x r p e f.
    lined-line c.args.classes.now c.args.lines c.args.places.now c.args.renewed.items c.requires.lines j i r p f x (ap (λ ys. slice_get ys i) (sym c.reline.ensures) ∙ e)

pub returns : goal.returns
returns c =
    let P : List StoredClass → Type 0 = λ ys. AreSwapped c.args.places.now c.args.renewed.items ys c.swap_all.new.classes in
    swapped-lined c.args.classes.now c.args.lines c.args.places.now c.args.renewed.items c.swap_all.new.classes c.requires.lines (subst P c.reline.ensures c.swap_all.ensures)

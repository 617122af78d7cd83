use Rattle.class_table.proofs.Lemmas.{Some, length, sym, ap, ◌∙◌, arith, slice_get, slice_get-get_or, class_at, classes_of, place-class}
use Rattle.std.proofs.Common.{◌≡◌, ◌<◌}
use Rattle.class_table.proofs.place.find_near.Goals as goal

pub returns-then-number-class-clause-class : goal.returns-then-number-class-clause-class
returns-then-number-class-clause-class c =
    let k = c.at-stored.result in
    let inside : c.args.near < length c.args.classes.now = let l = c.if-near-len.true in let n = c.len.ensures in omega (arith, l, n) in
    let there : slice_get c.args.classes.now c.args.near ≡ Some k = slice_get-get_or c.args.classes.now c.args.near k inside ∙ ap Some (sym c.at-stored.ensures) in
    sym (ap (class_at (classes_of c.args.classes.now)) (sym (sym c.number.ensures ∙ c.if-number-class.true)) ∙ place-class c.args.classes.now c.requires c.args.near k there)

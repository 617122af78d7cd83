use Rattle.class_table.proofs.Lemmas.{Some, sym, ap, ◌∙◌, lin, layout_along, members_in, place_along, place_at, place_count, option_and_then, classes_of, count-line}
use Rattle.std.proofs.Common.{◌≡◌}
use Rattle.class_table.proofs.member_place.place_at.Goals as goal

pub place_along-requires-clause-count : goal.place_along-requires-clause-count
place_along-requires-clause-count c =
    let t = classes_of c.args.classes.now in
    let stored = c.stored_at-stored.result in
    let here = c.stored_at-stored.ensures.here in
    let line : lin t stored.number ≡ Some stored.mro = c.requires.coherent.mro here.place stored here.at in
    let kept : place_count t stored.number ≡ Some stored.places = c.requires.coherent.places here.place stored here.at in
    let same : Some (members_in t stored.mro) ≡ Some stored.places = sym (count-line t stored.number stored.mro line) ∙ kept in
    let counted : members_in t stored.mro ≡ stored.places = cc in
    c.places.ensures ∙ sym counted ∙ ap (members_in t) (sym c.mro.ensures)

pub returns : goal.returns
returns c =
    let t = classes_of c.args.classes.now in
    let stored = c.stored_at-stored.result in
    let here = c.stored_at-stored.ensures.here in
    let line : lin t stored.number ≡ Some stored.mro = c.requires.coherent.mro here.place stored here.at in
    c.place_along.ensures
    ∙ ap (λ cs. place_along t (layout_along t cs) c.args.offset) c.mro.ensures
    ∙ sym (ap (λ o. option_and_then (λ line. place_along t line c.args.offset) (option_and_then (λ line. Some (layout_along t line)) o)) line)
    ∙ ap (λ n. place_at t n c.args.offset) here.number

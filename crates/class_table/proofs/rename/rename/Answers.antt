use Rattle.class_table.proofs.Lemmas.{ℕ, get_or, set, sym, ap, subst, ◌∙◌, get_or_default, Text, with_class_name, classes_of, IsCoherent, element, number-within, read-number, plain-named, coherent-named}
use Rattle.std.proofs.Common.{◌≡◌}
use Rattle.class_table.proofs.rename.rename.Goals as goal

pub returns-clause-coherent : goal.returns-clause-coherent
returns-clause-coherent c =
    let kept = c.args.classes.now in
    let at = c.place-at.result in
    let within = number-within kept at c.args.class.0 c.place-at.ensures in
    let k = get_or kept at (element kept at within) in
    let held : k ≡ get_or kept at k = get_or_default kept at (element kept at within) k within in
    let is : c.set_name.new.self ≡ set kept at (record k { name = c.args.name.now }) = c.set_name.ensures (element kept at within) ∙ ap (λ (y : Text). set kept at (record k { name = y })) c.in_ok-text.ensures.ok in
    subst IsCoherent (sym is) (coherent-named kept c.requires.coherent at k within held c.args.name.now)

pub returns-clause-named : goal.returns-clause-named
returns-clause-named c =
    let kept = c.args.classes.now in
    let at = c.place-at.result in
    let within = number-within kept at c.args.class.0 c.place-at.ensures in
    let k = get_or kept at (element kept at within) in
    let held : k ≡ get_or kept at k = get_or_default kept at (element kept at within) k within in
    let num : k.number ≡ c.args.class.0 = read-number kept at c.args.class.0 k c.place-at.ensures held in
    let is : c.set_name.new.self ≡ set kept at (record k { name = c.args.name.now }) = c.set_name.ensures (element kept at within) ∙ ap (λ (y : Text). set kept at (record k { name = y })) c.in_ok-text.ensures.ok in
    ap classes_of is
    ∙ plain-named kept c.requires.coherent at k within held c.args.name.now
    ∙ ap (λ (n : ℕ). with_class_name (classes_of kept) n c.args.name.now) num

pub set_name-requires : goal.set_name-requires
set_name-requires c = number-within c.args.classes.now c.place-at.result c.args.class.0 c.place-at.ensures

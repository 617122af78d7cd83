use Rattle.class_table.proofs.Lemmas.{List, ℕ, length, sym, ap, subst, ◌∙◌, arith, slice_get_within, Includes, with_place, Includes-at, none-past, finding-start, finding-more, finding-end, finding-full, sub-there}
use Rattle.std.proofs.Common.{◌≤◌}
use Rattle.class_table.specs.Descendants.{AreAdded}
use Rattle.class_table.proofs.descendants.descendants.Goals as goal

pub loop-index-init : goal.loop-index-init
loop-index-init c =
    finding-start c.args.classes.now c.requires.coherent c.args.class.0 c.place.result c.place.ensures c.add.new.self (c.in_ok-add.ensures ∙ ap (λ ps. with_place ps c.place.result) c.new-found.ensures)

pub returns-in-None : goal.returns-in-None
returns-in-None c =
    finding-end c.args.classes.now c.requires.coherent c.args.class.0 c.loop-index.found c.loop-index.index (none-past c.loop-index.found c.loop-index.index c.in-None.ensures.place) c.loop-index.invariant c.in-None.ensures.distinct

pub subclasses_at-requires : goal.subclasses_at-requires
subclasses_at-requires c =
    let d = c.loop-index.invariant.within c.in-Some.at (Includes-at c.loop-index.found c.loop-index.index c.in-Some.at (sym c.in-Some.ensures.place)) in
    slice_get_within c.args.classes.now c.in-Some.at d.class d.at

pub add_places-requires-clause-there : goal.add_places-requires-clause-there
add_places-requires-clause-there c = λ n h.
    let d = c.loop-index.invariant.within c.in-Some.at (Includes-at c.loop-index.found c.loop-index.index c.in-Some.at (sym c.in-Some.ensures.place)) in
    let P : List ℕ → Type 0 = λ ns. Includes ns n in
    sub-there c.args.classes.now c.requires.coherent c.args.class.0 c.in-Some.at n d.class d.at (subst P (c.subclasses_at.ensures d.class d.at) h)

pub loop-index-preserved : goal.loop-index-preserved
loop-index-preserved c =
    let d = c.loop-index.invariant.within c.in-Some.at (Includes-at c.loop-index.found c.loop-index.index c.in-Some.at (sym c.in-Some.ensures.place)) in
    let P : List ℕ → Type 0 = λ ns. AreAdded c.args.classes.now ns c.loop-index.found c.add_places.new.found in
    finding-more c.args.classes.now c.requires.coherent c.args.class.0 c.loop-index.index c.in-Some.at c.loop-index.found c.add_places.new.found d.class c.loop-index.invariant (sym c.in-Some.ensures.place) d.at (subst P (c.subclasses_at.ensures d.class d.at) c.in_ok-add_places-in-Some.ensures)

pub returns : goal.returns
returns c =
    let past : length c.args.classes.now ≤ c.loop-index.index = omega arith in
    finding-full c.args.classes.now c.requires.coherent c.args.class.0 c.loop-index.found c.loop-index.index past c.loop-index.invariant c.all-all.ensures.distinct

use Rattle.class_table.proofs.Lemmas.{[], Some, Result, Ok, Err, OnOk, length, ap, sym, ◌∙◌, arith, slice_get, slice_get_within, slice_get-get_or, numbers, AreLinesTo, lines-made, lines-kept}
use Rattle.std.proofs.Common.{◌≡◌, ◌<◌, ◌+◌, ◌++◌, ◌∷◌}
use Rattle.class_table.proofs.renew.add_line.Goals as goal

-- what follows where a call had memory
follows : {X Y : Type 0} (P Q : Type 0) (r : Result X Y) → (P → Q) → OnOk r P → OnOk r Q
follows P Q (Ok x) f h = f h
follows P Q (Err e) f h = tt

pub bounds-renewed-index : goal.bounds-renewed-index
bounds-renewed-index c =
    let within = slice_get_within c.args.places.now c.in-Some.index c.args.at c.in-Some.ensures.there in
    let count = c.requires.count in
    omega (arith, within, count)

pub returns-in-Some : goal.returns-in-Some
returns-in-Some c =
    let kept = c.args.classes.now in
    let places = c.args.places.now in
    let renewed = c.args.renewed.now in
    let at = c.args.at in
    let index = c.in-Some.index in
    let old = c.args.lines.now in
    let new = c.add.new.self in
    let r = c.index-renewed-index.result in
    let here = c.in-Some.ensures.there in
    let within = slice_get_within places index at here in
    let count = c.requires.count in
    let inside : index < length renewed = omega (arith, within, count) in
    let there : slice_get renewed index ≡ Some r = slice_get-get_or renewed index r inside ∙ ap Some (sym c.index-renewed-index.is) in
    follows (new ≡ old ++ numbers c.deref.result.now ∷ []) (AreLinesTo kept places renewed at old → AreLinesTo kept places renewed (at + 1) new) c.add.result (λ is so. lines-made kept places renewed at old new (numbers c.deref.result.now) so is c.in-Some.ensures.distinct index r here there (ap numbers c.deref.ensures.value)) c.add.ensures.ok

pub returns-in-None : goal.returns-in-None
returns-in-None c =
    let kept = c.args.classes.now in
    let places = c.args.places.now in
    let renewed = c.args.renewed.now in
    let at = c.args.at in
    let old = c.args.lines.now in
    let new = c.add-in-None.new.self in
    let k = c.at-stored.result in
    let here : slice_get kept at ≡ Some k = slice_get-get_or kept at k c.requires.inside ∙ ap Some (sym c.at-stored.ensures) in
    follows (new ≡ old ++ numbers c.mro.result.now ∷ []) (AreLinesTo kept places renewed at old → AreLinesTo kept places renewed (at + 1) new) c.add-in-None.result (λ is so. lines-kept kept places renewed at old new (numbers c.mro.result.now) so is c.in-None.ensures.none k here c.mro.ensures) c.add-in-None.ensures.ok

use Rattle.class_table.proofs.Lemmas.{Some, List, refl, sym, ap, cond, not, ◌∙◌, arith, nat_lt, built_ins, is_empty, PyStrInterned, numbers, number_of, classes_of, class_of_new, there-of, best-there, line-given, base-given, solid-given, count-given}
use Rattle.std.proofs.Common.{◌||◌}
use Rattle.class_table.proofs.add.with_line.Goals as goal

pub inherited-requires-clause-there : goal.inherited-requires-clause-there
inherited-requires-clause-there c =
    let t = classes_of c.args.classes.now in
    let bs = numbers c.args.new.bases.items in
    best-there t bs c.args.best (there-of t c.args.new.number.0 bs c.requires.below) c.requires.best

pub returns : goal.returns
returns c =
    let kept = c.args.classes.now in
    let new = class_of_new c.args.new in
    let ok = c.requires.coherent in
    record {
      class = refl;
      attrs = c.are_distinct.ensures;
      full = c.empty_slots-slots.ensures;
      mro = line-given kept ok new c.requires.fresh c.requires.below c.args.best c.requires.best (numbers c.args.rest.now) c.requires.rest ∙ ap Some (sym c.in_ok-line.ensures);
      base = base-given kept ok new c.requires.fresh c.requires.below c.args.best c.requires.best;
      solid =
          solid-given kept ok new c.requires.fresh c.requires.below c.args.best c.requires.best
          ∙ ap (cond (nat_lt c.args.new.number.0 built_ins || not (is_empty c.args.new.members.items)) (Some c.args.new.number.0)) (sym c.inherited.ensures)
          ∙ ap (λ (ms : List PyStrInterned). cond (nat_lt c.args.new.number.0 built_ins || not (is_empty ms)) (Some c.args.new.number.0) (number_of c.inherited.result)) (sym c.deref.ensures.value)
          ∙ sym c.solid_of-solid.ensures;
      subclasses = ap numbers c.new-2.ensures.items;
      places = count-given kept ok new c.requires.fresh c.requires.below c.args.best c.requires.best (numbers c.args.rest.now) c.requires.rest ∙ ap Some (let h = c.in_ok-places.ensures in let n = c.len.ensures in omega (arith, h, n));
    }

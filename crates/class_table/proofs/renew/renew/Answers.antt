use Rattle.class_table.proofs.Lemmas.{Some, refl, sym, ap, ◌∙◌, arith, members_in, with_bases, member_count-kept, numbers, classes_of, count-line, members-agree}
use Rattle.std.proofs.Common.{◌≡◌}
use Rattle.class_table.proofs.renew.renew.Goals as goal

pub returns : goal.returns
returns c =
    let t = classes_of c.args.change.classes.now in
    let class = c.args.change.class.0 in
    let bs = numbers c.args.change.bases.now in
    let u = with_bases t class bs in
    let line = numbers c.args.line.now in
    let counted = c.in_ok-count_along.ensures in
    let count : members_in t line ≡ c.in_ok-count_along.field-0 = omega (arith, counted) in
    let same = members-agree u t line (λ x h. member_count-kept (λ k. record k { bases = bs }) (λ k. refl) t class (λ k. refl) x) in
    record {
      mro = c.requires.line ∙ ap (λ xs. Some (numbers xs)) (sym c.in_ok-from_slice.ensures.items);
      base = c.requires.base;
      subclasses = c.in_ok-subclasses_under.ensures;
      places = count-line u c.args.number.0 line c.requires.line ∙ ap Some (same ∙ count);
    }

use Rattle.class_table.proofs.Lemmas.{inl, inr, Some, refl, sym, subst, arith, IsCharBoundary, slice_index_or, NoCharPasses-char, rfind_char, last-part}
use Rattle.std.proofs.Common.{◌≡◌, ◌<◌, ◌+◌}
use Rattle.class_table.proofs.name.last_part.Goals as goal

pub returns-in-None-clause-part : goal.returns-in-None-clause-part
returns-in-None-clause-part c = record {
  start = 0;
  text = refl;
  past = inl refl;
  last = λ i from below at. NoCharPasses-char 46 c.args.name.now i c.in-None.ensures.cases (omega arith) below at;
}

pub returns-in-None-clause-past : goal.returns-in-None-clause-past
returns-in-None-clause-past c = sym (last-part _ _ (returns-in-None-clause-part c))

pub returns-in-Some-clause-part : goal.returns-in-Some-clause-part
returns-in-Some-clause-part c =
    let name = c.args.name.now in
    let cut = c.in-Some.ensures.cases in
    let i = cut.0 in
    let hit = cut.2.1 in
    let small : 46 < 128 = omega arith in
    let ends : cut.1 ≡ i + 1 = hit.ends in
    let order = cut.5 in
    let size = cut.7 in
    let byte : slice_index_or name i 0 ≡ 46 = hit.byte small in
    let before : IsCharBoundary name i = (omega (arith, order, size), λ l h. omega (arith, h, byte)) in
    let after : IsCharBoundary name cut.1 = subst (IsCharBoundary name) (sym hit.ends) hit.after in
    let last = rfind_char 46 name (Some i) (cut.1, cut.2, order, before, after) small in
    record {
      start = cut.1;
      text = cut.4;
      past = inr (i, omega (arith, ends), last.0, last.1);
      last = λ k from below at. last.2 k (omega (arith, from, ends)) below at;
    }

pub returns-in-Some-clause-past : goal.returns-in-Some-clause-past
returns-in-Some-clause-past c = sym (last-part _ _ (returns-in-Some-clause-part c))

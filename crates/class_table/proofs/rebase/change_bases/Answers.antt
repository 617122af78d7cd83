use Rattle.class_table.proofs.Lemmas.{length, ℕ, List, get_or, set, refl, sym, ap, subst, ◌∙◌, arith, get_or_default, length-set, is_heap, with_bases, numbers, StoredClass, class_of, classes_of, AreAffected, AreRenewed, AreSwapped, AreLinesOf, descendants, AreRanked, is_ranked, line_places, places_kept, Ranked, element, number-within, rise-within, settled-plain, lines-of-edited, lines-mid, full-mid, inside-mid, away-mid, places-mid}
use Rattle.std.proofs.Common.{◌≡◌, ◌*◌}
use Rattle.class_table.proofs.Renewing.{plain-final, coherent-final}
use Rattle.class_table.proofs.rebase.change_bases.Goals as goal

pub place-at-requires-clause-ascending : goal.place-at-requires-clause-ascending
place-at-requires-clause-ascending g c = c.requires.coherent.sound.ascending

pub set_bases-requires : goal.set_bases-requires
set_bases-requires g c = number-within c.args.classes.now c.place-at.result c.args.class.0 c.place-at.ensures

pub swap_in-requires : goal.swap_in-requires
swap_in-requires g c =
    let kept = c.args.classes.now in
    let bs = numbers c.args.bases.items in
    let at = c.place-at.result in
    let within = number-within kept at c.args.class.0 c.place-at.ensures in
    let k = get_or kept at (element kept at within) in
    let held : k ≡ get_or kept at k = get_or_default kept at (element kept at within) k within in
    let A : List ℕ → Type 0 = λ ps. AreAffected kept c.args.class.0 bs ps in
    let B : List ℕ → Type 0 = λ ps. AreRenewed kept c.args.class.0 bs ps c.args.plan.renewed.items in
    let L : List ℕ → Type 0 = λ ps. AreLinesOf kept ps c.args.plan.renewed.items c.args.plan.lines in
    let affected = subst A (sym c.all.ensures.all) c.requires.affected in
    let are = subst B (sym c.all.ensures.all) c.requires.renewed in
    let lines = subst L (sym c.all.ensures.all) c.requires.lines in
    let first : c.set_bases.new.self ≡ set kept at (record k { bases = bs }) = c.set_bases.ensures (element kept at within) in
    let n : length c.set_bases.new.self ≡ length kept = ap length first ∙ length-set kept at (record k { bases = bs }) in
    let M : List StoredClass → Type 0 = λ ys. AreLinesOf ys c.all.result.now c.args.plan.renewed.items c.args.plan.lines in
    record {
      count = are.count;
      distinct = affected.distinct;
      inside = λ i h. let l = affected.within i h in omega (arith, l, n);
      lines = subst M (sym first) (lines-of-edited (λ j. record j { bases = bs }) (λ j. refl) kept at k held within c.all.result.now c.args.plan.renewed.items c.args.plan.lines lines);
    }

pub settle_all-requires-clause-lines : goal.settle_all-requires-clause-lines
settle_all-requires-clause-lines g c =
    let kept = c.args.classes.now in
    let bs = numbers c.args.bases.items in
    let renewed = c.args.plan.renewed.items in
    let at = c.place-at.result in
    let within = number-within kept at c.args.class.0 c.place-at.ensures in
    let k = get_or kept at (element kept at within) in
    let held : k ≡ get_or kept at k = get_or_default kept at (element kept at within) k within in
    let mid = c.swap_in.new.classes in
    let first = c.set_bases.ensures (element kept at within) in
    let P : List StoredClass → Type 0 = λ ys. AreSwapped c.all.result.now renewed ys mid in
    let swapped = subst P first c.swap_in.ensures in
    let touched = c.all.result.now in
    let A : List ℕ → Type 0 = λ ps. AreAffected kept c.args.class.0 bs ps in
    let B : List ℕ → Type 0 = λ ps. AreRenewed kept c.args.class.0 bs ps renewed in
    let affected = subst A (sym c.all.ensures.all) c.requires.affected in
    let are = subst B (sym c.all.ensures.all) c.requires.renewed in
    lines-mid kept c.requires.coherent c.args.class.0 bs c.requires.own c.requires.there c.requires.passed touched affected renewed are at c.place-at.ensures k held mid swapped

pub settle_all-requires-clause-full : goal.settle_all-requires-clause-full
settle_all-requires-clause-full g c =
    let kept = c.args.classes.now in
    let bs = numbers c.args.bases.items in
    let renewed = c.args.plan.renewed.items in
    let at = c.place-at.result in
    let within = number-within kept at c.args.class.0 c.place-at.ensures in
    let k = get_or kept at (element kept at within) in
    let held : k ≡ get_or kept at k = get_or_default kept at (element kept at within) k within in
    let mid = c.swap_in.new.classes in
    let first = c.set_bases.ensures (element kept at within) in
    let P : List StoredClass → Type 0 = λ ys. AreSwapped c.all.result.now renewed ys mid in
    let swapped = subst P first c.swap_in.ensures in
    let touched = c.all.result.now in
    let A : List ℕ → Type 0 = λ ps. AreAffected kept c.args.class.0 bs ps in
    let B : List ℕ → Type 0 = λ ps. AreRenewed kept c.args.class.0 bs ps renewed in
    let affected = subst A (sym c.all.ensures.all) c.requires.affected in
    let are = subst B (sym c.all.ensures.all) c.requires.renewed in
    full-mid kept c.requires.coherent c.args.class.0 bs c.requires.own c.requires.there c.requires.passed touched affected renewed are at c.place-at.ensures k held mid swapped

pub settle_all-requires-clause-inside : goal.settle_all-requires-clause-inside
settle_all-requires-clause-inside g c =
    let kept = c.args.classes.now in
    let bs = numbers c.args.bases.items in
    let renewed = c.args.plan.renewed.items in
    let at = c.place-at.result in
    let within = number-within kept at c.args.class.0 c.place-at.ensures in
    let k = get_or kept at (element kept at within) in
    let held : k ≡ get_or kept at k = get_or_default kept at (element kept at within) k within in
    let mid = c.swap_in.new.classes in
    let first = c.set_bases.ensures (element kept at within) in
    let P : List StoredClass → Type 0 = λ ys. AreSwapped c.all.result.now renewed ys mid in
    let swapped = subst P first c.swap_in.ensures in
    let touched = c.all.result.now in
    let A : List ℕ → Type 0 = λ ps. AreAffected kept c.args.class.0 bs ps in
    let B : List ℕ → Type 0 = λ ps. AreRenewed kept c.args.class.0 bs ps renewed in
    let affected = subst A (sym c.all.ensures.all) c.requires.affected in
    let are = subst B (sym c.all.ensures.all) c.requires.renewed in
    let Q : List Ranked → Type 0 = λ rs. AreRanked kept c.args.class.0 rs in
    let all = subst Q (sym c.deref.ensures.value) c.requires.ranked in
    inside-mid kept c.requires.coherent c.args.class.0 bs c.requires.own c.requires.there c.requires.passed touched affected renewed are at c.place-at.ensures k held mid swapped c.deref.result.now all

pub settle_all-requires-clause-away : goal.settle_all-requires-clause-away
settle_all-requires-clause-away g c =
    let kept = c.args.classes.now in
    let bs = numbers c.args.bases.items in
    let renewed = c.args.plan.renewed.items in
    let at = c.place-at.result in
    let within = number-within kept at c.args.class.0 c.place-at.ensures in
    let k = get_or kept at (element kept at within) in
    let held : k ≡ get_or kept at k = get_or_default kept at (element kept at within) k within in
    let mid = c.swap_in.new.classes in
    let first = c.set_bases.ensures (element kept at within) in
    let P : List StoredClass → Type 0 = λ ys. AreSwapped c.all.result.now renewed ys mid in
    let swapped = subst P first c.swap_in.ensures in
    let touched = c.all.result.now in
    let A : List ℕ → Type 0 = λ ps. AreAffected kept c.args.class.0 bs ps in
    let B : List ℕ → Type 0 = λ ps. AreRenewed kept c.args.class.0 bs ps renewed in
    let affected = subst A (sym c.all.ensures.all) c.requires.affected in
    let are = subst B (sym c.all.ensures.all) c.requires.renewed in
    let Q : List Ranked → Type 0 = λ rs. AreRanked kept c.args.class.0 rs in
    let all = subst Q (sym c.deref.ensures.value) c.requires.ranked in
    away-mid kept c.requires.coherent c.args.class.0 bs c.requires.own c.requires.there c.requires.passed touched affected renewed are at c.place-at.ensures k held mid swapped c.deref.result.now all

pub returns-clause-coherent : goal.returns-clause-coherent
returns-clause-coherent g c =
    let kept = c.args.classes.now in
    let bs = numbers c.args.bases.items in
    let renewed = c.args.plan.renewed.items in
    let at = c.place-at.result in
    let within = number-within kept at c.args.class.0 c.place-at.ensures in
    let k = get_or kept at (element kept at within) in
    let held : k ≡ get_or kept at k = get_or_default kept at (element kept at within) k within in
    let mid = c.swap_in.new.classes in
    let first = c.set_bases.ensures (element kept at within) in
    let P : List StoredClass → Type 0 = λ ys. AreSwapped c.all.result.now renewed ys mid in
    let swapped = subst P first c.swap_in.ensures in
    let touched = c.all.result.now in
    let A : List ℕ → Type 0 = λ ps. AreAffected kept c.args.class.0 bs ps in
    let B : List ℕ → Type 0 = λ ps. AreRenewed kept c.args.class.0 bs ps renewed in
    let affected = subst A (sym c.all.ensures.all) c.requires.affected in
    let are = subst B (sym c.all.ensures.all) c.requires.renewed in
    let Q : List Ranked → Type 0 = λ rs. AreRanked kept c.args.class.0 rs in
    let all = subst Q (sym c.deref.ensures.value) c.requires.ranked in
    let plain = settled-plain (λ k. is_heap (class_of k)) (λ t k. refl) (λ i k. is_ranked c.deref.result.now i) mid c.settle_all.new.classes c.settle_all.ensures.settled in
    coherent-final kept c.requires.coherent c.args.class.0 bs c.requires.own c.requires.there c.requires.passed touched affected renewed are at c.place-at.ensures k held mid swapped c.deref.result.now all c.settle_all.new.classes c.settle_all.ensures.settled plain

pub returns-clause-set : goal.returns-clause-set
returns-clause-set g c =
    let kept = c.args.classes.now in
    let bs = numbers c.args.bases.items in
    let renewed = c.args.plan.renewed.items in
    let at = c.place-at.result in
    let within = number-within kept at c.args.class.0 c.place-at.ensures in
    let k = get_or kept at (element kept at within) in
    let held : k ≡ get_or kept at k = get_or_default kept at (element kept at within) k within in
    let mid = c.swap_in.new.classes in
    let first = c.set_bases.ensures (element kept at within) in
    let P : List StoredClass → Type 0 = λ ys. AreSwapped c.all.result.now renewed ys mid in
    let swapped = subst P first c.swap_in.ensures in
    let touched = c.all.result.now in
    let A : List ℕ → Type 0 = λ ps. AreAffected kept c.args.class.0 bs ps in
    let B : List ℕ → Type 0 = λ ps. AreRenewed kept c.args.class.0 bs ps renewed in
    let affected = subst A (sym c.all.ensures.all) c.requires.affected in
    let are = subst B (sym c.all.ensures.all) c.requires.renewed in
    let Q : List Ranked → Type 0 = λ rs. AreRanked kept c.args.class.0 rs in
    let all = subst Q (sym c.deref.ensures.value) c.requires.ranked in
    let plain = settled-plain (λ k. is_heap (class_of k)) (λ t k. refl) (λ i k. is_ranked c.deref.result.now i) mid c.settle_all.new.classes c.settle_all.ensures.settled in
    plain-final kept c.requires.coherent c.args.class.0 bs c.requires.own c.requires.there c.requires.passed touched affected renewed are at c.place-at.ensures k held mid swapped c.deref.result.now all c.settle_all.new.classes c.settle_all.ensures.settled plain

pub returns-clause-steps : goal.returns-clause-steps
returns-clause-steps g c =
    let kept = c.args.classes.now in
    let bs = numbers c.args.bases.items in
    let renewed = c.args.plan.renewed.items in
    let at = c.place-at.result in
    let within = number-within kept at c.args.class.0 c.place-at.ensures in
    let k = get_or kept at (element kept at within) in
    let held : k ≡ get_or kept at k = get_or_default kept at (element kept at within) k within in
    let mid = c.swap_in.new.classes in
    let first = c.set_bases.ensures (element kept at within) in
    let P : List StoredClass → Type 0 = λ ys. AreSwapped c.all.result.now renewed ys mid in
    let swapped = subst P first c.swap_in.ensures in
    let touched = c.all.result.now in
    let A : List ℕ → Type 0 = λ ps. AreAffected kept c.args.class.0 bs ps in
    let B : List ℕ → Type 0 = λ ps. AreRenewed kept c.args.class.0 bs ps renewed in
    let affected = subst A (sym c.all.ensures.all) c.requires.affected in
    let are = subst B (sym c.all.ensures.all) c.requires.renewed in
    let Q : List Ranked → Type 0 = λ rs. AreRanked kept c.args.class.0 rs in
    let all = subst Q (sym c.deref.ensures.value) c.requires.ranked in
    let few = places-mid kept c.requires.coherent c.args.class.0 bs c.requires.own c.requires.there c.requires.passed touched affected renewed are at c.place-at.ensures k held mid swapped c.deref.result.now all in
    rise-within 0 (70 * places_kept mid c.deref.result.now) 0 (70 * line_places (with_bases (classes_of kept) c.args.class.0 bs) (descendants (classes_of kept) c.args.class.0)) c.args.steps.now c.settle_all.new.steps c.settle_all.ensures.steps (omega arith) (omega (arith, few))

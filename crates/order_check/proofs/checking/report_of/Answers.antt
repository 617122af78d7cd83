use Rattle.order_check.proofs.Lemmas.{ℕ, suc, List, length, sym, subst, arith, length-append, slice_get, Line, OnBoth, IsLine, IsFoundLine, bases-at}
use Rattle.std.proofs.Common.{◌<◌}
use Rattle.order_check.proofs.Paired.{one-more, all-there}
use Rattle.order_check.proofs.checking.report_of.Goals as goal

pub line_of-requires-clause-class : goal.line_of-requires-clause-class
line_of-requires-clause-class c =
    bases-at c.args.entries.now c.loop-place.place c.index-entries-place.result c.requires.keyed c.loop-place-test.true c.index-entries-place.is

pub loop-place-preserved : goal.loop-place-preserved
loop-place-preserved c =
    let h = c.args.entries.now in
    let lines = c.loop-place.lines.items in
    let e = c.index-entries-place.result in
    let x = c.in_ok-line_of.field-0 in
    let R : List Line → Type 0 = λ ls. (k : ℕ) → k < length ls → OnBoth (IsLine h) (slice_get h (suc k)) (slice_get ls k) in
    let F : List Line → Type 0 = λ ls. (k : ℕ) → k < length ls → OnBoth (IsFoundLine h) (slice_get h (suc k)) (slice_get ls k) in
    record {
      count = rw c.in_ok-push.ensures.items (simp length-append (omega (arith, c.loop-place.invariant.count)));
      right = subst R (sym {A = List Line} c.in_ok-push.ensures.items) (one-more (IsLine h) h lines e x c.loop-place.place c.loop-place.invariant.count c.loop-place-test.true c.index-entries-place.is c.in_ok-line_of.ensures.line c.loop-place.invariant.right);
      found = subst F (sym {A = List Line} c.in_ok-push.ensures.items) (one-more (IsFoundLine h) h lines e x c.loop-place.place c.loop-place.invariant.count c.loop-place-test.true c.index-entries-place.is c.in_ok-line_of.ensures.found c.loop-place.invariant.found);
    }

pub returns-clause-report : goal.returns-clause-report
returns-clause-report c =
    all-there (IsLine c.args.entries.now) c.args.entries.now c.loop-place.lines.items c.loop-place.place c.loop-place.invariant.count c.loop-place-test.false c.loop-place.invariant.right

pub returns-clause-found : goal.returns-clause-found
returns-clause-found c =
    all-there (IsFoundLine c.args.entries.now) c.args.entries.now c.loop-place.lines.items c.loop-place.place c.loop-place.invariant.count c.loop-place-test.false c.loop-place.invariant.found

use Rattle.order_check.proofs.Lemmas.{List, ℕ, true, length, get_or, refl, ap, sym, subst, ◌∙◌, false≢true, slice_get_read, keys_of, AreBefore, earlier-none, earlier-more, earlier-at}
use Rattle.std.proofs.Common.{◌≡◌}
use Rattle.std.specs.Prelude.{◌↔◌}
use Rattle.order_check.proofs.forms.are_earlier.Goals as goal

pub loop-place-init : goal.loop-place-init
loop-place-init c = earlier-none c.args.entries.now

pub returns-then-not-are_before : goal.returns-then-not-are_before
returns-then-not-are_before c =
    let h = c.args.entries.now in
    let e = get_or h c.loop-place.place c.index-entries-place.result in
    let at = slice_get_read h (length h) c.loop-place.place e refl c.loop-place-test.true (ap (get_or h c.loop-place.place) c.index-entries-place.is) in
    let P : List ℕ → Type 0 = λ bs. (c.are_before.result ≡ true) ↔ AreBefore (keys_of h) c.loop-place.place bs in
    let test = subst P c.deref.ensures.value c.are_before.ensures in
    (λ t. absurd (false≢true t), λ a. absurd (false≢true (sym c.if-not-are_before.true ∙ test.1 (earlier-at h c.loop-place.place (length h) e a c.loop-place-test.true at))))

pub loop-place-preserved : goal.loop-place-preserved
loop-place-preserved c =
    let h = c.args.entries.now in
    let e = get_or h c.loop-place.place c.index-entries-place.result in
    let at = slice_get_read h (length h) c.loop-place.place e refl c.loop-place-test.true (ap (get_or h c.loop-place.place) c.index-entries-place.is) in
    let P : List ℕ → Type 0 = λ bs. (c.are_before.result ≡ true) ↔ AreBefore (keys_of h) c.loop-place.place bs in
    let test = subst P c.deref.ensures.value c.are_before.ensures in
    earlier-more h c.loop-place.place e c.loop-place.invariant at (test.0 c.if-not-are_before.false)

use Rattle.class_table.proofs.Lemmas.{[], List, length, get_or, take, Some, not, refl, sym, ap, subst, ◌∙◌, arith, slice_get, take_more, take_all, slice_get-get_or, is_heap, StoredClass, class_of, AreSettled, is_static_ranked, Ranked, element, settled-start, settled-plain, settled-skip, settled-more, settled-lines, settled-full, kind-settled, heaps-keep}
use Rattle.std.proofs.Common.{◌≡◌, ◌+◌, ◌<◌, ◌++◌, ◌∷◌}
use Rattle.class_table.proofs.settle.settle_statics.Goals as goal
use Rattle.class_table.proofs.settle.settle_statics.Goals.{then-not-is_heap_at, else-not-is_heap_at}

pub loop-next-init : goal.loop-next-init
loop-next-init c = record { settled = settled-start (λ k. not (is_heap (class_of k))) (λ t k. refl) c.args.classes.now }

pub is_heap_at-requires : goal.is_heap_at-requires
is_heap_at-requires c =
    let i = c.loop-next.next-index in
    let r : Ranked = get_or c.args.ranked.now i (record { place = 0; length = 0 }) in
    let l = c.requires.inside i r (slice_get-get_or c.args.ranked.now i (record { place = 0; length = 0 }) c.loop-next-test.true) in
    let n = c.loop-next.invariant.settled.count in
    omega (arith, l, n)

pub settle_static-requires : goal.settle_static-requires
settle_static-requires c =
    let rs = c.args.ranked.now in
    let orig = c.args.classes.now in
    let cur = c.loop-next.classes in
    let i = c.loop-next.next-index in
    let r : Ranked = get_or rs i (record { place = 0; length = 0 }) in
    let l = c.requires.inside i r (slice_get-get_or rs i (record { place = 0; length = 0 }) c.loop-next-test.true) in
    let a = c.loop-next.invariant.settled in
    let n = a.count in
    let inside : r.place < length cur = omega (arith, l, n) in
    let plain = settled-plain (λ k. not (is_heap (class_of k))) (λ t k. refl) (is_static_ranked (take i rs)) orig cur a in
    record {
      lines = settled-lines (is_static_ranked (take i rs)) orig cur a plain c.requires.lines;
      heaps = heaps-keep (take i rs) orig cur a plain c.requires.heaps;
      inside = inside;
      full = λ d. settled-full (is_static_ranked (take i rs)) orig cur a plain c.requires.full r.place (get_or cur r.place d) (slice_get-get_or cur r.place d inside);
      not_heap = λ d. sym (c.is_heap_at.ensures (get_or cur r.place d) (slice_get-get_or cur r.place d inside)) ∙ c.if-not-is_heap_at.true;
    }

pub loop-next-preserved : goal.loop-next-preserved
loop-next-preserved c =
    let rs = c.args.ranked.now in
    let orig = c.args.classes.now in
    let cur = c.loop-next.classes in
    let i = c.loop-next.next-index in
    let test = c.loop-next-test.true in
    let r : Ranked = get_or rs i (record { place = 0; length = 0 }) in
    let l = c.requires.inside i r (slice_get-get_or rs i (record { place = 0; length = 0 }) test) in
    let a = c.loop-next.invariant.settled in
    let n = a.count in
    let inside : r.place < length cur = omega (arith, l, n) in
    let plain = settled-plain (λ k. not (is_heap (class_of k))) (λ t k. refl) (is_static_ranked (take i rs)) orig cur a in
    let d = element cur r.place inside in
    let x = get_or cur r.place d in
    let here : slice_get cur r.place ≡ Some x = slice_get-get_or cur r.place d inside in
    let more : take (i + 1) rs ≡ take i rs ++ r ∷ [] = take_more rs i (record { place = 0; length = 0 }) test in
    let P : List Ranked → Type 0 = λ ys. AreSettled (is_static_ranked ys) orig c.if-not-is_heap_at.classes in
    elim c.if-not-is_heap_at.branch [
      | then-not-is_heap_at w ↦ record {
        settled = subst P (sym more) (settled-more (λ k. not (is_heap (class_of k))) (λ t k. refl) (take i rs) r orig cur c.if-not-is_heap_at.classes x a here (ap not (sym (c.is_heap_at.ensures x here) ∙ w.if-not-is_heap_at.true)) (w.classes-is ∙ w.settle_static.ensures d));
      }
      | else-not-is_heap_at w ↦
          let R : List StoredClass → Type 0 = λ ys. AreSettled (is_static_ranked (take (i + 1) rs)) orig ys in
          let S : List Ranked → Type 0 = λ ys. AreSettled (is_static_ranked ys) orig cur in
          record {
            settled = subst R (sym w.classes-is) (subst S (sym more) (settled-skip (λ k. not (is_heap (class_of k))) (λ t k. refl) (take i rs) r orig cur (λ k e. ap not (sym (kind-settled (is_static_ranked (take i rs)) orig cur a plain r.place x k here e) ∙ sym (c.is_heap_at.ensures x here) ∙ w.if-not-is_heap_at.false)) a));
          }
    ]

pub returns : goal.returns
returns c =
    let rs = c.args.ranked.now in
    let P : List Ranked → Type 0 = λ ys. AreSettled (is_static_ranked ys) c.args.classes.now c.loop-next.classes in
    subst P (take_all c.loop-next.next-index rs c.loop-next-test.false) c.loop-next.invariant.settled

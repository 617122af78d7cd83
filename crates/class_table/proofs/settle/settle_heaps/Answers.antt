use Rattle.class_table.proofs.Lemmas.{[], List, length, get_or, take, Some, refl, sym, subst, ◌∙◌, arith, slice_get, take_more, take_all, slice_get-get_or, is_heap, StoredClass, class_of, AreSettled, is_heap_ranked, places_kept, Counts, RiseBy, Ranked, element, rise-none, rise-then, rise-within, settled-start, settled-plain, settled-skip, settled-more, settled-lines, settled-full, line-settled, kind-settled, places-more}
use Rattle.std.proofs.Common.{◌≡◌, ◌+◌, ◌*◌, ◌<◌, ◌++◌, ◌∷◌}
use Rattle.class_table.proofs.settle.settle_heaps.Goals as goal
use Rattle.class_table.proofs.settle.settle_heaps.Goals.{then-is_heap_at, else-is_heap_at}

pub loop-next-init : goal.loop-next-init
loop-next-init g c = record {
  settled = settled-start (λ k. is_heap (class_of k)) (λ t k. refl) c.args.classes.now;
  steps = rise-none c.args.steps.now;
}

pub is_heap_at-requires : goal.is_heap_at-requires
is_heap_at-requires g c =
    let i = c.loop-next.next-index in
    let r : Ranked = get_or c.args.ranked.now i (record { place = 0; length = 0 }) in
    let l = c.requires.inside i r (slice_get-get_or c.args.ranked.now i (record { place = 0; length = 0 }) c.loop-next-test.true) in
    let n = c.loop-next.invariant.settled.count in
    omega (arith, l, n)

pub settle_heap-requires : goal.settle_heap-requires
settle_heap-requires g c =
    let rs = c.args.ranked.now in
    let orig = c.args.classes.now in
    let cur = c.loop-next.classes in
    let i = c.loop-next.next-index in
    let r : Ranked = get_or rs i (record { place = 0; length = 0 }) in
    let l = c.requires.inside i r (slice_get-get_or rs i (record { place = 0; length = 0 }) c.loop-next-test.true) in
    let a = c.loop-next.invariant.settled in
    let n = a.count in
    let inside : r.place < length cur = omega (arith, l, n) in
    let plain = settled-plain (λ k. is_heap (class_of k)) (λ t k. refl) (is_heap_ranked (take i rs)) orig cur a in
    record {
      lines = settled-lines (is_heap_ranked (take i rs)) orig cur a plain c.requires.lines;
      inside = inside;
      full = λ d. settled-full (is_heap_ranked (take i rs)) orig cur a plain c.requires.full r.place (get_or cur r.place d) (slice_get-get_or cur r.place d inside);
      heap = λ d. sym (c.is_heap_at.ensures (get_or cur r.place d) (slice_get-get_or cur r.place d inside)) ∙ c.if-is_heap_at.true;
    }

pub loop-next-preserved : goal.loop-next-preserved
loop-next-preserved g c =
    let rs = c.args.ranked.now in
    let orig = c.args.classes.now in
    let cur = c.loop-next.classes in
    let i = c.loop-next.next-index in
    let test = c.loop-next-test.true in
    let r : Ranked = get_or rs i (record { place = 0; length = 0 }) in
    let l = c.requires.inside i r (slice_get-get_or rs i (record { place = 0; length = 0 }) test) in
    let a = c.loop-next.invariant.settled in
    let n = a.count in
    let inside : r.place < length cur = omega (arith, l, n) in
    let plain = settled-plain (λ k. is_heap (class_of k)) (λ t k. refl) (is_heap_ranked (take i rs)) orig cur a in
    let d = element cur r.place inside in
    let x = get_or cur r.place d in
    let here : slice_get cur r.place ≡ Some x = slice_get-get_or cur r.place d inside in
    let more : take (i + 1) rs ≡ take i rs ++ r ∷ [] = take_more rs i (record { place = 0; length = 0 }) test in
    let places = places-more rs i (record { place = 0; length = 0 }) orig test in
    let line = line-settled (is_heap_ranked (take i rs)) orig cur a plain r.place x here in
    let P : List Ranked → Type 0 = λ ys. AreSettled (is_heap_ranked ys) orig c.if-is_heap_at.classes in
    let Q : Counts → Type 0 = λ s. RiseBy 0 (70 * places_kept orig (take (i + 1) rs)) c.args.steps.now s in
    elim c.if-is_heap_at.branch [
      | then-is_heap_at w ↦ record {
        settled = subst P (sym more) (settled-more (λ k. is_heap (class_of k)) (λ t k. refl) (take i rs) r orig cur c.if-is_heap_at.classes x a here (sym (c.is_heap_at.ensures x here) ∙ w.if-is_heap_at.true) (w.classes-is ∙ w.settle_heap.ensures.set d));
        steps = subst Q (sym w.steps-is) (rise-within 0 (70 * places_kept orig (take i rs) + 70 * length x.mro) 0 (70 * places_kept orig (take (i + 1) rs)) c.args.steps.now w.settle_heap.new.steps (rise-then 0 (70 * places_kept orig (take i rs)) 0 (70 * length x.mro) c.args.steps.now c.loop-next.steps w.settle_heap.new.steps c.loop-next.invariant.steps (w.settle_heap.ensures.steps d)) (omega arith) (omega (arith, places, line)));
      }
      | else-is_heap_at w ↦
          let R : List StoredClass → Type 0 = λ ys. AreSettled (is_heap_ranked (take (i + 1) rs)) orig ys in
          let S : List Ranked → Type 0 = λ ys. AreSettled (is_heap_ranked ys) orig cur in
          record {
            settled = subst R (sym w.classes-is) (subst S (sym more) (settled-skip (λ k. is_heap (class_of k)) (λ t k. refl) (take i rs) r orig cur (λ k e. sym (kind-settled (is_heap_ranked (take i rs)) orig cur a plain r.place x k here e) ∙ sym (c.is_heap_at.ensures x here) ∙ w.if-is_heap_at.false) a));
            steps = subst Q (sym w.steps-is) (rise-within 0 (70 * places_kept orig (take i rs)) 0 (70 * places_kept orig (take (i + 1) rs)) c.args.steps.now c.loop-next.steps c.loop-next.invariant.steps (omega arith) (omega (arith, places)));
          }
    ]

pub returns-clause-settled : goal.returns-clause-settled
returns-clause-settled g c =
    let rs = c.args.ranked.now in
    let P : List Ranked → Type 0 = λ ys. AreSettled (is_heap_ranked ys) c.args.classes.now c.loop-next.classes in
    subst P (take_all c.loop-next.next-index rs c.loop-next-test.false) c.loop-next.invariant.settled

pub returns-clause-steps : goal.returns-clause-steps
returns-clause-steps g c =
    let rs = c.args.ranked.now in
    let P : List Ranked → Type 0 = λ ys. RiseBy 0 (70 * places_kept c.args.classes.now ys) c.args.steps.now c.loop-next.steps in
    subst P (take_all c.loop-next.next-index rs c.loop-next-test.false) c.loop-next.invariant.steps

use Rattle.order_check.proofs.Lemmas.{ℕ, List, length, Result, Ok, Err, sym, ap, ◌∙◌, arith, IfOk, Vec, has, rows, up_to, walk, walk-back, walk-on, walk-end}
use Rattle.std.proofs.Common.{◌≡◌, ◌+◌, ◌-◌, ◌∷◌}
use Rattle.order_check.proofs.walk.walk.Goals as goal

as_said : {E : Type 0} (r : Result (Vec ℕ) E) (xs ys : List ℕ) → xs ≡ ys → IfOk r (λ v. v.items ≡ xs) → IfOk r (λ v. v.items ≡ ys)
as_said (Ok v) xs ys e h = h ∙ e
as_said (Err x) xs ys e h = tt

pub returns-then-has : goal.returns-then-has
returns-then-has c =
    let ls = rows c.args.lists.now in
    let back = ap (λ l. has l c.loop-step.next) (sym c.deref.ensures.value) ∙ sym c.has.ensures ∙ c.if-has.true in
    as_said c.up_to.result _ _ (ap (up_to c.loop-step.next) c.deref-then-has.ensures.value ∙ sym (walk-back (length c.args.lists.now - c.loop-step._step) ls c.loop-step.seen.items c.loop-step.next back) ∙ c.loop-step.invariant) c.up_to.ensures

pub loop-step-preserved : goal.loop-step-preserved
loop-step-preserved c =
    let ls = rows c.args.lists.now in
    let on = ap (λ l. has l c.loop-step.next) (sym c.deref.ensures.value) ∙ sym c.has.ensures ∙ c.if-has.false in
    let put : c.insert.new.self.items ≡ c.loop-step.next ∷ c.loop-step.seen.items = c.in_ok-insert.ensures.items in
    let left : ℕ = length c.args.lists.now - (c.loop-step._step + 1) in
    ap (λ l. walk left ls l c.holder-next.result) put
    ∙ ap (walk left ls (c.loop-step.next ∷ c.loop-step.seen.items)) c.holder-next.ensures
    ∙ sym (walk-on (length c.args.lists.now) c.loop-step._step ls c.loop-step.seen.items c.loop-step.next c.loop-step-test.true on)
    ∙ c.loop-step.invariant

pub returns : goal.returns
returns c =
    let ls = rows c.args.lists.now in
    let none : length c.args.lists.now - c.loop-step._step ≡ 0 = omega arith in
    as_said c.up_to-2.result _ _ (ap (up_to c.loop-step.next) c.deref-2.ensures.value ∙ sym (walk-end ls c.loop-step.seen.items c.loop-step.next) ∙ sym (ap (λ n. walk n ls c.loop-step.seen.items c.loop-step.next) none) ∙ c.loop-step.invariant) c.up_to-2.ensures

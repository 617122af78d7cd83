use Rattle.class_table.proofs.Lemmas.{ℕ, Some, inl, inr, refl, sym, ap, subst, ◌∙◌, arith, slice_get, value_of, or_else, is_called, value_at, option_and_then, cases_eq, rise-none, rise-then, rise-within, rise-probe, away, wider}
use Rattle.std.proofs.Common.{◌≡◌, ◌-◌, ◌+◌}
use Rattle.class_table.proofs.probe.ask_some.Goals as goal

pub loop-number-init : goal.loop-number-init
loop-number-init g c = record {
  count = c.requires.count;
  asked = λ n l m. absurd (omega (arith, l, m));
  others = λ n l. refl;
  steps = rise-within 0 0 0 (c.args.from - c.args.from) c.args.steps.now c.args.steps.now (rise-none c.args.steps.now) (omega arith) (omega arith);
}

pub loop-number-preserved : goal.loop-number-preserved
loop-number-preserved g c =
    let i = c.loop-number.number in
    let old = c.args.values.now in
    let now = c.loop-number.values in
    let then = c.ask.new.values in
    let before = c.loop-number.invariant in
    record {
      count = c.ask.ensures.count;
      asked = λ n l m. elim (cases_eq n i) [
        | inl e ↦
            let P : ℕ → Type 0 = λ k. slice_get then k ≡ Some (or_else (value_at old k) (value_of (is_called k) c.args.attrs.now)) in
            subst P (sym e) (c.ask.ensures.asked ∙ ap (λ o. Some (or_else (option_and_then (λ v. v) o) (value_of (is_called i) c.args.attrs.now))) (before.others i (inr (omega arith))))
        | inr d ↦ c.ask.ensures.others n d ∙ before.asked n l (omega (arith, m, d))
      ];
      others = λ n l. c.ask.ensures.others n (away n i c.args.from l c.loop-number.auto.number) ∙ before.others n (wider n i c.args.from l);
      steps = rise-within 0 (i - c.args.from + 1) 0 (i + 1 - c.args.from) c.args.steps.now c.probe.new.self (rise-then 0 (i - c.args.from) 0 1 c.args.steps.now c.loop-number.steps c.probe.new.self before.steps (rise-probe c.loop-number.steps c.probe.new.self c.probe.ensures)) (omega arith) (omega (arith, c.loop-number.auto.number));
    }

pub returns-clause-asked : goal.returns-clause-asked
returns-clause-asked g c = λ n l m. c.loop-number.invariant.asked n l (omega (arith, m, c.loop-number-test.false))

pub returns-clause-others : goal.returns-clause-others
returns-clause-others g c = λ n l. c.loop-number.invariant.others n (elim l [ inl a ↦ inl a | inr b ↦ inr (omega (arith, b, c.loop-number.auto.number-end)) ])

pub returns-clause-steps : goal.returns-clause-steps
returns-clause-steps g c =
    rise-within 0 (c.loop-number.number - c.args.from) 0 (c.args.to - c.args.from) c.args.steps.now c.loop-number.steps c.loop-number.invariant.steps (omega arith) (omega (arith, c.loop-number.auto.number-end))

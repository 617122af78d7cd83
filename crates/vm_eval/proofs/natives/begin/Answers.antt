use Rattle.vm_eval.proofs.Lemmas.{◌∙◌, sym, family-begins, plain-begins, sorted_ends, items-family, conversions-family, comparisons-family, repeats-family, details-family, calls-family}
use Rattle.vm_eval.proofs.natives.begin.Goals as goal

pub returns-in_ok-step-in-Items-clause-goes : goal.returns-in_ok-step-in-Items-clause-goes
returns-in_ok-step-in-Items-clause-goes c =
    let a = c.args in
    let step = c.in_ok-step-in-Items in
    family-begins items-family a.entry a.args a.kw _ _ step.step c.of_items.result (sym c.family_of.ensures ∙ c.in-Items.is) c.of_items.ensures.step step.ensures.goes

pub returns-in_ok-step-in-Conversions-clause-goes : goal.returns-in_ok-step-in-Conversions-clause-goes
returns-in_ok-step-in-Conversions-clause-goes c =
    let a = c.args in
    let step = c.in_ok-step-in-Conversions in
    family-begins conversions-family a.entry a.args a.kw _ _ step.step c.of_conversions.result (sym c.family_of.ensures ∙ c.in-Conversions.is) c.of_conversions.ensures.step step.ensures.goes

pub returns-in_ok-step-in-Comparisons-clause-goes : goal.returns-in_ok-step-in-Comparisons-clause-goes
returns-in_ok-step-in-Comparisons-clause-goes c =
    let a = c.args in
    let step = c.in_ok-step-in-Comparisons in
    family-begins comparisons-family a.entry a.args a.kw _ _ step.step c.of_comparisons.result (sym c.family_of.ensures ∙ c.in-Comparisons.is) c.of_comparisons.ensures.step step.ensures.goes

pub returns-in_ok-step-in-Repeats-clause-goes : goal.returns-in_ok-step-in-Repeats-clause-goes
returns-in_ok-step-in-Repeats-clause-goes c =
    let a = c.args in
    let step = c.in_ok-step-in-Repeats in
    family-begins repeats-family a.entry a.args a.kw _ _ step.step c.of_repeats.result (sym c.family_of.ensures ∙ c.in-Repeats.is) c.of_repeats.ensures.step step.ensures.goes

pub returns-in_ok-step-in-Details-clause-goes : goal.returns-in_ok-step-in-Details-clause-goes
returns-in_ok-step-in-Details-clause-goes c =
    let a = c.args in
    let step = c.in_ok-step-in-Details in
    family-begins details-family a.entry a.args a.kw _ _ step.step c.of_details.result (sym c.family_of.ensures ∙ c.in-Details.is) c.of_details.ensures.step step.ensures.goes

pub returns-in_ok-step-in-Calls-clause-goes : goal.returns-in_ok-step-in-Calls-clause-goes
returns-in_ok-step-in-Calls-clause-goes c =
    let a = c.args in
    let step = c.in_ok-step-in-Calls in
    family-begins calls-family a.entry a.args a.kw _ _ step.step c.of_calls.result (sym c.family_of.ensures ∙ c.in-Calls.is) c.of_calls.ensures.step step.ensures.goes

pub returns-in_ok-answer-in-Plain-clause-goes : goal.returns-in_ok-answer-in-Plain-clause-goes
returns-in_ok-answer-in-Plain-clause-goes c =
    let a = c.args in
    let e = c.in_ok-answer-in-Plain in
    let ends = rw (c.deref.ensures.value, c.deref-in-Plain.ensures.value) at c.plain_native.ensures.ends in
    plain-begins a.entry a.args.items a.kw.items _ _ e.answer (sym c.family_of.ensures ∙ c.in-Plain.is) (sorted_ends c.plain_native.result e.answer _ e.ensures ends)

pub returns-in_ok-answer-in-Plain-clause-safe : goal.returns-in_ok-answer-in-Plain-clause-safe
returns-in_ok-answer-in-Plain-clause-safe c =
    let e = c.in_ok-answer-in-Plain in
    let safe = c.plain_native.ensures.safe in
    (safe.0, sorted_ends c.plain_native.result e.answer _ e.ensures safe.1)

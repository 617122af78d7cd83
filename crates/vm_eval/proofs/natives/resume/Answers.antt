use Rattle.vm_eval.proofs.Lemmas.{family-resumes, items-family, conversions-family, comparisons-family, repeats-family, details-family, calls-family}
use Rattle.vm_eval.proofs.natives.resume.Goals as goal

pub returns-in_ok-step-in-ForItems-clause-goes : goal.returns-in_ok-step-in-ForItems-clause-goes
returns-in_ok-step-in-ForItems-clause-goes c =
    let step = c.in_ok-step-in-ForItems in
    family-resumes items-family c.args.kept c.in-ForItems.kept c.args.answer _ _ step.step c.of_items.result c.in-ForItems.is c.of_items.ensures.step step.ensures.goes

pub returns-in_ok-step-in-ForConversions-clause-goes : goal.returns-in_ok-step-in-ForConversions-clause-goes
returns-in_ok-step-in-ForConversions-clause-goes c =
    let step = c.in_ok-step-in-ForConversions in
    family-resumes conversions-family c.args.kept c.in-ForConversions.kept c.args.answer _ _ step.step c.of_conversions.result c.in-ForConversions.is c.of_conversions.ensures.step step.ensures.goes

pub returns-in_ok-step-in-ForComparisons-clause-goes : goal.returns-in_ok-step-in-ForComparisons-clause-goes
returns-in_ok-step-in-ForComparisons-clause-goes c =
    let step = c.in_ok-step-in-ForComparisons in
    family-resumes comparisons-family c.args.kept c.in-ForComparisons.kept c.args.answer _ _ step.step c.of_comparisons.result c.in-ForComparisons.is c.of_comparisons.ensures.step step.ensures.goes

pub returns-in_ok-step-in-ForRepeats-clause-goes : goal.returns-in_ok-step-in-ForRepeats-clause-goes
returns-in_ok-step-in-ForRepeats-clause-goes c =
    let step = c.in_ok-step-in-ForRepeats in
    family-resumes repeats-family c.args.kept c.in-ForRepeats.kept c.args.answer _ _ step.step c.of_repeats.result c.in-ForRepeats.is c.of_repeats.ensures.step step.ensures.goes

pub returns-in_ok-step-in-ForDetails-clause-goes : goal.returns-in_ok-step-in-ForDetails-clause-goes
returns-in_ok-step-in-ForDetails-clause-goes c =
    let step = c.in_ok-step-in-ForDetails in
    family-resumes details-family c.args.kept c.in-ForDetails.kept c.args.answer _ _ step.step c.of_details.result c.in-ForDetails.is c.of_details.ensures.step step.ensures.goes

pub returns-in_ok-step-in-ForCalls-clause-goes : goal.returns-in_ok-step-in-ForCalls-clause-goes
returns-in_ok-step-in-ForCalls-clause-goes c =
    let step = c.in_ok-step-in-ForCalls in
    family-resumes calls-family c.args.kept c.in-ForCalls.kept c.args.answer _ _ step.step c.of_calls.result c.in-ForCalls.is c.of_calls.ensures.step step.ensures.goes

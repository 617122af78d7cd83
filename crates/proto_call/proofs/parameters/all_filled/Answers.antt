use Rattle.proto_call.proofs.Lemmas.{rules, tests, sym, ◌∙◌, YieldsList-from_slice, all_from_yields_List, PyStrInterned, has_value, AllPass-from_list_all, all_filled-read}
use Rattle.proto_call.proofs.parameters.all_filled.Goals as goal

pub returns-clause-filled : goal.returns-clause-filled
returns-clause-filled c = λ t.
    let all = all_from_yields_List (λ (x : PyStrInterned). has_value c.args.vars.now x) _ _ c.all.result c.all.ensures.ran (YieldsList-from_slice c.args.params.now cc) (λ x b q k. search (rules, tests)) in
    all_filled-read t c.args.vars.now c.args.params.now ∙ sym all

pub returns-clause-all : goal.returns-clause-all
returns-clause-all c = λ h.
    let all = all_from_yields_List (λ (x : PyStrInterned). has_value c.args.vars.now x) _ _ c.all.result c.all.ensures.ran (YieldsList-from_slice c.args.params.now cc) (λ x b q k. search (rules, tests)) in
    AllPass-from_list_all (λ (x : PyStrInterned). has_value c.args.vars.now x) c.args.params.now (sym all ∙ h)

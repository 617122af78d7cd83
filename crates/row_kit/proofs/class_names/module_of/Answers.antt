use Rattle.row_kit.proofs.Lemmas.{ap, ◌∙◌, option_map, Reading, Reads, plain, ok-map, builtins, module_of, text_or}
use Rattle.std.proofs.Common.{◌≡◌, string_bytes}
use Rattle.row_kit.proofs.class_names.module_of.Goals as goal

pub returns : goal.returns
returns c =
    let w = c.args.world.now in
    let g = c.given-given.result in
    ok-map (λ o. (t : Reading) → text_or (plain t w) g builtins ≡ option_map string_bytes o) (λ o. (t : Reading) → Reads t w → module_of (plain t w) c.args.class.0 ≡ option_map string_bytes o) c.text_or.result (λ o h t r. ap (λ v. text_or (plain t w) v builtins) (c.given-given.ensures.value t r) ∙ h t) c.text_or.ensures

use Rattle.proto_call.proofs.Lemmas.{codes, false, Some, string_bytes, sym, ap, ◌∙◌, digits, or_empty, name_at, plain, in_length, in_module, module_of, text_from}
use Rattle.std.proofs.Common.{◌≡◌, ◌++◌, option_map}
use Rattle.proto_call.proofs.object_natives.object_text.Goals as goal

pub returns-in_ok-text-in-Some-clause-text : goal.returns-in_ok-text-in-Some-clause-text
returns-in_ok-text-in-Some-clause-text c = λ t r.
    let u = plain t c.args.world.now in
    let k = c.args.class.0 in
    let n = c.args.object.0 in
    let q = string_bytes c.in-Some.qualname in
    let m = option_map string_bytes c.in_ok-module.module in
    let x = c.class_name.result.now in
    let named : string_bytes c.in_ok-name-in-Some.name ≡ in_module m q x = c.in_ok-name-in-Some.ensures ∙ ap (λ b. in_module m b x) c.as_str.ensures.value in
    ap (λ o. text_from o (module_of u k) (name_at u.classes k) n) (c.in_ok-qualname.ensures t r ∙ ap (option_map string_bytes) c.in-Some.is)
    ∙ ap (λ o. text_from (Some q) o (name_at u.classes k) n) (c.in_ok-module.ensures t r)
    ∙ ap (λ o. text_from (Some q) m (or_empty o) n) (c.class_name.ensures t)
    ∙ ap (λ y. in_length (codes "<" ++ y ++ codes " object at 0x" ++ digits 16 false n ++ codes ">")) (sym (c.as_str-in-Some.ensures.value ∙ named))
    ∙ ap in_length (sym c.in_ok-text-in-Some.ensures)

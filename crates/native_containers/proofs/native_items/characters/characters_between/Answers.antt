use Rattle.native_containers.proofs.Lemmas.{◌∙◌, sym, ap, subst, take, drop, Ok, skip_steps, chars, encode_utf8_all, spells, YieldsList, YieldsList-from_chars, YieldsList-from_take, text_from_collect, YieldsList-from_skip}
use Rattle.native_containers.proofs.native_items.characters.characters_between.Goals as goal

pub returns : goal.returns
returns c =
    let a = c.args in
    let all = chars a.text.now in
    let road = YieldsList-from_chars {s = c.chars.result} a.text.now c.utf8.text c.chars.ensures.rest in
    let from = subst (λ s. YieldsList spells (λ c. c) s all) (sym c.skip.ensures.source) road in
    let skipped = YieldsList-from_skip {s = c.skip.result} a.start from c.skip.ensures.count in
    let within = subst (λ s. YieldsList (skip_steps spells) (λ c. c) s (drop a.start all)) (sym c.take.ensures.source) skipped in
    let taken = YieldsList-from_take {s = c.take.result} c.saturating_sub-count.result within c.take.ensures.count in
    text_from_collect {E = Unit {0}} (Ok c.in_ok-collect.field-0) c.in_ok-collect.ensures.ran taken
    ∙ ap (λ n. encode_utf8_all (take n (drop a.start all))) c.saturating_sub-count.ensures

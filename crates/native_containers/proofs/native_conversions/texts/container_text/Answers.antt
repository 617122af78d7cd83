use Rattle.native_containers.proofs.Lemmas.{◌∙◌, refl, sym, ap, length, get_or, string_bytes, arith, common_steps, most_items, ref, plain, in_length, closing, text_at, closed, long, part-more, short, too-long}
use Rattle.std.proofs.Common.{◌≡◌, ◌++◌, ◌<◌}
use Rattle.native_containers.proofs.native_conversions.texts.container_text.Goals as goal

pub returns-then-len-gt-MOST_ITEMS-clause-long : goal.returns-then-len-gt-MOST_ITEMS-clause-long
returns-then-len-gt-MOST_ITEMS-clause-long c = rw c.raise.ensures (λ t.
    let count : c.len.result ≡ length (string_bytes c.loop-i.text) = grind (arith, common_steps) in
    let over : most_items < c.len.result = grind (arith, common_steps) in
    too-long (plain t c.args.world.now) c.args.container c.args.texts.now (string_bytes c.loop-i.text) c.len.result c.loop-i.i count over (c.loop-i.invariant t))

pub loop-i-preserved : goal.loop-i-preserved
loop-i-preserved c = λ t.
    let old = string_bytes c.loop-i.text in
    let made = c.in_ok-push_part.ensures t ∙ ap (λ b. old ++ (b ++ text_at (plain t c.args.world.now) (get_or c.args.texts.now c.loop-i.i (ref 0)))) c.before-in-loop-i.ensures in
    part-more (plain t c.args.world.now) c.args.container c.args.texts.now old (string_bytes c.push_part.new.text) c.loop-i.i (get_or c.args.texts.now c.loop-i.i (ref 0)) (ref 0) c.loop-i-test.true refl made (c.loop-i.invariant t)

pub returns-then-is_within_limit-clause-text : goal.returns-then-is_within_limit-clause-text
returns-then-is_within_limit-clause-text c = λ t.
    let old = string_bytes c.loop-i.text in
    let new = string_bytes c.push_str.new.self in
    let made : new ≡ old ++ closing c.args.container (length c.args.texts.now) = c.in_ok-push_str.ensures.bytes ∙ ap (λ b. old ++ b) c.closing.ensures in
    let count : c.len-2.result ≡ length new = grind (arith, common_steps) in
    ap in_length (closed (plain t c.args.world.now) c.args.container c.args.texts.now old new c.loop-i.i (length c.args.texts.now) c.loop-i-test.false refl made (c.loop-i.invariant t))
    ∙ short new c.len-2.result count (sym c.is_within_limit.ensures ∙ c.if-is_within_limit.true)

pub returns-else-is_within_limit-clause-long : goal.returns-else-is_within_limit-clause-long
returns-else-is_within_limit-clause-long c = rw c.raise-else-is_within_limit.ensures (λ t.
    let old = string_bytes c.loop-i.text in
    let new = string_bytes c.push_str.new.self in
    let made : new ≡ old ++ closing c.args.container (length c.args.texts.now) = c.in_ok-push_str.ensures.bytes ∙ ap (λ b. old ++ b) c.closing.ensures in
    let count : c.len-2.result ≡ length new = grind (arith, common_steps) in
    ap in_length (closed (plain t c.args.world.now) c.args.container c.args.texts.now old new c.loop-i.i (length c.args.texts.now) c.loop-i-test.false refl made (c.loop-i.invariant t))
    ∙ long new c.len-2.result count (sym c.is_within_limit.ensures ∙ c.if-is_within_limit.false))

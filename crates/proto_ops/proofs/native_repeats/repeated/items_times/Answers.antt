use Rattle.proto_ops.proofs.Lemmas.{◌∙◌, length, sym, ap, arith, true-eqb, repeat, repeat-none, repeat-more, repeat-hold}
use Rattle.std.proofs.Common.{◌≡◌, ◌++◌}
use Rattle.proto_ops.proofs.native_repeats.repeated.items_times.Goals as goal

pub returns-then-is_empty : goal.returns-then-is_empty
returns-then-is_empty c =
    let xs = c.args.items.now in
    let none : length xs ≡ 0 = true-eqb (length xs) 0 c.if-is_empty.ensures in
    let items = c.new-all.ensures.items ∙ sym (repeat-none c.args.times xs none) in
    record { items = items; holds = λ w h. repeat-hold w c.args.times xs c.new-all.result.items items h }

pub loop-preserved : goal.loop-preserved
loop-preserved c =
    let xs = c.args.items.now in
    record {
      below = omega arith;
      items = c.in_ok-extend_from_slice.ensures.items ∙ ap (λ ys. ys ++ xs) c.loop.invariant.items ∙ repeat-more c.loop.counter xs;
    }

pub returns : goal.returns
returns c =
    let over : c.loop.counter ≡ c.args.times = omega arith in
    let xs = c.args.items.now in
    let items = c.loop.invariant.items ∙ ap (λ n. repeat n xs) over in
    record { items = items; holds = λ w h. repeat-hold w c.args.times xs c.loop.all.items items h }

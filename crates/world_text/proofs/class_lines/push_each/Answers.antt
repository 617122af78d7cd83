use Rattle.world_text.proofs.Lemmas.{ap, ◌∙◌, List, ℕ, arith, flat_map, numbers_of, table_keys, written_more, heap_text, text-next, all-taken}
use Rattle.std.proofs.Common.{◌++◌}
use Rattle.world_text.proofs.class_lines.push_each.Goals as goal

pub loop-place-preserved : goal.loop-place-preserved
loop-place-preserved c =
    written_more _ _ _ _ _ _ c.in_ok-push_if_heap.ensures c.loop-place.invariant (text-next table_keys c.args.classes.now (numbers_of c.args.classes.now) c.loop-place.place _ c.number_at.ensures.number)

pub returns : goal.returns
returns c = c.loop-place.invariant ∙ ap (λ (ns : List ℕ). c.args.out.now.items ++ flat_map (heap_text table_keys c.args.classes.now) ns) (all-taken c.args.classes.now c.loop-place.place (omega arith))

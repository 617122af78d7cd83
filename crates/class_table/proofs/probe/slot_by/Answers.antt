use Rattle.class_table.proofs.Lemmas.{List, sym, ap, ◌∙◌, arith, Known, slot_by, value_at, slot-by_found, slot-by_next, slot-by_end}
use Rattle.class_table.proofs.probe.slot_by.Goals as goal

pub loop-name-init : goal.loop-name-init
loop-name-init c =
    let named = c.special_names-name-items.ensures in
    record { names = named; left = ap (λ (ks : List Known). slot_by c.args.values.now c.args.slot ks) named }

pub returns-in-Some : goal.returns-in-Some
returns-in-Some c = c.wrapper.ensures ∙ sym (slot-by_found c.args.values.now c.args.slot c.special_names-name-items.result.now c.loop-name.name-index _ (omega arith) c.in-Some.value (c.in-Some.ensures ∙ ap (λ n. value_at c.args.values.now n) c.number.ensures.value)) ∙ c.loop-name.invariant.left

pub loop-name-preserved : goal.loop-name-preserved
loop-name-preserved c = record {
  names = c.loop-name.invariant.names;
  left = slot-by_next c.args.values.now c.args.slot c.special_names-name-items.result.now c.loop-name.name-index _ (omega arith) (c.in-None.ensures ∙ ap (λ n. value_at c.args.values.now n) c.number.ensures.value) ∙ c.loop-name.invariant.left;
}

pub returns : goal.returns
returns c = sym (slot-by_end c.args.values.now c.args.slot c.special_names-name-items.result.now c.loop-name.name-index (omega arith)) ∙ c.loop-name.invariant.left

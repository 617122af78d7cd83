use Rattle.class_table.proofs.Lemmas.{List, map, refl, sym, ap, ◌∙◌, arith, Known, is_one_of, wrapped, table_keys, PyStrInterned, value_of, is_same_name, wrapped-found, wrapped-next, wrapped-end}
use Rattle.class_table.proofs.entries.own_wrapper.Goals as goal

pub loop-name-init : goal.loop-name-init
loop-name-init c =
    let named = c.special_names-name-items.ensures in
    record {
      names = named;
      left = ap (λ (ks : List Known). wrapped c.args.slot (value_of (is_one_of is_same_name (map table_keys.special ks)) c.args.attrs.now)) named;
    }

pub returns-in-Some : goal.returns-in-Some
returns-in-Some c = c.wrapper.ensures ∙ sym (wrapped-found c.args.slot c.special_names-name-items.result.now c.loop-name.name-index _ _ c.args.attrs.now c.in-Some.value c.loop-name.invariant.names (omega arith) refl (ap (λ (n : PyStrInterned). value_of (λ j. is_same_name j n) c.args.attrs.now) (sym c.interned.ensures) ∙ sym c.in-Some.ensures)) ∙ c.loop-name.invariant.left

pub loop-name-preserved : goal.loop-name-preserved
loop-name-preserved c = record {
  names = c.loop-name.invariant.names;
  left = wrapped-next c.args.slot c.special_names-name-items.result.now c.loop-name.name-index _ _ c.args.attrs.now (omega arith) refl (ap (λ (n : PyStrInterned). value_of (λ j. is_same_name j n) c.args.attrs.now) (sym c.interned.ensures) ∙ sym c.get.ensures ∙ c.in_default.is) ∙ c.loop-name.invariant.left;
}

pub returns : goal.returns
returns c = sym (wrapped-end c.args.slot c.special_names-name-items.result.now c.loop-name.name-index c.args.attrs.now (omega arith)) ∙ c.loop-name.invariant.left

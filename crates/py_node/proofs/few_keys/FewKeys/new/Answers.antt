use Rattle.py_node.proofs.Lemmas.{List, sym, subst, PyDictKey, is_same_key}
use Rattle.std.specs.List.{IsDistinct}
use Rattle.py_node.proofs.few_keys.FewKeys.new.Goals as goal

pub invariant_of-result : goal.invariant_of-result
unfolding IsDistinct
invariant_of-result c = subst (λ (l : List PyDictKey). IsDistinct is_same_key l) (sym c.new.ensures.items) tt

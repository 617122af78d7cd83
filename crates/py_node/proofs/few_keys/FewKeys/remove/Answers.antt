use Rattle.py_node.proofs.Lemmas.{List, sym, subst, PyDictKey, is_same_key, IsDistinct, distinct-removed}
use Rattle.py_node.proofs.few_keys.FewKeys.remove.Goals as goal

pub invariant_of-self : goal.invariant_of-self
invariant_of-self c =
    subst (λ (l : List PyDictKey). IsDistinct is_same_key l) (sym c.remove.ensures.items) (distinct-removed is_same_key c.self.inside.keys.items c.args.place c.self.invariant)

use Rattle.py_node.proofs.Lemmas.{List, sym, subst, None, position, PyDictKey, is_same_key, IsDistinct, distinct-pushed, turned}
use Rattle.std.proofs.Common.{◌≡◌}
use Rattle.py_node.proofs.few_keys.FewKeys.push.Goals as goal

pub invariant_of-self-2 : goal.invariant_of-self-2
invariant_of-self-2 c =
    let ks = c.self.inside.keys.items in
    let lacks : position (is_same_key c.args.key) ks ≡ None =
    subst (λ (l : List PyDictKey). position (is_same_key c.args.key) l ≡ None) (sym c.self.view_is) c.requires in
    subst (λ (l : List PyDictKey). IsDistinct is_same_key l) (sym c.in_ok-put_last.ensures.ok) (distinct-pushed is_same_key turned ks c.args.key lacks c.self.invariant)

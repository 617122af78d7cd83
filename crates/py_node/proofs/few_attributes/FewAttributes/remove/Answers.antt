use Rattle.py_node.proofs.Lemmas.{List, sym, subst, PyObjectRef, PyStrInterned, AreNamesDistinct, distinct-without}
use Rattle.py_node.proofs.few_attributes.FewAttributes.remove.Goals as goal

pub invariant_of-self : goal.invariant_of-self
invariant_of-self c =
    subst (λ (l : List (PyStrInterned × PyObjectRef)). AreNamesDistinct l) (sym c.cut_among.ensures) (distinct-without c.self.inside.entries.items c.args.name c.self.invariant)

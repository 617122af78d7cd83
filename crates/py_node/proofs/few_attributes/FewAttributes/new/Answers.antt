use Rattle.py_node.proofs.Lemmas.{List, sym, subst, PyObjectRef, PyStrInterned, AreNamesDistinct}
use Rattle.std.specs.List.{IsDistinct}
use Rattle.py_node.proofs.few_attributes.FewAttributes.new.Goals as goal

pub invariant_of-result : goal.invariant_of-result
unfolding IsDistinct
invariant_of-result c = subst (λ (l : List (PyStrInterned × PyObjectRef)). AreNamesDistinct l) (sym c.new.ensures.items) tt

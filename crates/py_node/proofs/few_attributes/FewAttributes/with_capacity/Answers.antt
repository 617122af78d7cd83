use Rattle.py_node.proofs.Lemmas.{List, sym, subst, PyObjectRef, PyStrInterned, AreNamesDistinct}
use Rattle.std.specs.List.{IsDistinct}
use Rattle.py_node.proofs.few_attributes.FewAttributes.with_capacity.Goals as goal

pub invariant_of-result : goal.invariant_of-result
unfolding IsDistinct
invariant_of-result c = subst (λ (l : List (PyStrInterned × PyObjectRef)). AreNamesDistinct l) (sym c.in_ok-entries.ensures.items) tt

-- Steps at an answer that is known.
use Rattle.proto_object.proofs.Below.{Option, Some, None, Result, Ok, sym, subst, Raised as Fault, Answer, Value, Exhausted, PyObjectRef, Step, End, of_ended, AllHold, World, IterKept, IsItem, Resumes}
use Rattle.std.proofs.Common.{◌≡◌}

pub answered : (k : IterKept) (r q : Result Answer Fault) (w : World) (step : Step IterKept) → r ≡ q → Resumes k q w w step → Resumes k r w w step
answered k r q w step e h = subst (λ a. Resumes k a w w step) (sym e) h

pub ends-same : (k : IterKept) (r s : Result Answer Fault) (w : World) → s ≡ r → Resumes k r w w (End r) → Resumes k r w w (End s)
ends-same k r s w e h = subst (λ a. Resumes k r w w (End a)) (sym e) h

pub answer-holds : (w : World) (r q : Result Answer Fault) → r ≡ q → AllHold w (of_ended r) → AllHold w (of_ended q)
answer-holds w r q e h = subst (λ a. AllHold w (of_ended a)) e h

pub steps-so : (k : IterKept) (r : Result Answer Fault) (w : World) (step said : Step IterKept) → step ≡ said → Resumes k r w w said → Resumes k r w w step
steps-so k r w step said e h = subst (λ s. Resumes k r w w s) (sym e) h

-- which answer it is
pub item-is : (o : Option PyObjectRef) (v : PyObjectRef) (r : Result Answer Fault) → o ≡ Some v → IsItem o r → r ≡ Ok (Value v)
item-is o v r e h = subst (λ p. IsItem p r) e h

pub none-is : (o : Option PyObjectRef) (r : Result Answer Fault) → o ≡ None → IsItem o r → r ≡ Ok Exhausted
none-is o r e h = subst (λ p. IsItem p r) e h

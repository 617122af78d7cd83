use Rattle.proto_attr.proofs.Lemmas.{sym, subst, MethodDescriptor, AllHold, Holds, IsName, of_name_ref, of_option}
use Rattle.proto_attr.proofs.native_objects.details.method_descriptor_part.Goals as goal

pub returns-in-Doc-clause-holds : goal.returns-in-Doc-clause-holds
returns-in-Doc-clause-holds c =
    rw c.in-MethodDescriptor.is (λ w h. c.doc_part.ensures.holds w (subst (λ (m : MethodDescriptor). AllHold w (of_option of_name_ref m.doc)) (sym c.get-m.ensures) h.1.1))

pub returns-in-TextSignature-clause-holds : goal.returns-in-TextSignature-clause-holds
returns-in-TextSignature-clause-holds c =
    rw c.in-MethodDescriptor.is (λ w h. c.signature_part.ensures.holds w (subst (λ (m : MethodDescriptor). Holds w (IsName m.name)) (sym c.get-m.ensures) h.1.0) (subst (λ (m : MethodDescriptor). AllHold w (of_option of_name_ref m.doc)) (sym c.get-m.ensures) h.1.1))

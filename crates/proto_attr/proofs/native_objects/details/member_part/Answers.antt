use Rattle.proto_attr.proofs.Lemmas.{sym, subst, MemberDescriptor, AllHold, of_name_ref, of_option, all-first, all-rest}
use Rattle.proto_attr.proofs.native_objects.details.member_part.Goals as goal

pub returns-in-Doc-clause-holds : goal.returns-in-Doc-clause-holds
returns-in-Doc-clause-holds c =
    let m = c.in-Member.m.value in
    rw c.in-Member.is (λ w h. c.doc_part.ensures.holds w (subst (λ (v : MemberDescriptor). AllHold w (of_option of_name_ref v.doc)) (sym c.deref.ensures) (all-rest w (of_option of_name_ref m.qualname) (of_option of_name_ref m.doc) h.1.1.1.1)))

pub returns-in-Qualname-clause-holds : goal.returns-in-Qualname-clause-holds
returns-in-Qualname-clause-holds c =
    let m = c.in-Member.m.value in
    rw c.in-Member.is (λ w h. c.kept_part.ensures.holds w (subst (λ (v : MemberDescriptor). AllHold w (of_option of_name_ref v.qualname)) (sym c.deref-in-Qualname.ensures) (all-first w (of_option of_name_ref m.qualname) (of_option of_name_ref m.doc) h.1.1.1.1)))

use Rattle.class_table.proofs.Lemmas.{List, sym, subst, PyTypeRef, numbers, told, refused_rebase, WithMemory, ClassChange, change_of, refused}
use Rattle.std.proofs.Common.{◌≡◌}
use Rattle.class_table.proofs.class_log.apply.apply.Goals as goal

pub returns-in-SetBases-clause-refused : goal.returns-in-SetBases-clause-refused
returns-in-SetBases-clause-refused c =
    let r = c.rebase.result in
    let t = c.args.classes.now in
    subst (λ (k : ClassChange). WithMemory r (told r ≡ refused t (change_of k))) (sym c.in-SetBases.is) (
    subst (λ (bs : List PyTypeRef). WithMemory r (told r ≡ refused_rebase t c.in-SetBases.class.0 (numbers bs))) c.deref-in-SetBases.ensures.value c.rebase.ensures.refused)

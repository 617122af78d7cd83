use Rattle.vm_eval.proofs.Lemmas.{Ask, End, ForIteration, ends-there, iter-among, leaves-as, of_iter_kept, refl, resumes-among, waits-on}
use Rattle.vm_eval.proofs.next_steps.resume_iteration.Goals as goal

pub returns-in-Ok-Ask-clause-goes : goal.returns-in-Ok-Ask-clause-goes
returns-in-Ok-Ask-clause-goes c =
    waits-on _ _ _ c.in-Ok-Ask.asked (ForIteration c.in-Ok-Ask.kept) c.wait.result (resumes-among iter-among c.args.kept c.args.answer _ _ (Ask c.in-Ok-Ask.asked c.in-Ok-Ask.kept) (rw (c.in-Ok-Ask.is, c.in-Ok-Ask.field-0-is) at c.resume.ensures.goes), leaves-as ForIteration of_iter_kept (λ k. refl) 0 _ _ (Ask c.in-Ok-Ask.asked c.in-Ok-Ask.kept) refl (λ k. refl) (rw (c.in-Ok-Ask.is, c.in-Ok-Ask.field-0-is) at c.resume.ensures.safe)) c.wait.ensures.waits

pub returns-in-Ok-End-clause-goes : goal.returns-in-Ok-End-clause-goes
returns-in-Ok-End-clause-goes c =
    ends-there _ _ c.in-Ok-End.answer (resumes-among iter-among c.args.kept c.args.answer _ _ (End c.in-Ok-End.answer) (rw (c.in-Ok-End.is, c.in-Ok-End.field-0-is) at c.resume.ensures.goes), leaves-as ForIteration of_iter_kept (λ k. refl) 0 _ _ (End c.in-Ok-End.answer) refl (λ k. refl) (rw (c.in-Ok-End.is, c.in-Ok-End.field-0-is) at c.resume.ensures.safe))

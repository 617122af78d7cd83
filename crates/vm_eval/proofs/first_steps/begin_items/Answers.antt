use Rattle.vm_eval.proofs.Lemmas.{Ask, End, ForItems, begins-among, ends-there, items-among, leaves-as, of_items_kept, refl, waits-on}
use Rattle.vm_eval.proofs.first_steps.begin_items.Goals as goal

pub returns-in-Ok-Ask-clause-goes : goal.returns-in-Ok-Ask-clause-goes
returns-in-Ok-Ask-clause-goes c =
    waits-on _ _ _ c.in-Ok-Ask.asked (ForItems c.in-Ok-Ask.kept) c.wait.result (begins-among items-among c.args.task _ _ (Ask c.in-Ok-Ask.asked c.in-Ok-Ask.kept) c.requires.branch (rw (c.in-Ok-Ask.is, c.in-Ok-Ask.field-0-is) at c.begin.ensures.goes), leaves-as ForItems of_items_kept (λ k. refl) 0 _ _ (Ask c.in-Ok-Ask.asked c.in-Ok-Ask.kept) refl (λ k. refl) (rw (c.in-Ok-Ask.is, c.in-Ok-Ask.field-0-is) at c.begin.ensures.safe)) c.wait.ensures.waits

pub returns-in-Ok-End-clause-goes : goal.returns-in-Ok-End-clause-goes
returns-in-Ok-End-clause-goes c =
    ends-there _ _ c.in-Ok-End.answer (begins-among items-among c.args.task _ _ (End c.in-Ok-End.answer) c.requires.branch (rw (c.in-Ok-End.is, c.in-Ok-End.field-0-is) at c.begin.ensures.goes), leaves-as ForItems of_items_kept (λ k. refl) 0 _ _ (End c.in-Ok-End.answer) refl (λ k. refl) (rw (c.in-Ok-End.is, c.in-Ok-End.field-0-is) at c.begin.ensures.safe))

use Rattle.shared_vm.proofs.Lemmas.{ℕ, Some, None, Ok, Err, sym, ap, ◌∙◌, subst, tree_of, ExecFault, Pages, Stepped, adds_none, stands_kept, stands_lost, executed_ok, executed_lost, executed_failed}
use Rattle.shared_vm.proofs.viewed_vm.shared.ViewedVm.execute.Goals as goal

pub keep-requires-clause-book : goal.keep-requires-clause-book
keep-requires-clause-book g c =
    let mid = c.take-book.new.seat in
    let step = c.in-Ok.ensures.step in
    stands_kept mid.seen mid.number c.take-book.result.book c.step.new.self.book (Some step.2.0) c.take-book.ensures.value step.2.1 (step.1 ∙ sym step.0)

pub lose-requires-clause-book : goal.lose-requires-clause-book
lose-requires-clause-book g c =
    let mid = c.take-book.new.seat in
    let step = subst (λ (f : ExecFault). Stepped c.take-book.result.book c.step.new.self.book c.number.result (tree_of c.args.command.expr) c.args.budget (Err f)) c.in-Err-OutOfMemory.field-0-is c.in-Err-OutOfMemory.ensures.step in
    stands_lost mid.seen mid.number c.take-book.result.book c.step.new.self.book step.2.0 c.take-book.ensures.value step.2.1 step.1

pub keep-requires-in-Err-Failed-clause-book : goal.keep-requires-in-Err-Failed-clause-book
keep-requires-in-Err-Failed-clause-book g c =
    let mid = c.take-book.new.seat in
    let step = subst (λ (f : ExecFault). Stepped c.take-book.result.book c.step.new.self.book c.number.result (tree_of c.args.command.expr) c.args.budget (Err f)) c.in-Err-Failed.field-0-is c.in-Err-Failed.ensures.step in
    stands_kept mid.seen mid.number c.take-book.result.book c.step.new.self.book None c.take-book.ensures.value (adds_none c.take-book.result.book c.step.new.self.book step.1) (ap (λ (b : Pages). b.machine.failed) step.1)

pub returns-in-Ok : goal.returns-in-Ok
returns-in-Ok g c =
    let step = subst (λ (n : ℕ). Stepped c.take-book.result.book c.step.new.self.book n (tree_of c.args.command.expr) c.args.budget (Ok c.in-Ok.receipt)) c.number.ensures c.in-Ok.ensures.step in
    executed_ok c.args.seat.now c.take-book.new.seat c.keep.new.seat c.take-book.result.book c.step.new.self.book (tree_of c.args.command.expr) c.args.budget c.take-book.ensures.same c.take-book.ensures.seen c.take-book.ensures.value
    c.in-Ok.ensures.keeps.legal c.keep.ensures.own c.in-Ok.receipt step c.keep.ensures.made

pub returns-in-Err-OutOfMemory : goal.returns-in-Err-OutOfMemory
returns-in-Err-OutOfMemory g c =
    let step = subst (λ (p : ℕ × ExecFault). Stepped c.take-book.result.book c.step.new.self.book p.0 (tree_of c.args.command.expr) c.args.budget (Err p.1)) (λ i. (c.number.ensures i, c.in-Err-OutOfMemory.field-0-is i)) c.in-Err-OutOfMemory.ensures.step in
    executed_lost c.args.seat.now c.take-book.new.seat c.lose.new.seat c.take-book.result.book c.step.new.self.book (tree_of c.args.command.expr) c.args.budget c.take-book.ensures.same c.take-book.ensures.seen c.take-book.ensures.value
    c.in-Err-OutOfMemory.ensures.keeps.legal c.lose.ensures.own step c.lose.ensures.made

pub returns-in-Err-Failed : goal.returns-in-Err-Failed
returns-in-Err-Failed g c =
    let step = subst (λ (p : ℕ × ExecFault). Stepped c.take-book.result.book c.step.new.self.book p.0 (tree_of c.args.command.expr) c.args.budget (Err p.1)) (λ i. (c.number.ensures i, c.in-Err-Failed.field-0-is i)) c.in-Err-Failed.ensures.step in
    executed_failed c.args.seat.now c.take-book.new.seat c.keep-in-Err-Failed.new.seat c.take-book.result.book c.step.new.self.book (tree_of c.args.command.expr) c.args.budget c.take-book.ensures.same c.take-book.ensures.seen c.take-book.ensures.value
    c.in-Err-Failed.ensures.keeps.legal c.keep-in-Err-Failed.ensures.own c.in-Err-Failed.after step c.keep-in-Err-Failed.ensures.made

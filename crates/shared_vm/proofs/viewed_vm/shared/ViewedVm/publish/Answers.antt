use Rattle.shared_vm.proofs.Lemmas.{published, stands-more}
use Rattle.shared_vm.proofs.viewed_vm.shared.ViewedVm.publish.Goals as goal

pub keep-requires-clause-book : goal.keep-requires-clause-book
keep-requires-clause-book g c =
    let mid = c.take-book.new.seat in
    stands-more mid.seen mid.number c.take-book.result c.publish-sent.new.self c.publish-sent.result c.publish-sent.ensures.published c.take-book.ensures.value

pub returns : goal.returns
returns g c =
    published c.args.seat.now c.take-book.new.seat c.keep.new.seat c.take-book.result c.publish-sent.new.self c.publish-sent.result c.take-book.ensures.same c.take-book.ensures.seen c.take-book.ensures.value
    c.publish-sent.ensures.keeps c.publish-sent.ensures.published c.keep.ensures.own c.keep.ensures.made

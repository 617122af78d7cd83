use Rattle.shared_vm.proofs.Lemmas.{None, refl, adds_none, named, stands_kept}
use Rattle.shared_vm.proofs.shared.SharedVm.interned.Goals as goal

pub keep-requires-clause-book : goal.keep-requires-clause-book
keep-requires-clause-book g c =
    let mid = c.take-book.new.seat in
    let book = c.take-book.result in
    stands_kept mid.seen mid.number book book None c.take-book.ensures.value (adds_none book book refl) refl

pub returns : goal.returns
returns g c =
    named c.args.seat.now c.take-book.new.seat c.keep.new.seat c.take-book.result c.args.text.now c.interned-name.result c.take-book.ensures.same c.take-book.ensures.seen c.take-book.ensures.value
    c.interned-name.ensures.keeps c.interned-name.ensures.name c.keep.ensures.own c.keep.ensures.made

use Rattle.seat_example.proofs.Lemmas.{one_more}
use Rattle.seat_example.proofs.sign.sign.Goals as goal

pub leave-requires-clause-sheet : goal.leave-requires-clause-sheet
leave-requires-clause-sheet g c =
    let seat = c.take-sheet.new.seat in
    one_more seat.seen seat.number c.number.result c.take-sheet.result.names.items c.sign.new.self.names.items c.take-sheet.ensures.value c.sign.ensures

use Rattle.class_view.proofs.Lemmas.{drop, added_last, grows, change_of}
use Rattle.class_view.proofs.press.Press.append.Goals as goal

pub invariant_of-self : goal.invariant_of-self
invariant_of-self c =
    let w = c.self.inside in
    let b = added_last w.replica c.append.new.self (change_of c.args.change.now) c.append.result c.append.ensures.added c.append.ensures.err in
    let k = grows w.publisher.desk.shown.value (drop w.publisher.behind w.publisher.log.items) w.fed w.replica c.append.new.self b c.self.invariant.1 c.self.invariant.2 in
    (c.self.invariant.0, k.0, k.1)

use Rattle.class_view.proofs.Lemmas.{drop, grows}
use Rattle.class_view.proofs.press.Press.follow.Goals as goal

pub invariant_of-self : goal.invariant_of-self
invariant_of-self c =
    let w = c.self.inside in
    let k = grows w.publisher.desk.shown.value (drop w.publisher.behind w.publisher.log.items) w.fed w.replica c.follow.new.self c.follow.ensures.kept c.self.invariant.1 c.self.invariant.2 in
    (c.self.invariant.0, k.0, k.1)

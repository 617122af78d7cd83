use Rattle.class_view.proofs.Lemmas.{view, admits, forks, merges}
use Rattle.class_view.proofs.press.Press.tell.Goals as goal

pub reader-requires : goal.reader-requires
reader-requires c = admits

pub tell-requires : goal.tell-requires
tell-requires c = let p = c.self.inside.publisher.desk.place in forks p.id (view p)

pub learn-requires-clause-rule : goal.learn-requires-clause-rule
learn-requires-clause-rule c = let p = c.in_ok-reader.reader.place in let n = c.tell.result in merges p.id (view p) n.id (view n)

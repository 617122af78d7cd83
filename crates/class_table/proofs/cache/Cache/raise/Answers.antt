use Rattle.class_table.proofs.Lemmas.{refl, raised_cached}
use Rattle.class_table.proofs.cache.Cache.raise.Goals as goal

pub returns : goal.returns
returns c = λ s t h. raised_cached s t c.args.self.now _ h refl refl

pub returns-then-self : goal.returns-then-self
returns-then-self c = λ s t h. c.begin_again.ensures t

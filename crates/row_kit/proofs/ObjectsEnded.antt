-- How a native ends that reads something first.
use Rattle.py_node.specs.Stops.{Ended}
use Rattle.py_node.specs.declared.stop.Stop.{Stop}
use Rattle.row_kit.proofs.Below.{◌∙◌, Result, Raised as Fault, Answer, PlainWorld, Said, World, Reading, Reads, plain, EndsAs}
use Rattle.row_kit.proofs.Ended.{ended-map}
use Rattle.std.proofs.Common.{◌≡◌}

-- what is said is said by what was read
pub ends-read : (said other : Reading → PlainWorld → Said) (old new : World) (r : Result Answer Fault) → ((t : Reading) → Reads t old → said t (plain t old) ≡ other t (plain t old)) → EndsAs other old new r → EndsAs said old new r
ends-read said other old new r same h = λ t q. let k = h t q in (k.0, same t k.0 ∙ k.1)

pub ends-after : (said other : Reading → PlainWorld → Said) (old new : World) (r : Result Answer Stop) → ((t : Reading) → Reads t old → said t (plain t old) ≡ other t (plain t old)) → Ended r (EndsAs other old new) → Ended r (EndsAs said old new)
ends-after said other old new r same h = ended-map (EndsAs other old new) (EndsAs said old new) r (λ a k. ends-read said other old new a same k) h

-- a native that first makes something, and then ends as is said of the world after that
ends-on : (said other : Reading → PlainWorld → Said) (old mid new : World) (r : Result Answer Fault) → ((t : Reading) → Reads t mid → Reads t old × (said t (plain t old) ≡ other t (plain t mid))) → EndsAs other mid new r → EndsAs said old new r
ends-on said other old mid new r same h = λ t q. let k = h t q in let s = same t k.0 in (s.0, s.1 ∙ k.1)

pub ends-then : (said other : Reading → PlainWorld → Said) (old mid new : World) (r : Result Answer Stop) → ((t : Reading) → Reads t mid → Reads t old × (said t (plain t old) ≡ other t (plain t mid))) → Ended r (EndsAs other mid new) → Ended r (EndsAs said old new)
ends-then said other old mid new r same h = ended-map (EndsAs other mid new) (EndsAs said old new) r (λ a k. ends-on said other old mid new a same k) h

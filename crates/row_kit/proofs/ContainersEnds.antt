-- How natives end, by what was called before.
use Rattle.py_node.specs.Stops.{Ended}
use Rattle.py_node.specs.declared.stop.Stop.{Stop}
use Rattle.row_kit.proofs.Below.{◌∙◌, Result, Raised as Fault, Answer, PlainWorld, Said, World, Reading, Reads, plain, EndsAs}
use Rattle.row_kit.proofs.Ended.{ended-map}
use Rattle.std.proofs.Common.{◌≡◌}

abbrev pub Saying : Type 0
Saying = Reading → PlainWorld → Said

-- what is said is the same as something else
pub same-ends : (said other : Saying) (w new : World) (r : Result Answer Fault) → ((t : Reading) → said t (plain t w) ≡ other t (plain t w)) → EndsAs other w new r → EndsAs said w new r
same-ends said other w new r same h = λ t q. let k = h t q in (k.0, same t ∙ k.1)

pub same-if : (said other : Saying) (w new : World) (res : Result Answer Stop) → ((t : Reading) → said t (plain t w) ≡ other t (plain t w)) → Ended res (EndsAs other w new) → Ended res (EndsAs said w new)
same-if said other w new res same h = ended-map (EndsAs other w new) (EndsAs said w new) res (λ r k. same-ends said other w new r same k) h

-- the world was changed before, and what is said goes on with something else there
pub then-ends : (said other : Saying) (w mid new : World) (r : Result Answer Fault) → ((t : Reading) → said t (plain t w) ≡ other t (plain t mid)) → ((t : Reading) → Reads t mid → Reads t w) → EndsAs other mid new r → EndsAs said w new r
then-ends said other w mid new r says reads h = λ t q. let k = h t q in (reads t k.0, says t ∙ k.1)

pub then-if : (said other : Saying) (w mid new : World) (res : Result Answer Stop) → ((t : Reading) → said t (plain t w) ≡ other t (plain t mid)) → ((t : Reading) → Reads t mid → Reads t w) → Ended res (EndsAs other mid new) → Ended res (EndsAs said w new)
then-if said other w mid new res says reads h = ended-map (EndsAs other mid new) (EndsAs said w new) res (λ r k. then-ends said other w mid new r says reads k) h

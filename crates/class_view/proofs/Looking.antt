-- What a look through a reader comes to.
use Rattle.class_view.proofs.Below.{List, sym, subst, Option, Some, Result, Ok, Err, IfOk, view, Reader, Change, View, BeginsWith, Follows, knows_of}
use Rattle.std.proofs.Common.{◌≡◌}
use Rattle.class_view.proofs.Keeping.{begins_self, begins_more}

follows : {P A : Type 0} (home : Option (Reader (List Change) View P A)) (r : Reader (List Change) View P A) (list : List Change) → home ≡ Some r → BeginsWith (view r.place).seen list → Follows (knows_of home) list
follows home r list is later = subst (λ o. Follows (knows_of o) list) (sym is) (λ part known. begins_more part (view r.place).seen list known later)

-- the list that was lent follows all that was known, and begins what is known afterwards
pub looked : {P A R F : Type 0} (Gives : List Change → R → Type 0) (home : Option (Reader (List Change) View P A)) (r : Reader (List Change) View P A) (list : List Change) (o : Result R F) → home ≡ Some r → BeginsWith (view r.place).seen list
    → IfOk o (λ x. Gives list x) → IfOk o (λ x. (whole : List Change) × Gives whole x × Follows (knows_of home) whole × BeginsWith whole list)
looked Gives home r list (Ok x) is later gives = (list, gives, follows home r list is later, begins_self list)
looked Gives home r list (Err e) is later gives = tt

-- What a reader knows of the published list.
use Rattle.class_view.specs.Below.{List, Option, Some, None, view, Reader, Change, BeginsWith}
use Rattle.class_view.specs.declared.rule.View.{View}

-- a reader knows what begins the list that it saw last. With none, nothing is lent
abbrev pub knows_of : {P A : Type 0} → Option (Reader (List Change) View P A) → List Change → Type 0
knows_of (Some r) part = BeginsWith part (view r.place).seen
knows_of None part = Unit {0}

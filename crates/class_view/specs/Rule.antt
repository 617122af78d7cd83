-- What the rule over the published list says, and what a step tells.
use Rattle.class_view.specs.Below.{ℕ, List, [], Change, BeginsWith}
use Rattle.std.specs.Prelude.{◌≡◌}
use mathlib.Core.Option.{some}
use lib.ListN.{get_elem?}
use Rattle.class_view.specs.declared.rule.View.{View}

-- the published list begins with what each has seen
abbrev pub Keeps : List Change → List View → Type 0
Keeps whole views = (seat : ℕ) (v : View) → get_elem? views seat ≡ some v → BeginsWith v.seen whole

-- what is seen afterwards is the list that is then published, which begins with what was seen
abbrev pub Shows : View → List Change → List Change → View → Type 0
Shows v x y w = BeginsWith v.seen y × (w.seen ≡ y)

abbrev pub newcomer : View
newcomer = record { seen = [] }

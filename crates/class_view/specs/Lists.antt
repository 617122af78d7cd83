-- Lists that begin with others.
use Rattle.class_view.specs.Below.{List, Change, BeginsWith}

-- the list begins with all that was known
abbrev pub Follows : (List Change → Type 0) → List Change → Type 0
Follows knows list = (part : List Change) → knows part → BeginsWith part list

-- what was known is still known
abbrev pub IsKept : (List Change → Type 0) → (List Change → Type 0) → Type 0
IsKept old new = (part : List Change) → old part → new part

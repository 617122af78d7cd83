-- A writer as contracts see it.
use Rattle.class_view.specs.Below.{List, [], Option, Some, None, Change}

-- all its changes, of which a beginning is published and the rest is pending
pub record Posted : Type 0 where
  pub published : List Change
  pub changes : List Change

abbrev pub posted : List Change → List Change → Posted
posted published changes = record { published = published; changes = changes }

-- the same of a writer's press
abbrev pub posted_by : Option Posted → Posted
posted_by None = posted [] []
posted_by (Some p) = p

-- What a world is after a text got a name.
use Rattle.class_world.specs.Below.{[], Stands, Text}
use Rattle.std.specs.Prelude.{◌≡◌, ◌∷◌, ◌++◌}
use Rattle.class_world.specs.Held.{Held}

-- a text that has a name keeps it, and nothing changes; any other is added last, and nothing else changes
unfoldable pub AddsName : Held → Held → Text → Type 0
AddsName old new x = (Stands old.names x → new ≡ old) × ((Stands old.names x → ⊥) → new ≡ record old { names = old.names ++ x ∷ [] })

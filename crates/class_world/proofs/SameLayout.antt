-- Classes with one layout: their objects hold the like.
use Rattle.class_world.proofs.Below.{ℕ, Option, ap, slice_get, option_map, option_and_then, all_built_ins, Classes, layout, holds_as, held_by, nearest-by_layout}
use Rattle.std.proofs.Common.{◌≡◌}

pub held_by-layout : {K : Type 0} (t u : Classes K) (c d : ℕ) → layout t c ≡ layout u d → held_by t c ≡ held_by u d
held_by-layout t u c d same =
    ap (λ (o : Option ℕ). option_map holds_as (option_and_then (slice_get all_built_ins) o)) (nearest-by_layout t u c d same)

-- The class form by the numbers of names.
use Rattle.proto_call.specs.Below.{ℕ, List, map, Some, slice_get, PyObjectRef, PyStrInterned, Held, Holds, AreNodes, AText, PlainWorld, datum_at, Reading}
use Rattle.std.specs.Prelude.{◌≡◌}
use Rattle.proto_call.specs.EvalForms.Say.{Pairs}

-- keys and values are objects
abbrev pub ArePairs : Held → Pairs → Type 0
ArePairs w ps = Holds w (AreNodes (map (λ p. p.0) ps)) × Holds w (AreNodes (map (λ p. p.1) ps))

-- each key is the text of the name at its place
abbrev pub AreSpelled : Reading → PlainWorld → Pairs → List (PyStrInterned × PyObjectRef) → Type 0
AreSpelled t w ps es =
    (j : ℕ) (p : PyObjectRef × PyObjectRef) → slice_get ps j ≡ Some p → (e : PyStrInterned × PyObjectRef) × (slice_get es j ≡ Some e) × (datum_at w p.0 ≡ Some (AText (t.text e.0.0)))

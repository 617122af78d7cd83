-- What the contracts of the row of a body say: its words, for a function of the code.
use Rattle.proto_call.specs.Below.{true, List, [], Option, Some, None, IfSome, IsTrue, map, PyObjectRef, PyStrInterned, Function, Step, Datum, PlainWorld, Bindings, DoBody, Said, World, Reading, spelled, function_datum, bindings, Follows, has_value}
use Rattle.std.specs.Prelude.{◌≡◌, ◌∷◌}
use Rattle.proto_call.specs.declared.CallKept.{CallKept}
use Rattle.proto_call.specs.Say.{call_job_say, opened, by_keywords, by_place, body_by}
use Rattle.proto_call.specs.Rows.{call_group}

-- the row of a body, whichever it is, begins with what is decided so
abbrev pub Enters : (Reading → PlainWorld → Said) → World → World → Step CallKept → Type 0
Enters said old new step =
    (f : PyObjectRef) (args : List PyObjectRef) (kw : Reading → Bindings) → Follows call_group (λ t u. call_job_say u (DoBody f args (kw t))) said old new step

abbrev pub datum_of : Reading → Option Function → Option Datum
datum_of t None = None
datum_of t (Some g) = Some (function_datum t g)

-- the last of some names, if there are any
abbrev pub last_in : List PyStrInterned → Option PyStrInterned
last_in [] = None
last_in (x ∷ []) = Some x
last_in (x ∷ (y ∷ ys)) = last_in (y ∷ ys)

-- the last parameter has a value
abbrev pub LastFilled : List PyStrInterned → List (PyStrInterned × PyObjectRef) → Type 0
LastFilled params vars = IfSome (last_in params) (λ x. has_value vars x ≡ true)

-- where the last parameter takes the rest, it has a value
abbrev pub RestFilled : Function → List (PyStrInterned × PyObjectRef) → Type 0
RestFilled g vars = IsTrue g.rest → LastFilled g.params.items vars

-- the words of the row, for a function of the code

abbrev pub opened_of : Function → PyObjectRef → List (PyStrInterned × PyObjectRef) → Reading → PlainWorld → Said
opened_of g f vars t w = opened w f (spelled t g.name) (map (spelled t) g.params.items) (t.tree g.body.0) (bindings t vars)

abbrev pub by_keywords_of : Function → PyObjectRef → List (PyStrInterned × PyObjectRef) → List (PyStrInterned × PyObjectRef) → Reading → PlainWorld → Said
by_keywords_of g f vars kw t w =
    by_keywords w f (spelled t g.name) (map (spelled t) g.params.items) g.rest (t.tree g.body.0) (bindings t vars) (bindings t kw)

abbrev pub by_place_of : Function → PyObjectRef → List PyObjectRef → List (PyStrInterned × PyObjectRef) → Reading → PlainWorld → Said
by_place_of g f args kw t w =
    by_place w f (spelled t g.name) (map (spelled t) g.params.items) g.rest (t.tree g.body.0) args (bindings t kw)

-- a body runs as that of this function, if of any
abbrev pub RunsAs : Option Datum → Option Datum → Type 0
RunsAs d e = (w : PlainWorld) (f : PyObjectRef) (args : List PyObjectRef) (kw : Bindings) → body_by w d f args kw ≡ body_by w e f args kw

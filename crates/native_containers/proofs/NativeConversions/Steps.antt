-- How the steps of natives follow from those of rows.
use Rattle.native_containers.proofs.Below.{List, [], Result, IfOk, Raised as Fault, NativeEntry, OutOfMemory, PyObjectRef, PyStrInterned, Answer, Step, End, PlainWorld, Bindings, Said, Ends, Told, ReadObjects, ToNative, Row, noting, World, Reading, bindings, plain, ended_of, EndsAs, ConversionKept, Goes, Starts, conversion_group, conversion_job_say, ends-follow, goes-noting, ok-map, read-follows}
use Rattle.std.proofs.Common.{◌≡◌, ◌∷◌}

-- a native that first reads objects once, and then goes on as a row does
module _ (n : NativeEntry) (args : List PyObjectRef) (kw : List (PyStrInterned × PyObjectRef)) (rs : List PyObjectRef) (row : PlainWorld → Row) (on : (u : PlainWorld) (b : Bindings) (more : Told) → conversion_job_say u (ToNative n args b) (ReadObjects rs ∷ more) ≡ row u more) where
  pub reading-starts : (old new : World) (step : Step ConversionKept) → ((t : Reading) → conversion_job_say (plain t old) (ToNative n args (bindings t kw)) [] ≡ noting (ReadObjects rs) (row (plain t old) [])) → Goes (λ t. row) old new step → Starts n args kw old new step
  reading-starts old new step says h =
      goes-noting conversion_group (λ t. row) (λ t u. conversion_job_say u (ToNative n args (bindings t kw))) (ReadObjects rs) (λ t u more. on u (bindings t kw) more) old new step says h

  pub reading-starts-ok : (old new : World) (r : Result (Step ConversionKept) OutOfMemory) → ((t : Reading) → conversion_job_say (plain t old) (ToNative n args (bindings t kw)) [] ≡ noting (ReadObjects rs) (row (plain t old) [])) → IfOk r (λ step. Goes (λ t. row) old new step) → IfOk r (λ step. Starts n args kw old new step)
  reading-starts-ok old new r says h = ok-map (Goes (λ t. row) old new) (Starts n args kw old new) r (λ step k. reading-starts old new step says k) h

-- a native that ends at once
pub ends-starts : (n : NativeEntry) (args : List PyObjectRef) (kw : List (PyStrInterned × PyObjectRef)) (w : World) (r : Result Answer Fault) → ((t : Reading) → conversion_job_say (plain t w) (ToNative n args (bindings t kw)) [] ≡ Ends (plain t w) (ended_of r)) → Starts n args kw w w (End r)
ends-starts n args kw w r says =
    let row = λ (t : Reading). λ (u : PlainWorld). conversion_job_say u (ToNative n args (bindings t kw)) in
    ends-follow conversion_group row (λ t u. row t u []) w w r (λ t q. (q, says t))

-- a row ends as is said
pub ends-goes : (row : PlainWorld → Row) (said : PlainWorld → Said) (old new : World) (r : Result Answer Fault) → ((u : PlainWorld) → row u [] ≡ said u) → EndsAs (λ t u. said u) old new r → Goes (λ t. row) old new (End r)
ends-goes row said old new r same h =
    read-follows conversion_group (λ t. row) (λ t u. row u []) old new (λ t u. said u) (End r) (λ t q. same (plain t old)) (ends-follow conversion_group (λ t. row) (λ t u. said u) old new r h)

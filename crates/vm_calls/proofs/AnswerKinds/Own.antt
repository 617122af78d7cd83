-- What the natives of objects, classes and descriptors take.
use Rattle.vm_calls.proofs.Below.{Bool, List, None, Option, Some, eqb, ℕ, [], PyObjectRef, Cause, SelfType, BuiltIn, Kind, there_or, with_own, with_class, with_lone_class, safe_for, with_heir, with_class_and, with_one_or_two, with_class_and_given, Datum, Bindings, PlainWorld, Told, Said, datum_at, class_number, nearest_built_in, with_one, with_two}
use Rattle.std.proofs.Common.{◌∷◌}
use Rattle.vm_calls.proofs.AnswerKinds.Base.{Says, ends}
use Rattle.vm_calls.proofs.AnswerKinds.Said.{either, no-keywords, takes-one, takes-two}
use Rattle.py_node.specs.BuiltIns.{place_of}

pub there-or : {A : Type 0} {q : Told → Kind → Bool} {k : Kind} (w : PlainWorld) (cause : Cause) (o : Option A) (go : A → Said) → ((x : A) → Says q k (go x)) → Says q k (there_or w cause o go)
there-or w cause None go p = ends tt
there-or w cause (Some x) go p = p x

pub takes-own : {A : Type 0} {q : Told → Kind → Bool} {k : Kind} (read : Option Datum → Option A) (w : PlainWorld) (args : List PyObjectRef) (go : PyObjectRef → A → Said) → ((o : PyObjectRef) (x : A) → Says q k (go o x)) → Says q k (with_own read w args go)
takes-own read w [] go p = ends tt
takes-own read w (o ∷ args) go p = there-or w SelfType (read (datum_at w o)) (go o) (p o)

pub takes-class : {q : Told → Kind → Bool} {k : Kind} (w : PlainWorld) (args : List PyObjectRef) (go : ℕ → Said) → ((c : ℕ) → Says q k (go c)) → Says q k (with_class w args go)
takes-class w args go p = takes-own class_number w args (λ o c. go c) (λ o c. p c)

pub takes-lone-class : {q : Told → Kind → Bool} {k : Kind} (w : PlainWorld) (args : List PyObjectRef) (kw : Bindings) (go : ℕ → Said) → ((c : ℕ) → Says q k (go c)) → Says q k (with_lone_class w args kw go)
takes-lone-class w args kw go p = takes-class w args (λ c. with_one w args kw (λ o. go c)) (λ c. takes-one w args kw (λ o. go c) (λ o. p c))

pub takes-class-and : {q : Told → Kind → Bool} {k : Kind} (w : PlainWorld) (args : List PyObjectRef) (kw : Bindings) (go : ℕ → PyObjectRef → Said) → ((c : ℕ) (a : PyObjectRef) → Says q k (go c a)) → Says q k (with_class_and w args kw go)
takes-class-and w args kw go p = takes-class w args (λ c. with_two w args kw (λ o a. go c a)) (λ c. takes-two w args kw (λ o a. go c a) (λ o a. p c a))

pub takes-one-or-two : {q : Told → Kind → Bool} {k : Kind} (w : PlainWorld) (args : List PyObjectRef) (kw : Bindings) (go : PyObjectRef → Option PyObjectRef → Said) → ((o : PyObjectRef) (v : Option PyObjectRef) → Says q k (go o v)) → Says q k (with_one_or_two w args kw go)
takes-one-or-two w (o ∷ []) kw go p = no-keywords w kw (go o None) (p o None)
takes-one-or-two w (o ∷ a ∷ []) kw go p = no-keywords w kw (go o (Some a)) (p o (Some a))
takes-one-or-two w args kw go p = ends tt

pub takes-class-and-given : {q : Told → Kind → Bool} {k : Kind} (w : PlainWorld) (args : List PyObjectRef) (kw : Bindings) (go : ℕ → Option PyObjectRef → Said) → ((c : ℕ) (v : Option PyObjectRef) → Says q k (go c v)) → Says q k (with_class_and_given w args kw go)
takes-class-and-given w args kw go p = takes-class w args (λ c. with_one_or_two w args kw (λ o. go c)) (λ c. takes-one-or-two w args kw (λ o. go c) (λ o v. p c v))

safe-for : {q : Told → Kind → Bool} {k : Kind} (w : PlainWorld) (b : ℕ) (c : Option ℕ) (go : Said) → Says q k go → Says q k (safe_for w b c go)
safe-for w b None go p = ends tt
safe-for w b (Some c) go p = either (eqb c b) p (ends tt)

pub takes-heir : {q : Told → Kind → Bool} {k : Kind} (w : PlainWorld) (b : BuiltIn) (args : List PyObjectRef) (go : ℕ → Said) → ((c : ℕ) → Says q k (go c)) → Says q k (with_heir w b args go)
takes-heir w b args go p = takes-class w args (λ c. safe_for w (place_of b) (nearest_built_in w.classes c) (go c)) (λ c. safe-for w (place_of b) (nearest_built_in w.classes c) (go c) (p c))

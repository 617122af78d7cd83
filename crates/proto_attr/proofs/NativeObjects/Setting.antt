-- What setters take, and how they go on.
use Rattle.proto_attr.proofs.Below.{ℕ, true, false, cond, List, [], length, Option, Some, None, refl, ap, sym, option_map, is_some, Property, Cause, ImmutableType, PyObjectRef, class_at as class_numbered, is_heap_at, refused_attr, Bindings, PlainWorld, Said, Ends, fault, with_one, with_two, class_written, on_heap, setter_say, there_or, with_class_and_given, with_one_or_two}
use Rattle.std.proofs.Common.{◌≡◌, ◌∷◌}
use Rattle.py_node.specs.declared.entry.Property.TheVariants as property

-- the object with a value, or alone
pub two-given : (u : PlainWorld) (args : List PyObjectRef) (kw : Bindings) (go : PyObjectRef → Option PyObjectRef → Said) → length args ≡ 2 → with_one_or_two u args kw go ≡ with_two u args kw (λ o a. go o (Some a))
two-given u [] kw go e = cc
two-given u (o ∷ []) kw go e = cc
two-given u (o ∷ a ∷ []) kw go e = refl
two-given u (o ∷ a ∷ b ∷ args) kw go e = refl

pub one-given : (u : PlainWorld) (args : List PyObjectRef) (kw : Bindings) (go : PyObjectRef → Option PyObjectRef → Said) → (length args ≡ 2 → ⊥) → with_one_or_two u args kw go ≡ with_one u args kw (λ o. go o None)
one-given u [] kw go e = refl
one-given u (o ∷ []) kw go e = refl
one-given u (o ∷ a ∷ []) kw go e = absurd (e refl)
one-given u (o ∷ a ∷ b ∷ args) kw go e = refl

-- which setters are of classes
pub set-of-classes : (u : PlainWorld) (p : Property) (args : List PyObjectRef) (kw : Bindings) → (p ≡ property.Class → ⊥) → (p ≡ property.InstanceDict → ⊥) → setter_say u p args kw ≡ with_class_and_given u args kw (class_written u p)
set-of-classes u property.Class args kw f g = absurd (f refl)
set-of-classes u property.Name args kw f g = refl
set-of-classes u property.Qualname args kw f g = refl
set-of-classes u property.Module args kw f g = refl
set-of-classes u property.Bases args kw f g = refl
set-of-classes u property.Dict args kw f g = refl
set-of-classes u property.Annotations args kw f g = refl
set-of-classes u property.Base args kw f g = refl
set-of-classes u property.Mro args kw f g = refl
set-of-classes u property.Flags args kw f g = refl
set-of-classes u property.TextSignature args kw f g = refl
set-of-classes u property.InstanceDict args kw f g = absurd (g refl)

-- what is there, whatever it is
pub there : {A : Type 0} (u : PlainWorld) (cause : Cause) (o : Option A) (go : Said) → is_some o ≡ true → there_or u cause o (λ a. go) ≡ go
there u cause None go e = cc
there u cause (Some a) go e = refl

pub absent : {A : Type 0} (u : PlainWorld) (cause : Cause) (o : Option A) (go : A → Said) → is_some o ≡ false → there_or u cause o go ≡ Ends u (fault cause)
absent u cause None go e = refl
absent u cause (Some a) go e = cc

-- a class that a script made, and another one
pub heap : (u : PlainWorld) (c : ℕ) (go : Said) → is_heap_at (class_numbered u.classes c) ≡ true → on_heap u c go ≡ go
heap u c go e = ap (λ b. cond b go (Ends u (fault ImmutableType))) e

pub allowed : (u : PlainWorld) (c : ℕ) (go : Said) → None ≡ refused_attr u.classes c → on_heap u c go ≡ go
allowed u c go =
    elim (is_heap_at (class_numbered u.classes c)) as (λ b. None ≡ cond b None (Some ImmutableType) → cond b go (Ends u (fault ImmutableType)) ≡ go) [ true ↦ λ e. refl | false ↦ λ e. cc ]

pub refused : (u : PlainWorld) (c : ℕ) (go : Said) (cause : Cause) → Some cause ≡ refused_attr u.classes c → on_heap u c go ≡ Ends u (fault cause)
refused u c go cause =
    elim (is_heap_at (class_numbered u.classes c)) as (λ b. Some cause ≡ cond b None (Some ImmutableType) → cond b go (Ends u (fault ImmutableType)) ≡ Ends u (fault cause)) [ true ↦ λ e. cc | false ↦ λ e. cc ]

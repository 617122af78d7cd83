-- What look-ups found, through each change of the rows.
use Rattle.class_table.proofs.Below.{ℕ, List, [], Option, Some, None, Result, Ok, Err, OnOk, OnErr, length, get_or, set, inl, inr, sym, ap, subst, refl, ◌∙◌, arith, All, cases_eq, get_or-set_same, get_or-set_other, All-nil, All-push, All-set, All-weaker, PyStrInterned, Classes, Cache, Row, StoredClass, IsCoherent, TellsIfAny, IsCached, AreEmpty}
use Rattle.std.proofs.Common.{◌≡◌, ◌+◌, ◌<◌, ◌≤◌, ◌∷◌, ◌++◌}
use Rattle.class_table.specs.Cache.{Tells}

none-tells : (t : Classes PyStrInterned) (version : ℕ) (r : Option Row) → r ≡ None → TellsIfAny t version r
none-tells t version None e = tt
none-tells t version (Some r) e = cc

-- empty rows hold what is found in any classes
pub empty_cached : (t : Classes PyStrInterned) (c : Cache) → AreEmpty c.rows.items → IsCached t c
empty_cached t c h = record { rows = All-weaker (λ (r : Option Row). r ≡ None) (TellsIfAny t c.version) (none-tells t c.version) c.rows.items h.each }

-- a row of a version, or of one before, holds nothing of the next
later-tells : (s t : Classes PyStrInterned) (version : ℕ) (r : Option Row) → TellsIfAny s version r → TellsIfAny t (version + 1) r
later-tells s t version None h = tt
later-tells s t version (Some r) h =
    let earlier = h.earlier in
    record { now = λ e. absurd (omega (arith, e, earlier)); earlier = omega (arith, earlier) }

-- so once the version is raised, the rows hold what is found in any classes
pub raised_cached : (s t : Classes PyStrInterned) (c d : Cache) → IsCached s c → d.rows.items ≡ c.rows.items → d.version ≡ c.version + 1 → IsCached t d
raised_cached s t c d h same next =
    let P : List (Option Row) → Type 0 = λ rows. All (TellsIfAny t d.version) rows in
    let Q : ℕ → Type 0 = λ version. All (TellsIfAny t version) c.rows.items in
    record { rows = subst P (sym same) (subst Q (sym next) (All-weaker (TellsIfAny s c.version) (TellsIfAny t (c.version + 1)) (later-tells s t c.version) c.rows.items h.rows)) }

-- one more row that holds what is found
pub filled_cached : (t : Classes PyStrInterned) (c d : Cache) (place : ℕ) (r : Row) → IsCached t c → Tells t c.version r → d.rows.items ≡ set c.rows.items place (Some r) → d.version ≡ c.version → IsCached t d
filled_cached t c d place r h tells filled same =
    let P : List (Option Row) → Type 0 = λ rows. All (TellsIfAny t d.version) rows in
    let Q : ℕ → Type 0 = λ version. All (TellsIfAny t version) (set c.rows.items place (Some r)) in
    record { rows = subst P (sym filled) (subst Q (sym same) (All-set (TellsIfAny t c.version) c.rows.items place (Some r) tells h.rows)) }

-- rows that are made one by one
pub empty-none : (rows : List (Option Row)) → rows ≡ [] → AreEmpty rows
empty-none rows e =
    let P : List (Option Row) → Type 0 = λ rows. AreEmpty rows in
    subst P (sym e) (record { each = All-nil (λ (r : Option Row). r ≡ None) })

pub empty-push : (rows new : List (Option Row)) → AreEmpty rows → new ≡ rows ++ None ∷ [] → AreEmpty new
empty-push rows new h e =
    let P : List (Option Row) → Type 0 = λ rows. AreEmpty rows in
    subst P (sym e) (record { each = All-push (λ (r : Option Row). r ≡ None) rows None h.each refl })

-- the first rows are empty
pub record EmptyTo (n : ℕ) (rows : List (Option Row)) : Type 0 where
  pub each : (k : ℕ) (d : Option Row) → k < n → get_or rows k d ≡ None

pub empty-start : (rows : List (Option Row)) → EmptyTo 0 rows
empty-start rows = record { each = λ k d l. absurd (omega (arith, l)) }

pub empty-next : (n : ℕ) (rows : List (Option Row)) → EmptyTo n rows → n < length rows → EmptyTo (n + 1) (set rows n None)
empty-next n rows h l = record {
  each = λ k d m. elim (cases_eq k n) [
    | inl e ↦ ap (λ (i : ℕ). get_or (set rows n None) i d) e ∙ get_or-set_same rows n None d l
    | inr w ↦ get_or-set_other rows n k None d w ∙ h.each k d (omega (arith, m, w))
  ];
}

pub empty-end : (n : ℕ) (rows : List (Option Row)) → EmptyTo n rows → length rows ≤ n → AreEmpty rows
empty-end n rows h l = record { each = λ k d m. h.each k d (omega (arith, l, m)) }

-- classes that are changed or stay as they were
pub coherent-then : {X Y : Type 0} (old new : List StoredClass) (answer : Result X Y) → OnOk answer (IsCoherent new) → OnErr answer (new ≡ old) → IsCoherent old → IsCoherent new
coherent-then old new (Ok x) ok err h = ok
coherent-then old new (Err e) ok err h = subst IsCoherent (sym err) h

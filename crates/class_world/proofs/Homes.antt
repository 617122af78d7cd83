-- What the objects of a class hold, after one more class and after an attribute was set.
use Rattle.class_world.proofs.Below.{ℕ, true, List, Option, Some, None, Bool, refl, ap, ◌∙◌, is_some, nat_lt, slice_get, option_map, option_and_then, BuiltIn, PyObjectRef, all_built_ins, Class, Classes, is_class, lin, limit, with_class, with_class_attr, Includes, built_ins, best_of, AreSound, some-of, at-last, first-built_in, first_with, lin-push, lin-attr, holds_as, held_by}
use Rattle.std.proofs.Common.{◌≡◌, ◌≤◌}

-- by the linearisation
abbrev pub by_line : Option (List ℕ) → Option BuiltIn
by_line o = option_map holds_as (option_and_then (slice_get all_built_ins) (option_and_then (first_with (λ d. nat_lt d built_ins)) o))

module _ {K : Type 0} where
  pub held_by-push : (t : Classes K) (k : Class K) (c : ℕ) (b : BuiltIn) → held_by t c ≡ Some b → held_by (with_class t k) c ≡ Some b
  held_by-push t k c b e = go (lin t c) refl e
    where
      go : (o : Option (List ℕ)) → lin t c ≡ o → by_line o ≡ Some b → held_by (with_class t k) c ≡ Some b
      go None l e = cc
      go (Some line) l e = ap by_line (lin-push t k c line l) ∙ e

  -- a class that is made, past the built-in ones: as its best base
  pub held_by-made : (t : Classes K) (k : Class K) (d : ℕ) (b : BuiltIn) → AreSound t → AreSound (with_class t k) → limit t ≤ k.number → built_ins ≤ k.number → ((x : ℕ) → Includes k.bases x → is_class t x ≡ true) → best_of t k.bases ≡ Some d → held_by t d ≡ Some b → held_by (with_class t k) k.number ≡ Some b
  held_by-made t k d b ok more fresh late bases best h = go (lin t d) refl h
    where
      go : (o : Option (List ℕ)) → lin t d ≡ o → by_line o ≡ Some b → held_by (with_class t k) k.number ≡ Some b
      go None l h = cc
      go (Some ld) l h =
          let line = some-of (lin (with_class t k) k.number) (more.order k.number (ap is_some (at-last t k fresh))) in
          ap by_line line.1
          ∙ ap (λ o. option_map holds_as (option_and_then (slice_get all_built_ins) o)) (first-built_in t k ok fresh late bases line.0 d ld line.1 best l)
          ∙ h

  pub held_by-attr : (same : K → K → Bool) (t : Classes K) (c : ℕ) (n : K) (v : PyObjectRef) (d : ℕ) → held_by (with_class_attr same t c n v) d ≡ held_by t d
  held_by-attr same t c n v d = ap by_line (lin-attr same t c n v d)

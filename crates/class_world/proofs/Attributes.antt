-- The attributes of classes, as a reading has them, and what holds of them.
use Rattle.class_world.proofs.Below.{ℕ, true, false, cond, eqb, List, [], Option, Some, None, Result, refl, sym, ap, ◌∙◌, subst, IfOk, option_map, PyObjectRef, PyStrInterned, with_value, is_same_name, Text, Class, Classes, class_at, lin, has_flag, renamed, with_values, attrs_of, attributes_along, all_attributes, at-renamed, lin-renamed, is_text, Held, Reading, Reads, spelled, bindings, plain, AllHold, Sound, of_binding, of_class, of_dict, of_each}
use Rattle.std.proofs.Common.{◌≡◌, ◌^◌, ◌∷◌}
use Rattle.class_world.proofs.Claims.{all-first, all-rest}
use Rattle.class_world.proofs.Bound.{with_value-read, with_value-holds}
use Rattle.class_world.proofs.OfClasses.{class-seen}
use Rattle.class_world.proofs.Stored.{ok-map}

abbrev Bound : Type 0
Bound = List (PyStrInterned × PyObjectRef)

abbrev HeldClass : Type 0
HeldClass = Class PyStrInterned

-- names that differ are read as texts that differ
module _ (t : Reading) where
  values-read : (found attrs : Bound) → with_values is_text (bindings t found) (bindings t attrs) ≡ bindings t (with_values is_same_name found attrs)
  values-read found [] = refl
  values-read found (a ∷ attrs) =
      ap (λ bs. with_values is_text bs (bindings t attrs)) (sym (with_value-read t found a.0 a.1)) ∙ values-read (with_value is_same_name found a.0 a.1) attrs

  attrs-read : (ks : Classes PyStrInterned) (c : ℕ) → attrs_of (class_at (renamed (spelled t) ks) c) ≡ bindings t (attrs_of (class_at ks c))
  attrs-read ks c = at-renamed (spelled t) attrs_of (λ o. bindings t (attrs_of o)) refl (λ k. refl) ks c

  along-read : (ks : Classes PyStrInterned) (line : List ℕ) → attributes_along is_text (renamed (spelled t) ks) line ≡ bindings t (attributes_along is_same_name ks line)
  along-read ks [] = refl
  along-read ks (c ∷ line) =
      let found = attributes_along is_same_name ks line in
      ap (λ bs. with_values is_text bs (attrs_of (class_at (renamed (spelled t) ks) c))) (along-read ks line)
      ∙ ap (with_values is_text (bindings t found)) (attrs-read ks c)
      ∙ values-read found (attrs_of (class_at ks c))

  all-read : (ks : Classes PyStrInterned) (c : ℕ) → all_attributes is_text (renamed (spelled t) ks) c ≡ option_map (bindings t) (all_attributes is_same_name ks c)
  all-read ks c = ap (option_map (attributes_along is_text (renamed (spelled t) ks))) (lin-renamed (spelled t) ks c) ∙ go (lin ks c)
    where
      go : (o : Option (List ℕ)) → option_map (attributes_along is_text (renamed (spelled t) ks)) o ≡ option_map (bindings t) (option_map (attributes_along is_same_name ks) o)
      go None = refl
      go (Some line) = ap Some (along-read ks line)

module _ (w : Held) where
  attrs-hold : (ks : Classes PyStrInterned) (c : ℕ) → AllHold w (of_each of_class ks) → AllHold w (of_each of_binding (attrs_of (class_at ks c)))
  attrs-hold [] c h = tt
  attrs-hold (k ∷ ks) c h =
      elim (eqb k.number c) as (λ b. AllHold w (of_each of_binding (attrs_of (cond b (Some k) (class_at ks c))))) [
        | true ↦ all-rest w (of_dict (has_flag (2 ^ 40) k)) _ (all-first w (of_class k) (of_each of_class ks) h).1.1
        | false ↦ attrs-hold ks c (all-rest w (of_class k) _ h)
      ]

  values-hold : (found attrs : Bound) → AllHold w (of_each of_binding found) → AllHold w (of_each of_binding attrs) → AllHold w (of_each of_binding (with_values is_same_name found attrs))
  values-hold found [] h k = h
  values-hold found (a ∷ attrs) h k = values-hold (with_value is_same_name found a.0 a.1) attrs (with_value-holds w found a.0 a.1 h k.0 k.1.0) k.1.1

  along-hold : (ks : Classes PyStrInterned) (line : List ℕ) → AllHold w (of_each of_class ks) → AllHold w (of_each of_binding (attributes_along is_same_name ks line))
  along-hold ks [] h = tt
  along-hold ks (c ∷ line) h = values-hold (attributes_along is_same_name ks line) (attrs_of (class_at ks c)) (along-hold ks line h) (attrs-hold ks c h)

-- the own attributes of a class, and all that it has
module _ (w now : Held) (v : w ≡ now) (c : ℕ) where
  pub own-seen : (attrs : Bound) → option_map (λ (k : HeldClass). k.attrs) (class_at w.classes c) ≡ Some attrs → (t : Reading) → option_map (λ (k : Class Text). k.attrs) (class_at (plain t now).classes c) ≡ Some (bindings t attrs)
  own-seen attrs e t =
      class-seen w now v t (option_map (λ (k : Class Text). k.attrs)) (λ o. option_map (bindings t) (option_map (λ (k : HeldClass). k.attrs) o)) refl (λ k. refl) c ∙ ap (option_map (bindings t)) e

  pub own-hold : (attrs : Bound) → option_map (λ (k : HeldClass). k.attrs) (class_at w.classes c) ≡ Some attrs → Sound w → AllHold now (of_each of_binding attrs)
  own-hold attrs e s = subst (λ n. AllHold n (of_each of_binding attrs)) v (go (class_at w.classes c) e (attrs-hold w w.classes c s.classes))
    where
      go : (o : Option HeldClass) → option_map (λ (k : HeldClass). k.attrs) o ≡ Some attrs → AllHold w (of_each of_binding (attrs_of o)) → AllHold w (of_each of_binding attrs)
      go None e h = cc
      go (Some k) e h = let same : k.attrs ≡ attrs = cc in subst (λ bs. AllHold w (of_each of_binding bs)) same h

  all-seen : (attrs : Bound) → all_attributes is_same_name w.classes c ≡ Some attrs → (t : Reading) → all_attributes is_text (plain t now).classes c ≡ Some (bindings t attrs)
  unfolding plain
  all-seen attrs e t = subst (λ n. all_attributes is_text (plain t n).classes c ≡ Some (bindings t attrs)) v (all-read t w.classes c ∙ ap (option_map (bindings t)) e)

  all-hold : (attrs : Bound) → all_attributes is_same_name w.classes c ≡ Some attrs → Sound w → AllHold now (of_each of_binding attrs)
  all-hold attrs e s = subst (λ n. AllHold n (of_each of_binding attrs)) v (go (lin w.classes c) e)
    where
      go : (o : Option (List ℕ)) → option_map (attributes_along is_same_name w.classes) o ≡ Some attrs → AllHold w (of_each of_binding attrs)
      go None e = cc
      go (Some line) e =
          let same : attributes_along is_same_name w.classes line ≡ attrs = cc in
          subst (λ bs. AllHold w (of_each of_binding bs)) same (along-hold w w.classes line s.classes)

  pub inherited-seen : {E : Type 0} (r : Result Bound E) → IfOk r (λ a. all_attributes is_same_name w.classes c ≡ Some a) → IfOk r (λ a. (t : Reading) → Reads t now → all_attributes is_text (plain t now).classes c ≡ Some (bindings t a))
  inherited-seen r h = ok-map (λ a. all_attributes is_same_name w.classes c ≡ Some a) (λ a. (t : Reading) → Reads t now → all_attributes is_text (plain t now).classes c ≡ Some (bindings t a)) r (λ a e t reads. all-seen a e t) h

  pub inherited-hold : {E : Type 0} (r : Result Bound E) → IfOk r (λ a. all_attributes is_same_name w.classes c ≡ Some a) → Sound w → IfOk r (λ a. AllHold now (of_each of_binding a))
  inherited-hold r h s = ok-map (λ a. all_attributes is_same_name w.classes c ≡ Some a) (λ a. AllHold now (of_each of_binding a)) r (λ a e. all-hold a e s) h

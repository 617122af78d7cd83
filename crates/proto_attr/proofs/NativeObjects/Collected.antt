-- The classes that objects are, one after another.
use Rattle.proto_attr.proofs.Below.{ℕ, zero, suc, List, [], length, drop, drop-cons, get_or, map, Option, Some, None, refl, sym, ap, ◌∙◌, subst, arith, option_map, PyObjectRef, PyTypeRef, all_some, numbers, class_number, datum_at, World, Reading, plain, IsClass, Holds, AllHold, of_class_ref, of_each, each-push, all_classes}
use Rattle.std.proofs.Common.{◌≡◌, ◌<◌, ◌≤◌, ◌∷◌, ◌++◌}

abbrev after : List ℕ → Option (List ℕ) → Option (List ℕ)
after cs None = None
after cs (Some ds) = Some (cs ++ ds)

after-none : (o : Option (List ℕ)) → after [] o ≡ o
after-none None = refl
after-none (Some ds) = refl

push-numbers : (cs : List PyTypeRef) (c : PyTypeRef) (ds : List ℕ) → numbers (cs ++ c ∷ []) ++ ds ≡ numbers cs ++ (c.0 ∷ ds)
push-numbers [] c ds = refl
push-numbers (x ∷ cs) c ds = ap (λ ns. x.0 ∷ ns) (push-numbers cs c ds)

no-more : (ns : List ℕ) → ns ++ [] ≡ ns
no-more [] = refl
no-more (n ∷ ns) = ap (λ ms. n ∷ ms) (no-more ns)

after-class : (cs : List PyTypeRef) (c : PyTypeRef) (o : Option (List ℕ)) → after (numbers (cs ++ c ∷ [])) o ≡ after (numbers cs) (option_map (λ ds. c.0 ∷ ds) o)
after-class cs c None = refl
after-class cs c (Some ds) = ap Some (push-numbers cs c ds)

drop-all : {A : Type 0} (xs : List A) (i : ℕ) → length xs ≤ i → drop i xs ≡ []
drop-all [] zero l = refl
drop-all [] (suc i) l = refl
drop-all (x ∷ xs) zero l = absurd (omega arith)
drop-all (x ∷ xs) (suc i) l = drop-all xs i (omega arith)

-- the first of some objects are these classes
pub record Collecting (w : World) (cs : List PyTypeRef) (i : ℕ) (all : List PyObjectRef) : Type 0 where
  pub read : (t : Reading) → after (numbers cs) (all_classes (plain t w) (drop i all)) ≡ all_classes (plain t w) all
  pub there : AllHold w (of_each of_class_ref cs)

pub collecting-begins : (w : World) (cs : List PyTypeRef) (all : List PyObjectRef) → cs ≡ [] → Collecting w cs 0 all
collecting-begins w cs all e = record {
  read = λ t. ap (λ (ds : List PyTypeRef). after (numbers ds) (all_classes (plain t w) all)) e ∙ after-none (all_classes (plain t w) all);
  there = subst (λ ds. AllHold w (of_each of_class_ref ds)) (sym e) tt;
}

module _ (w : World) (cs : List PyTypeRef) (i : ℕ) (all : List PyObjectRef) (d : PyObjectRef) (h : Collecting w cs i all) where
  here : (t : Reading) (o : Option ℕ) → i < length all → class_number (datum_at (plain t w) (get_or all i d)) ≡ o → after (numbers cs) (all_some (o ∷ map (λ r. class_number (datum_at (plain t w) r)) (drop (suc i) all))) ≡ all_classes (plain t w) all
  here t o l e =
      ap (λ o. after (numbers cs) (all_some (o ∷ map (λ r. class_number (datum_at (plain t w) r)) (drop (suc i) all)))) (sym e)
      ∙ ap (λ rs. after (numbers cs) (all_classes (plain t w) rs)) (sym (drop-cons all i d l))
      ∙ h.read t

  pub collecting-step : (c : PyTypeRef) (o : Option PyTypeRef) (more : List PyTypeRef) → i < length all → ((t : Reading) → class_number (datum_at (plain t w) (get_or all i d)) ≡ option_map (λ c. c.0) o) → o ≡ Some c → more ≡ cs ++ c ∷ [] → Holds w (IsClass c.0) → Collecting w more (suc i) all
  collecting-step c o more l n e f a = record {
    read = λ t.
        ap (λ (ds : List PyTypeRef). after (numbers ds) (all_classes (plain t w) (drop (suc i) all))) f
        ∙ after-class cs c (all_classes (plain t w) (drop (suc i) all))
        ∙ here t (Some c.0) l (n t ∙ ap (option_map (λ c. c.0)) e);
    there = subst (λ ds. AllHold w (of_each of_class_ref ds)) (sym f) (each-push w of_class_ref cs c h.there (a, tt));
  }

  pub collecting-other : (t : Reading) (o : Option PyTypeRef) → i < length all → class_number (datum_at (plain t w) (get_or all i d)) ≡ option_map (λ c. c.0) o → o ≡ None → all_classes (plain t w) all ≡ None
  collecting-other t o l n e = sym (here t None l (n ∙ ap (option_map (λ c. c.0)) e))

pub collecting-ends : (w : World) (cs : List PyTypeRef) (i : ℕ) (all : List PyObjectRef) → Collecting w cs i all → length all ≤ i → (t : Reading) → all_classes (plain t w) all ≡ Some (numbers cs)
collecting-ends w cs i all h l t =
    sym (h.read t) ∙ ap (λ rs. after (numbers cs) (all_classes (plain t w) rs)) (drop-all all i l) ∙ ap Some (no-more (numbers cs))

-- The bases of a class to be, one after another.
use Rattle.proto_call.proofs.Below.{ℕ, zero, suc, List, [], length, drop, drop-cons, take, get_or, Option, Some, None, Ok, Err, refl, sym, ap, ◌∙◌, subst, arith, option_map, option_and_then, IfSome, TypeType, PyObjectRef, PyTypeRef, numbers, class_number, class_at, datum_at, World, Reading, plain, IsClass, IsOf, Holding, Holds, AllHold, of_class_ref, of_each, of_option, each-push, classes_of, derived, winner, with_class, of_class_node}
use Rattle.std.proofs.Common.{◌≡◌, ◌<◌, ◌≤◌, ◌∷◌, ◌++◌, Result}

abbrev after : List ℕ → Result (List ℕ) PyObjectRef → Result (List ℕ) PyObjectRef
after cs (Ok ds) = Ok (cs ++ ds)
after cs (Err b) = Err b

after-none : (r : Result (List ℕ) PyObjectRef) → after [] r ≡ r
after-none (Ok ds) = refl
after-none (Err b) = refl

push-numbers : (cs : List PyTypeRef) (c : PyTypeRef) (ds : List ℕ) → numbers (cs ++ c ∷ []) ++ ds ≡ numbers cs ++ (c.0 ∷ ds)
push-numbers [] c ds = refl
push-numbers (x ∷ cs) c ds = ap (λ ns. x.0 ∷ ns) (push-numbers cs c ds)

no-more : (ns : List ℕ) → ns ++ [] ≡ ns
no-more [] = refl
no-more (n ∷ ns) = ap (λ ms. n ∷ ms) (no-more ns)

after-class : (cs : List PyTypeRef) (b : PyObjectRef) (c : PyTypeRef) (r : Result (List ℕ) PyObjectRef) → after (numbers (cs ++ c ∷ [])) r ≡ after (numbers cs) (with_class b (Some c.0) r)
after-class cs b c (Ok ds) = ap Ok (push-numbers cs c ds)
after-class cs b c (Err d) = refl

take-next : {A : Type 0} (xs : List A) (i : ℕ) (d : A) → i < length xs → take (suc i) xs ≡ take i xs ++ get_or xs i d ∷ []
take-next [] i d l = absurd (omega arith)
take-next (x ∷ xs) zero d l = refl
take-next (x ∷ xs) (suc i) d l = ap (λ ys. x ∷ ys) (take-next xs i d (omega arith))

take-all : {A : Type 0} (xs : List A) (i : ℕ) → length xs ≤ i → take i xs ≡ xs
take-all [] zero l = refl
take-all [] (suc i) l = refl
take-all (x ∷ xs) zero l = absurd (omega arith)
take-all (x ∷ xs) (suc i) l = ap (λ ys. x ∷ ys) (take-all xs i (omega arith))

drop-all : {A : Type 0} (xs : List A) (i : ℕ) → length xs ≤ i → drop i xs ≡ []
drop-all [] zero l = refl
drop-all [] (suc i) l = refl
drop-all (x ∷ xs) zero l = absurd (omega arith)
drop-all (x ∷ xs) (suc i) l = drop-all xs i (omega arith)

-- the classes that the first of some bases are
pub record Classing (w : World) (cs : List PyTypeRef) (i : ℕ) (all : List PyObjectRef) : Type 0 where
  pub read : (t : Reading) → after (numbers cs) (classes_of (plain t w) (drop i all)) ≡ classes_of (plain t w) all
  pub there : AllHold w (of_each of_class_ref cs)
  pub holding : AllHold w (of_each of_class_node (take i all))

pub classing-begins : (w : World) (cs : List PyTypeRef) (all : List PyObjectRef) → cs ≡ [] → Classing w cs 0 all
classing-begins w cs all e = record {
  read = λ t. ap (λ (ds : List PyTypeRef). after (numbers ds) (classes_of (plain t w) all)) e ∙ after-none (classes_of (plain t w) all);
  there = subst (λ ds. AllHold w (of_each of_class_ref ds)) (sym e) tt;
  holding = tt;
}

module _ (w : World) (cs : List PyTypeRef) (i : ℕ) (all : List PyObjectRef) (d : PyObjectRef) (h : Classing w cs i all) where
  here : (t : Reading) (o : Option ℕ) → i < length all → class_number (datum_at (plain t w) (get_or all i d)) ≡ o → after (numbers cs) (with_class (get_or all i d) o (classes_of (plain t w) (drop (suc i) all))) ≡ classes_of (plain t w) all
  here t o l e =
      ap (λ o. after (numbers cs) (with_class (get_or all i d) o (classes_of (plain t w) (drop (suc i) all)))) (sym e)
      ∙ ap (λ rs. after (numbers cs) (classes_of (plain t w) rs)) (sym (drop-cons all i d l))
      ∙ h.read t

  pub classing-step : (c : PyTypeRef) (o : Option PyTypeRef) (more : List PyTypeRef) → i < length all → ((t : Reading) → class_number (datum_at (plain t w) (get_or all i d)) ≡ option_map (λ c. c.0) o) → o ≡ Some c → more ≡ cs ++ c ∷ [] → Holds w (IsClass c.0) → Holds w (Holding (get_or all i d) TypeType) → Classing w more (suc i) all
  classing-step c o more l n e f a b = record {
    read = λ t.
        ap (λ (ds : List PyTypeRef). after (numbers ds) (classes_of (plain t w) (drop (suc i) all))) f
        ∙ after-class cs (get_or all i d) c (classes_of (plain t w) (drop (suc i) all))
        ∙ here t (Some c.0) l (n t ∙ ap (option_map (λ c. c.0)) e);
    there = subst (λ ds. AllHold w (of_each of_class_ref ds)) (sym f) (each-push w of_class_ref cs c h.there (a, tt));
    holding = subst (λ rs. AllHold w (of_each of_class_node rs)) (sym (take-next all i d l)) (each-push w of_class_node (take i all) (get_or all i d) h.holding (b, tt));
  }

  pub classing-other : (t : Reading) (o : Option PyTypeRef) → i < length all → class_number (datum_at (plain t w) (get_or all i d)) ≡ option_map (λ c. c.0) o → o ≡ None → classes_of (plain t w) all ≡ Err (get_or all i d)
  classing-other t o l n e = sym (here t None l (n ∙ ap (option_map (λ c. c.0)) e))

pub classing-ends : (w : World) (cs : List PyTypeRef) (i : ℕ) (all : List PyObjectRef) → Classing w cs i all → length all ≤ i → (t : Reading) → classes_of (plain t w) all ≡ Ok (numbers cs)
classing-ends w cs i all h l t =
    sym (h.read t) ∙ ap (λ rs. after (numbers cs) (classes_of (plain t w) rs)) (drop-all all i l) ∙ ap Ok (no-more (numbers cs))

pub classing-holds : (w : World) (cs : List PyTypeRef) (i : ℕ) (all : List PyObjectRef) → Classing w cs i all → length all ≤ i → AllHold w (of_each of_class_node all)
classing-holds w cs i all h l = subst (λ rs. AllHold w (of_each of_class_node rs)) (take-all all i l) h.holding

-- the metaclass of the first of some bases
pub record Winning (w : World) (meta now : PyTypeRef) (rest all : List PyObjectRef) : Type 0 where
  pub read : (t : Reading) → winner (plain t w) now.0 rest ≡ winner (plain t w) meta.0 all
  pub class : Holds w (IsClass now.0)
  pub of : Holds w (IsOf now.0 TypeType)

pub node-holds : (w : World) (all : List PyObjectRef) (i : ℕ) (d : PyObjectRef) → i < length all → AllHold w (of_each of_class_node all) → Holds w (Holding (get_or all i d) TypeType)
node-holds w [] i d l h = absurd (omega arith)
node-holds w (r ∷ all) zero d l h = h.0
node-holds w (r ∷ all) (suc i) d l h = node-holds w all i d (omega arith) h.1

module _ (w : World) (meta now : PyTypeRef) (i : ℕ) (all : List PyObjectRef) (d : PyObjectRef) (c : PyTypeRef) (o : Option PyTypeRef) (h : Winning w meta now (drop i all) all) (l : i < length all) (e : (t : Reading) → class_at (plain t w) (get_or all i d) ≡ Some c.0) (f : (t : Reading) → derived (plain t w) now.0 (Some c.0) ≡ option_map (λ c. c.0) o) where
  next : (t : Reading) → option_and_then (λ m. winner (plain t w) m (drop (suc i) all)) (option_map (λ c. c.0) o) ≡ winner (plain t w) meta.0 all
  next t =
      ap (option_and_then (λ m. winner (plain t w) m (drop (suc i) all))) (sym (f t) ∙ ap (derived (plain t w) now.0) (sym (e t)))
      ∙ ap (winner (plain t w) now.0) (sym (drop-cons all i d l))
      ∙ h.read t

  pub winning-step : (m : PyTypeRef) → o ≡ Some m → AllHold w (of_option of_class_ref o) → IfSome o (λ c. Holds w (IsOf c.0 TypeType)) → Winning w meta m (drop (suc i) all) all
  winning-step m g a b = record {
    read = λ t. sym (ap (λ o. option_and_then (λ m. winner (plain t w) m (drop (suc i) all)) (option_map (λ c. c.0) o)) g) ∙ next t;
    class = (subst (λ o. AllHold w (of_option of_class_ref o)) g a).0;
    of = subst (λ o. IfSome o (λ c. Holds w (IsOf c.0 TypeType))) g b;
  }

  pub winning-none : o ≡ None → (t : Reading) → winner (plain t w) meta.0 all ≡ None
  winning-none g t = sym (next t) ∙ ap (λ o. option_and_then (λ m. winner (plain t w) m (drop (suc i) all)) (option_map (λ c. c.0) o)) g

pub winning-ends : (w : World) (meta now : PyTypeRef) (i : ℕ) (all : List PyObjectRef) → Winning w meta now (drop i all) all → length all ≤ i → (t : Reading) → winner (plain t w) meta.0 all ≡ Some now.0
winning-ends w meta now i all h l t = sym (h.read t) ∙ ap (winner (plain t w) now.0) (drop-all all i l)

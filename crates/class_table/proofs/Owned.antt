-- The own attributes of the built-in classes: the classes stay there, and how far the numbers of the objects go.
use Rattle.class_table.proofs.Below.{ℕ, zero, suc, true, List, [], length, fold, refl, sym, ap, ◌∙◌, subst, arith, take, get_or, ltb, ltb-true, Attr, BuiltIn, Object, Known, PyObjectRef, PyStrInterned, with_value, is_same_name, all_built_ins, number_of, own_attrs, Class, Classes, with_class_attr, built_in_classes, is_class-kept, Numbered, HasBuiltIns, number_past, value_number, with_own, with_all_own}
use Rattle.std.proofs.Common.{◌≡◌, ◌+◌, ◌*◌, ◌<◌, ◌≤◌, ◌∷◌}
use Rattle.py_node.specs.declared.attr.Attr.TheVariants as attr
use Rattle.py_node.specs.BuiltIns.{place_of}
use Rattle.class_table.proofs.StartParts.{Row}

past-near : (n : ℕ) (a : Attr) → number_past n a ≤ suc n
past-near n attr.New = omega arith
past-near n (attr.Method e) = omega arith
past-near n (attr.ClassMethod e) = omega arith
past-near n (attr.ReadOnly p) = omega arith
past-near n (attr.Settable p) = omega arith
past-near n (attr.Part d) = omega arith
past-near n (attr.SettablePart d) = omega arith
past-near n attr.NoHash = omega arith

own-there : (b : BuiltIn) (s : Numbered) (a : Known × Attr) → HasBuiltIns s.0 → HasBuiltIns (with_own b s a).0
unfolding with_own
own-there b s a h = λ c.
    is_class-kept (λ (k : Class PyStrInterned). record k { attrs = with_value is_same_name k.attrs (record { 0 = number_of a.0 }) (record { 0 = value_number s.1 a.1 }) }) (λ k. refl) s.0 (place_of b) (place_of c) ∙ h c

own-next : (b : BuiltIn) (s : Numbered) (a : Known × Attr) → (with_own b s a).1 ≤ suc s.1
unfolding with_own
own-next b s a = past-near s.1 a.1

-- some own attributes of a class

own-all-there : (b : BuiltIn) (own : List (Known × Attr)) (s : Numbered) → HasBuiltIns s.0 → HasBuiltIns (fold (with_own b) s own).0
own-all-there b [] s h = h
own-all-there b (a ∷ own) s h = own-all-there b own (with_own b s a) (own-there b s a h)

own-all-next : (b : BuiltIn) (own : List (Known × Attr)) (s : Numbered) → (fold (with_own b) s own).1 ≤ s.1 + length own
own-all-next b [] s = omega arith
own-all-next b (a ∷ own) s = let r = own-all-next b own (with_own b s a) in let h = own-next b s a in omega (arith, r, h)

few-test : (b : BuiltIn) → ltb (length (own_attrs b)) 50 ≡ true
unfolding own_attrs
few-test Object = refl
few-test _ = refl

few-own : (b : BuiltIn) → length (own_attrs b) < 50
few-own b = ltb-true (length (own_attrs b)) 50 (few-test b)

-- those of some classes

abbrev each : Numbered → List Row → Numbered
each s rows = fold (λ s r. with_all_own s r.0) s rows

each-there : (rows : List Row) (s : Numbered) → HasBuiltIns s.0 → HasBuiltIns (each s rows).0
each-there [] s h = h
each-there (r ∷ rows) s h = each-there rows (with_all_own s r.0) (own-all-there r.0 (own_attrs r.0) s h)

each-next : (rows : List Row) (s : Numbered) (n : ℕ) → s.1 ≤ n → (each s rows).1 ≤ n + 50 * length rows
each-next [] s n h = omega (arith, h)
each-next (r ∷ rows) s n h =
    let here = own-all-next r.0 (own_attrs r.0) s in
    let few = few-own r.0 in
    let more = each-next rows (with_all_own s r.0) (n + 50) (omega (arith, h, here, few)) in
    omega (arith, more)

-- the first ones of a list

length-taken : {X : Type 0} (xs : List X) (i : ℕ) → length (take i xs) ≤ length xs
length-taken xs zero = omega arith
length-taken [] (suc i) = omega arith
length-taken (x ∷ xs) (suc i) = let h = length-taken xs i in omega (arith, h)

module _ {X Y : Type 0} (f : Y → X → Y) where
  step : (s : Y) (xs : List X) (i : ℕ) (d : X) → i < length xs → f (fold f s (take i xs)) (get_or xs i d) ≡ fold f s (take (suc i) xs)
  step s [] i d l = absurd (omega arith)
  step s (x ∷ xs) zero d l = refl
  step s (x ∷ xs) (suc i) d l = step (f s x) xs i d (omega arith)

  pub fold-more : (s u v : Y) (xs : List X) (i : ℕ) (d : X) → i < length xs → u ≡ fold f s (take i xs) → v ≡ f u (get_or xs i d) → v ≡ fold f s (take (i + 1) xs)
  fold-more s u v xs i d l was is =
      let z : suc i ≡ i + 1 = omega arith in
      is ∙ ap (λ y. f y (get_or xs i d)) was ∙ step s xs i d l ∙ ap (λ n. fold f s (take n xs)) z

  pub fold-end : (s u : Y) (xs : List X) (i : ℕ) → length xs ≤ i → u ≡ fold f s (take i xs) → u ≡ fold f s xs
  fold-end s u [] zero l was = was
  fold-end s u [] (suc i) l was = was
  fold-end s u (x ∷ xs) zero l was = absurd (omega arith)
  fold-end s u (x ∷ xs) (suc i) l was = fold-end (f s x) u xs i (omega arith) was

-- in the middle of a class
module _ (b : BuiltIn) (own : List (Known × Attr)) (i : ℕ) (s u : Numbered) (is : u ≡ fold (with_own b) s (take i own)) where
  pub own-there-yet : HasBuiltIns s.0 → HasBuiltIns u.0
  own-there-yet h = subst (λ (v : Numbered). HasBuiltIns v.0) (sym is) (own-all-there b (take i own) s h)

  pub own-few-yet : own ≡ own_attrs b → u.1 ≤ s.1 + 50
  own-few-yet same =
      let at : u.1 ≡ (fold (with_own b) s (take i own)).1 = ap (λ (v : Numbered). v.1) is in
      let near = own-all-next b (take i own) s in
      let part = length-taken own i in
      let all : length own ≡ length (own_attrs b) = ap (λ (xs : List (Known × Attr)). length xs) same in
      let few = few-own b in
      omega (arith, at, near, part, all, few)

-- between classes
module _ (rows : List Row) (i : ℕ) (s u : Numbered) (is : u ≡ each s (take i rows)) where
  pub each-there-yet : HasBuiltIns s.0 → HasBuiltIns u.0
  each-there-yet h = subst (λ (v : Numbered). HasBuiltIns v.0) (sym is) (each-there (take i rows) s h)

  pub each-few-yet : length rows ≡ 23 → u.1 ≤ s.1 + 1150
  each-few-yet count =
      let at : u.1 ≡ (each s (take i rows)).1 = ap (λ (v : Numbered). v.1) is in
      let near = each-next (take i rows) s s.1 (omega arith) in
      let part = length-taken rows i in
      omega (arith, at, near, part, count)

-- an own attribute is set
pub own-set : (b : BuiltIn) (s : Numbered) (a : Known × Attr) (u : Classes PyStrInterned) (n c : ℕ) (x : PyStrInterned) (r : PyObjectRef) → u ≡ with_class_attr is_same_name s.0 c x r → c ≡ place_of b → x ≡ record { 0 = number_of a.0 } → r ≡ record { 0 = value_number s.1 a.1 } → n ≡ number_past s.1 a.1 → (u, n) ≡ with_own b s a
unfolding with_own
own-set b s a u n c x r set class name value past =
    let is = set ∙ (λ i. with_class_attr is_same_name s.0 (class i) (name i) (value i)) in λ i. (is i, past i)

pub built-there : HasBuiltIns built_in_classes
unfolding all_built_ins place_of
built-there Object = refl
built-there _ = refl

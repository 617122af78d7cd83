-- Linearisations in a table of classes, with no depth in what is said.
use Rattle.class_model.proofs.Below.{ℕ, zero, suc, true, List, [], map, length, Option, Some, None, inl, inr, refl, sym, ap, ◌∙◌, arith, is_some, option_map, option_and_then, length-map, has, least_order, all_some, linear, Includes, Distinct, BeginsWith, Class, Classes, class_at, is_class, bases_of, lin, IsLeastLine, numbers_of, limit}
use Rattle.std.proofs.Common.{◌≡◌, ◌<◌, ◌∷◌}
use Rattle.class_model.proofs.Held.{Includes-flat_map, distinct-fewer}
use Rattle.class_model.proofs.Tests.{Decides-has}
use Rattle.class_model.proofs.Arranged.{least_order-order, least_order-least}
use Rattle.class_model.proofs.Linear.{linear-made, linear-from, linear-zero, linear-grows, linear-order, all_some-at}
use Rattle.class_model.proofs.Numbers.{at-held, below-limit}
use Rattle.class_model.proofs.Depth.{linear-member, linear-known, linear-bases, linear-length, linear-inside}

-- it depends on the bases of the classes along it alone
pub linear-along : (f g : ℕ → Option (List ℕ)) (n c : ℕ) (xs : List ℕ) → linear f n c ≡ Some xs → ((x : ℕ) → Includes xs x → f x ≡ g x) → linear g n c ≡ Some xs
linear-along f g zero c xs e h = absurd (linear-zero f c xs e)
linear-along f g (suc n) c xs e h =
    let made = linear-made f n c xs e in
    let o = least_order-order c made.direct made.lines xs made.is in
    let here : g c ≡ Some made.direct = sym (h c (o.all_members c (inl refl))) ∙ made.of_class in
    linear-from g n c xs made.direct made.lines here (all_some-at (linear f n) (linear g n) made.direct made.lines (λ b l p k q. linear-along f g n b l q (λ x r. h x (o.all_members x (inr (Includes-flat_map (λ l. l) made.lines l x k r))))) made.of_bases) made.is

BeginsWith-holds : (c : ℕ) (line : List ℕ) → BeginsWith c line → Includes line c
BeginsWith-holds c [] h = absurd h
BeginsWith-holds c (x ∷ line) h = inl h

pub all_some-map : {A : Type 0} (os : List (Option A)) (xs : List A) → all_some os ≡ Some xs → os ≡ map Some xs
all_some-map [] xs e = let s : xs ≡ [] = cc in ap (map Some) (sym s)
all_some-map (None ∷ os) xs e = cc
all_some-map {A = A} (Some x ∷ os) xs e = go (all_some os) (all_some-map os) e
  where
    go : (o : Option (List A)) → ((ys : List A) → o ≡ Some ys → os ≡ map Some ys) → option_map (λ ys. x ∷ ys) o ≡ Some xs → Some x ∷ os ≡ map Some xs
    go None more e = cc
    go (Some ys) more e = let s : xs ≡ x ∷ ys = cc in ap (λ zs. Some x ∷ zs) (more ys refl) ∙ ap (map Some) (sym s)

module _ {K : Type 0} where
  pub bases_of-get : (t : Classes K) (c : ℕ) (bs : List ℕ) → bases_of t c ≡ Some bs → (k : Class K) × (class_at t c ≡ Some k) × (k.bases ≡ bs)
  bases_of-get t c bs e = go (class_at t c) refl e
    where
      go : (o : Option (Class K)) → class_at t c ≡ o → option_map (λ k. k.bases) o ≡ Some bs → (k : Class K) × (class_at t c ≡ Some k) × (k.bases ≡ bs)
      go None h e = cc
      go (Some k) h e = (k, h, cc)

  pub lin-begins : (t : Classes K) (c : ℕ) (line : List ℕ) → lin t c ≡ Some line → BeginsWith c line
  lin-begins t c line e = (linear-order (bases_of t) (length t) c line e).0

  pub lin-distinct : (t : Classes K) (c : ℕ) (line : List ℕ) → lin t c ≡ Some line → Distinct line
  lin-distinct t c line e = (linear-order (bases_of t) (length t) c line e).1

  pub lin-held : (t : Classes K) (c : ℕ) (line : List ℕ) → lin t c ≡ Some line → Includes line c
  lin-held t c line e = BeginsWith-holds c line (lin-begins t c line e)

  pub lin-itself : (t : Classes K) (c : ℕ) (line : List ℕ) → lin t c ≡ Some line → has line c ≡ true
  lin-itself t c line e = (Decides-has line c).1 (lin-held t c line e)

  pub lin-member : (t : Classes K) (c : ℕ) (line : List ℕ) (x : ℕ) → lin t c ≡ Some line → Includes line x → (l : List ℕ) × (lin t x ≡ Some l)
  lin-member t c line x e h = linear-member (bases_of t) (length t) c line x e h

  pub lin-inside : (t : Classes K) (c : ℕ) (line : List ℕ) (x : ℕ) (l : List ℕ) (y : ℕ) → lin t c ≡ Some line → Includes line x → lin t x ≡ Some l → Includes l y → Includes line y
  lin-inside t c line x l y e h f k = linear-inside (bases_of t) (length t) c line x l y e h f k

  -- the class itself is in the table
  pub lin-there : (t : Classes K) (c : ℕ) (line : List ℕ) → lin t c ≡ Some line → (k : Class K) × (class_at t c ≡ Some k)
  lin-there t c line e = let r = linear-known (bases_of t) (length t) c line e in let g = bases_of-get t c r.0 r.1 in (g.0, g.1)

  pub lin-within : (t : Classes K) (c : ℕ) (line : List ℕ) → lin t c ≡ Some line → is_class t c ≡ true
  lin-within t c line e = ap is_some (lin-there t c line e).1

  pub lin-classes : (t : Classes K) (c : ℕ) (line : List ℕ) (x : ℕ) → lin t c ≡ Some line → Includes line x → is_class t x ≡ true
  lin-classes t c line x e h = let r = lin-member t c line x e h in lin-within t x r.0 r.1

  pub lin-below : (t : Classes K) (c : ℕ) (line : List ℕ) (x : ℕ) → lin t c ≡ Some line → Includes line x → x < limit t
  lin-below t c line x e h = below-limit t x (lin-classes t c line x e h)

  pub lin-bases : (t : Classes K) (c : ℕ) (line bs : List ℕ) (x : ℕ) → lin t c ≡ Some line → bases_of t c ≡ Some bs → Includes bs x → Includes line x
  lin-bases t c line bs x e h k = linear-bases (bases_of t) (length t) c line bs x e h k

  -- however deep it was found, it is the linearisation
  pub lin-from : (t : Classes K) (n c : ℕ) (line : List ℕ) → linear (bases_of t) n c ≡ Some line → lin t c ≡ Some line
  lin-from t n c line e =
      let few = distinct-fewer line (numbers_of t) (linear-order (bases_of t) n c line e).1 (λ x h. let r = linear-member (bases_of t) n c line x e h in let q = linear-known (bases_of t) n x r.0 r.1 in at-held t x (ap is_some (bases_of-get t x q.0 q.1).1)) in
      linear-length (bases_of t) n c line (length t) e (omega (arith, few, length-map t (λ (k : Class K). k.number)))

  -- the least order over the linearisations of the bases
  pub lin-rule : (t : Classes K) (c : ℕ) → lin t c ≡ option_and_then (λ bs. option_and_then (least_order c bs) (all_some (map (lin t) bs))) (bases_of t c)
  unfolding linear
  lin-rule t c = go (lin t c) refl (linear (bases_of t) (suc (length t)) c) refl
    where
      go : (r : Option (List ℕ)) → lin t c ≡ r → (q : Option (List ℕ)) → linear (bases_of t) (suc (length t)) c ≡ q → r ≡ q
      go None e None f = refl
      go None e (Some ys) f = sym e ∙ lin-from t (suc (length t)) c ys f
      go (Some xs) e q f = sym (linear-grows (bases_of t) (bases_of t) (λ d bs p. p) (length t) (suc (length t)) (omega arith) c xs e) ∙ f

  -- and in words
  pub lin-least : (t : Classes K) (c : ℕ) (line : List ℕ) → lin t c ≡ Some line → IsLeastLine t c line
  lin-least t c line e = of_class (bases_of t c) refl (sym (lin-rule t c) ∙ e)
    where
      of_bases : (bs : List ℕ) → bases_of t c ≡ Some bs → (o : Option (List (List ℕ))) → all_some (map (lin t) bs) ≡ o → option_and_then (least_order c bs) o ≡ Some line → IsLeastLine t c line
      of_bases bs g None f h = cc
      of_bases bs g (Some ls) f h = record { bases = bs; lines = ls; of_class = g; of_bases = all_some-map (map (lin t) bs) ls f; least = least_order-least c bs ls line h }

      of_class : (o : Option (List ℕ)) → bases_of t c ≡ o → option_and_then (λ bs. option_and_then (least_order c bs) (all_some (map (lin t) bs))) o ≡ Some line → IsLeastLine t c line
      of_class None g h = cc
      of_class (Some bs) g h = of_bases bs g (all_some (map (lin t) bs)) refl h

  -- tables that give a class's whole line the same bases give it the same linearisation
  pub lin-along : (t u : Classes K) (c : ℕ) (line : List ℕ) → lin t c ≡ Some line → ((x : ℕ) → Includes line x → bases_of t x ≡ bases_of u x) → lin u c ≡ Some line
  lin-along t u c line e h = lin-from u (length t) c line (linear-along (bases_of t) (bases_of u) (length t) c line e h)

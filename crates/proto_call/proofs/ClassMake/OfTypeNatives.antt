-- The objects that stand for classes.
use Rattle.proto_call.proofs.Below.{ℕ, true, false, cond, eqb, Bool, [], inl, inr, refl, ap, is_some, eq-eqb, Class, Classes, is_class, renamed, subclasses, has, Includes, Held, Reading, spelled, plain}
use Rattle.std.proofs.Common.{◌≡◌, ◌∷◌}
use Rattle.std.specs.Prelude.{Some}
use Rattle.class_model.specs.Class.{class_at}

-- subclasses are classes
module _ {K : Type 0} where
  later : (k : Class K) (t : Classes K) (d : ℕ) → is_class t d ≡ true → is_class (k ∷ t) d ≡ true
  later k t d e = elim (eqb k.number d) as (λ b. is_some (cond b (Some k) (class_at t d)) ≡ true) [ true ↦ refl | false ↦ e ]

  first : (k : Class K) (t : Classes K) (d : ℕ) → k.number ≡ d → is_class (k ∷ t) d ≡ true
  first k t d e = ap (λ b. is_some (cond b (Some k) (class_at t d))) (eq-eqb k.number d e)

  more : (k : Class K) (ks : Classes K) (c d : ℕ) (b : Bool) → (Includes (subclasses ks c) d → is_class ks d ≡ true) → Includes (cond b (k.number ∷ subclasses ks c) (subclasses ks c)) d → is_class (k ∷ ks) d ≡ true
  more k ks c d true rest (inl e) = first k ks d e
  more k ks c d true rest (inr i) = later k ks d (rest i)
  more k ks c d false rest i = later k ks d (rest i)

  pub subclass-there : (t : Classes K) (c d : ℕ) → Includes (subclasses t c) d → is_class t d ≡ true
  subclass-there [] c d h = absurd h
  subclass-there (k ∷ ks) c d h = more k ks c d (has k.bases c) (subclass-there ks c d) h

-- subclasses have no names
subclasses-renamed : {K L : Type 0} (f : K → L) (t : Classes K) (c : ℕ) → subclasses (renamed f t) c ≡ subclasses t c
subclasses-renamed f [] c = refl
subclasses-renamed f (k ∷ ks) c = ap (λ cs. cond (has k.bases c) (k.number ∷ cs) cs) (subclasses-renamed f ks c)

pub subclasses-seen : (t : Reading) (w : Held) (c : ℕ) → subclasses (plain t w).classes c ≡ subclasses w.classes c
unfolding plain
subclasses-seen t w c = subclasses-renamed (spelled t) w.classes c

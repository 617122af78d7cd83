-- One more node, and classes that are like those before, keep a sound world sound.
use Rattle.plain_machine.proofs.Below.{ℕ, zero, suc, true, List, [], length, Option, Some, None, refl, ap, subst, ◌∙◌, slice_get, option_map, All, Text, Classes, is_class, AreSound, Datum, AClass, Node, PlainWorld, ref, datum_at, AreBound, AreApart, IsSoundNode, IsSound}
use Rattle.std.proofs.Common.{◌≡◌, ◌∷◌, ◌++◌}
use Rattle.plain_machine.proofs.Lasting.{Like, Lasts, sound_node-still, bound-still, scopes-still}

module _ {A : Type 0} where
  pub get-end : (xs : List A) (y : A) → slice_get (xs ++ y ∷ []) (length xs) ≡ Some y
  get-end [] y = refl
  get-end (x ∷ xs) y = get-end xs y

  pub get-pushed : (xs : List A) (y : A) (n : ℕ) (x : A) → slice_get xs n ≡ Some x → slice_get (xs ++ y ∷ []) n ≡ Some x
  get-pushed [] y n x e = cc
  get-pushed (z ∷ xs) y zero x e = e
  get-pushed (z ∷ xs) y (suc n) x e = get-pushed xs y n x e

  -- what is so of each element and its place is so with one more at the end
  each-pushed : (P : ℕ → A → Type 0) (xs : List A) (y : A) → ((n : ℕ) (x : A) → slice_get xs n ≡ Some x → P n x) → P (length xs) y → (n : ℕ) (x : A) → slice_get (xs ++ y ∷ []) n ≡ Some x → P n x
  each-pushed P [] y h q zero x e = let same : y ≡ x = cc in subst (P 0) same q
  each-pushed P [] y h q (suc n) x e = cc
  each-pushed P (z ∷ xs) y h q zero x e = h 0 x e
  each-pushed P (z ∷ xs) y h q (suc n) x e = each-pushed (λ m. P (suc m)) xs y (λ m. h (suc m)) q n x e

-- what is held is held by a node
pub holder : (o : Option Node) (d : Datum) → option_map (λ (n : Node). n.datum) o ≡ Some d → (n : Node) × (o ≡ Some n) × (n.datum ≡ d)
holder None d e = cc
holder (Some n) d e = (n, refl, cc)

module _ (w : PlainWorld) (n : Node) (t : Classes Text) where
  abbrev pub pushed : PlainWorld
  pushed = record w { nodes = w.nodes ++ n ∷ []; classes = t }

  pub push-lasts : Like w.classes t → Lasts w pushed
  push-lasts l = record { stays = λ m x e. (x, get-pushed w.nodes n m x e, refl); like = l }

  pub push-kept : IsSound w → Like w.classes t → AreSound t → IsSoundNode pushed n → ((c : ℕ) → is_class t c ≡ true → datum_at pushed (ref c) ≡ Some (AClass c)) → ((c : ℕ) → n.datum ≡ AClass c → length w.nodes ≡ c) → All (λ k. AreBound pushed k.attrs × AreApart k.attrs) t → IsSound pushed
  push-kept s l classes node standing itself attrs =
      let g = push-lasts l in
      record {
        classes = classes;
        nodes = each-pushed (λ i x. IsSoundNode pushed x) w.nodes n (λ i x e. sound_node-still w pushed g x (s.nodes i x e)) node;
        standing = standing;
        itself = λ m c e.
            let h = holder (slice_get pushed.nodes m) (AClass c) e in
            each-pushed (λ i x. (c : ℕ) → x.datum ≡ AClass c → i ≡ c) w.nodes n (λ i x q c d. s.itself i c (ap (option_map (λ (n : Node). n.datum)) q ∙ ap Some d)) itself m h.0 h.1 c h.2;
        attrs = attrs;
        vars = bound-still w pushed g w.vars s.vars;
        apart = s.apart;
        scopes = scopes-still w pushed g w.scopes s.scopes;
      }

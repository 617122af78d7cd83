-- The chain of best bases ends by itself.
use Rattle.class_model.proofs.Below.{ℕ, zero, suc, true, List, [], length, Option, Some, None, refl, sym, ◌∙◌, option_and_then, linear, Includes, Classes, is_class, bases_of, lin, solid, best_of, base, AreSound, steps, chain_from, base_chain, IsChain}
use Rattle.std.proofs.Common.{◌≡◌, ◌∷◌}
use Rattle.class_model.proofs.Linear.{linear-made, linear-zero, all_some-has}
use Rattle.class_model.proofs.Numbers.{some-of}
use Rattle.class_model.proofs.Solid.{first_best-held}

steps-none : (next : ℕ → Option ℕ) (n : ℕ) → steps next n None ≡ []
steps-none next zero = refl
steps-none next (suc n) = refl

-- there is one chain from a class
one-chain : (next : ℕ → Option ℕ) (c : Option ℕ) (xs ys : List ℕ) → IsChain next c xs → IsChain next c ys → xs ≡ ys
one-chain next None [] [] p q = refl
one-chain next None [] (y ∷ ys) p q = absurd q
one-chain next None (x ∷ xs) ys p q = absurd p
one-chain next (Some c) [] ys p q = absurd p
one-chain next (Some c) (x ∷ xs) [] p q = absurd q
one-chain next (Some c) (x ∷ xs) (y ∷ ys) p q =
    let first : x ≡ y = p.0 ∙ sym q.0 in
    let rest = one-chain next (next c) xs ys p.1 q.1 in
    cc (first, rest)

none-chain : (next : ℕ → Option ℕ) (n : ℕ) → IsChain next None (steps next n None)
none-chain next zero = tt
none-chain next (suc n) = tt

module _ {K : Type 0} (t : Classes K) where
  -- the best base is one of the bases
  pub base-held : (c b : ℕ) → base t c ≡ Some b → (bs : List ℕ) × (bases_of t c ≡ Some bs) × Includes bs b
  base-held c b e = go (bases_of t c) refl e
    where
      go : (o : Option (List ℕ)) → bases_of t c ≡ o → option_and_then (best_of t) o ≡ Some b → (bs : List ℕ) × (bases_of t c ≡ Some bs) × Includes bs b
      go None h e = cc
      go (Some bs) h e = (bs, h, first_best-held t (solid t) bs bs b e)

  -- as many steps as the bases go deep are enough
  steps-chain : (n c : ℕ) (line : List ℕ) → linear (bases_of t) n c ≡ Some line → IsChain (base t) (Some c) (steps (base t) n (Some c))
  steps-chain zero c line e = absurd (linear-zero (bases_of t) c line e)
  steps-chain (suc n) c line e = (refl, go (base t c) refl (steps-chain n))
    where
      go : (o : Option ℕ) → base t c ≡ o → ((b : ℕ) (l : List ℕ) → linear (bases_of t) n b ≡ Some l → IsChain (base t) (Some b) (steps (base t) n (Some b))) → IsChain (base t) o (steps (base t) n o)
      go None h more = none-chain (base t) n
      go (Some b) h more =
          let made = linear-made (bases_of t) n c line e in
          let held = base-held c b h in
          let same : held.0 ≡ made.direct = cc (held.1, made.of_class) in
          let has : Includes made.direct b = rw (sym same) held.2 in
          let deep = all_some-has (linear (bases_of t) n) made.direct made.lines b made.of_bases has in
          more b deep.0 deep.2

  pub chain-whole : AreSound t → (c : ℕ) → is_class t c ≡ true → IsChain (base t) (Some c) (base_chain t c)
  chain-whole sound c k = let r = some-of (lin t c) (sound.order c k) in steps-chain (length t) c r.0 r.1

  pub base-class : AreSound t → (c b : ℕ) → base t c ≡ Some b → is_class t b ≡ true
  base-class sound c b e = let r = base-held c b e in sound.there c b r.0 r.1 r.2

  pub chain-none : chain_from t None ≡ []
  chain-none = steps-none (base t) (length t)

  -- after a class the chain goes on from its best base
  pub chain-step : AreSound t → (c : ℕ) → is_class t c ≡ true → chain_from t (Some c) ≡ c ∷ chain_from t (base t c)
  chain-step sound c k = one-chain (base t) (Some c) (chain_from t (Some c)) (c ∷ chain_from t (base t c)) (chain-whole sound c k) (refl, go (base t c) refl)
    where
      go : (o : Option ℕ) → base t c ≡ o → IsChain (base t) o (chain_from t o)
      go None h = none-chain (base t) (length t)
      go (Some b) h = chain-whole sound b (base-class sound c b h)

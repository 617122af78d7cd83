-- A class's flags say whether it gives its objects a dict: for sound classes, and where the bases of one are replaced.
use Rattle.class_model.proofs.Below.{ℕ, zero, suc, Bool, true, false, eqb, List, [], length, Option, Some, None, inl, inr, refl, sym, ap, subst, ◌∙◌, option_map, list_any, eqb-true, eqb-false, linear, Includes, Class, Classes, class_at, is_class, bases_of, lin, with_bases, gives_within, gives_dict, says_dict, has_dict, any_has_dict, dict_with, alike, has_its_dict, AreSound}
use Rattle.std.proofs.Common.{◌≡◌, ◌||◌, ◌∷◌}
use Rattle.class_model.proofs.Linear.{linear-made, linear-zero, all_some-has}
use Rattle.class_model.proofs.Numbers.{some-of, at-changed, at-changed_away, at-changed_here}
use Rattle.class_model.proofs.Rule.{bases_of-get}

pub alike-same : (a b : Bool) → alike a b ≡ true → a ≡ b
alike-same true true e = refl
alike-same true false e = cc
alike-same false true e = cc
alike-same false false e = refl

module _ {K L : Type 0} (t : Classes K) (u : Classes L) where
  pub any_has_dict-agrees : (bs : List ℕ) → ((b : ℕ) → Includes bs b → has_dict t b ≡ has_dict u b) → any_has_dict t bs ≡ any_has_dict u bs
  any_has_dict-agrees [] h = refl
  any_has_dict-agrees (b ∷ bs) h =
      ap (λ w. w || any_has_dict t bs) (h b (inl refl)) ∙ ap (λ w. has_dict u b || w) (any_has_dict-agrees bs (λ x k. h x (inr k)))

module _ {K : Type 0} (t : Classes K) where
  -- where the flags of the bases say what is so, one step down says it too
  any-within : (n : ℕ) (bs : List ℕ) → ((b : ℕ) → Includes bs b → has_dict t b ≡ gives_within t n (class_at t b)) → any_has_dict t bs ≡ list_any (λ b. gives_within t n (class_at t b)) bs
  any-within n [] h = refl
  any-within n (b ∷ bs) h =
      let f : ℕ → Bool = λ b. gives_within t n (class_at t b) in
      ap (λ w. w || any_has_dict t bs) (h b (inl refl)) ∙ ap (λ w. f b || w) (any-within n bs (λ x k. h x (inr k)))

  module _ (ok : AreSound t) where
    within : (n c : ℕ) (line : List ℕ) → linear (bases_of t) n c ≡ Some line → has_dict t c ≡ gives_within t n (class_at t c)
    unfolding gives_within
    within zero c line e = absurd (linear-zero (bases_of t) c line e)
    within (suc n) c line e =
        let made = linear-made (bases_of t) n c line e in
        let k = bases_of-get t c made.direct made.of_class in
        let deep : any_has_dict t made.direct ≡ list_any (λ b. gives_within t n (class_at t b)) made.direct = any-within n made.direct (λ b h. let l = all_some-has (linear (bases_of t) n) made.direct made.lines b made.of_bases h in within n b l.0 l.2) in
        ok.dicts c ∙ go (class_at t c) made.direct k deep
      where
        go : (o : Option (Class K)) (bs : List ℕ) → (k : Class K) × (o ≡ Some k) × (k.bases ≡ bs) → any_has_dict t bs ≡ list_any (λ b. gives_within t n (class_at t b)) bs → has_its_dict t o ≡ gives_within t (suc n) o
        go None bs k d = let e = k.1 in cc
        go (Some j) bs k d = let e = k.1 in let h = k.2 in let same : j.bases ≡ bs = cc (e, h) in let P : List ℕ → Type 0 = λ bs. any_has_dict t bs ≡ list_any (λ b. gives_within t n (class_at t b)) bs in ap (λ w. j.brings || w) (subst P (sym same) d)

    -- the flags say it
    pub has-gives : (c : ℕ) → is_class t c ≡ true → has_dict t c ≡ gives_dict t c
    has-gives c l = let line = some-of (lin t c) (ok.order c l) in within (length t) c line.0 line.1

  -- other bases for a class, where it gives a dict as before
  module _ (c : ℕ) (bs : List ℕ) where
    abbrev u : Classes K
    u = with_bases t c bs

    abbrev f : Class K → Class K
    f k = record k { bases = bs }

    pub has_dict-rebased : (x : ℕ) → has_dict u x ≡ has_dict t x
    has_dict-rebased x = at-changed f (λ k. refl) says_dict (λ k. refl) t c x

    any-rebased : (xs : List ℕ) → any_has_dict u xs ≡ any_has_dict t xs
    any-rebased xs = any_has_dict-agrees u t xs (λ x h. has_dict-rebased x)

    its-rebased : (o : Option (Class K)) → has_its_dict u o ≡ has_its_dict t o
    its-rebased None = refl
    its-rebased (Some k) = ap (λ w. k.brings || w) (any-rebased k.bases)

    its-there : (o : Option (Class K)) → has_its_dict u (option_map f o) ≡ dict_with t o bs
    its-there None = refl
    its-there (Some k) = ap (λ w. k.brings || w) (any-rebased bs)

    pub dicts-rebased : AreSound t → dict_with t (class_at t c) bs ≡ has_dict t c → (x : ℕ) → has_dict u x ≡ has_its_dict u (class_at u x)
    dicts-rebased ok keeps x = go (eqb x c) refl
      where
        go : (b : Bool) → eqb x c ≡ b → has_dict u x ≡ has_its_dict u (class_at u x)
        go true e =
            let same : x ≡ c = eqb-true x c e in
            has_dict-rebased x ∙ ap (has_dict t) same ∙ sym keeps ∙ sym (its-there (class_at t c)) ∙ sym (ap (has_its_dict u) (ap (class_at u) same ∙ at-changed_here f (λ k. refl) t c))
        go false e =
            has_dict-rebased x ∙ ok.dicts x ∙ sym (its-rebased (class_at t x)) ∙ sym (ap (has_its_dict u) (at-changed_away f (λ k. refl) t c x (eqb-false x c e)))

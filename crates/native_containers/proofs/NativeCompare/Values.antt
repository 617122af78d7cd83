-- The values under the keys of entries, one after another.
use Rattle.native_containers.proofs.Below.{ℕ, suc, [], length, get_or, drop, Option, Some, None, refl, sym, ap, ◌∙◌, arith, append_assoc, option_map, option_and_then, drop_all, drop-cons, PyObjectRef, Entries, PlainWorld, keys_of, value_under, Objects, values_under}
use Rattle.std.proofs.Common.{◌≡◌, ◌+◌, ◌<◌, ◌≤◌, ◌∷◌, ◌++◌}

-- these, and then the values that are left
abbrev pub after : Objects → Option Objects → Option Objects
after vs o = option_map (λ ws. vs ++ ws) o

after-none : (o : Option Objects) → after [] o ≡ o
after-none None = refl
after-none (Some ws) = refl

after-one : (vs : Objects) (v : PyObjectRef) (o : Option Objects) → after vs (option_map (λ ws. v ∷ ws) o) ≡ after (vs ++ v ∷ []) o
after-one vs v None = refl
after-one vs v (Some ws) = ap Some (sym (append_assoc vs (v ∷ []) ws))

module _ (w : PlainWorld) (d : PyObjectRef) (es : Entries) where
  abbrev pub values_left : ℕ → Option Objects
  values_left i = values_under w d (keys_of (drop i es))

  pub values-first : values_under w d (keys_of es) ≡ after [] (values_left 0)
  values-first = sym (after-none (values_under w d (keys_of es)))

  under-here : (i : ℕ) (e : PyObjectRef × PyObjectRef) → i < length es → values_left i ≡ option_and_then (λ v. option_map (λ vs. v ∷ vs) (values_left (i + 1))) (value_under w d (get_or es i e).0)
  under-here i e l =
      let next : suc i ≡ i + 1 = omega arith in
      ap (λ xs. values_under w d (keys_of xs)) (drop-cons es i e l)
      ∙ ap (λ n. option_and_then (λ v. option_map (λ vs. v ∷ vs) (values_left n)) (value_under w d (get_or es i e).0)) next

  pub value-more : (vs : Objects) (i : ℕ) (e : PyObjectRef × PyObjectRef) (v : PyObjectRef) → i < length es → value_under w d (get_or es i e).0 ≡ Some v → after vs (values_left i) ≡ after (vs ++ v ∷ []) (values_left (i + 1))
  value-more vs i e v l is =
      ap (after vs) (under-here i e l ∙ ap (option_and_then (λ v. option_map (λ vs. v ∷ vs) (values_left (i + 1)))) is)
      ∙ after-one vs v (values_left (i + 1))

  pub value-lacks : (vs : Objects) (i : ℕ) (e : PyObjectRef × PyObjectRef) → i < length es → value_under w d (get_or es i e).0 ≡ None → after vs (values_left i) ≡ None
  value-lacks vs i e l is =
      ap (after vs) (under-here i e l ∙ ap (option_and_then (λ v. option_map (λ vs. v ∷ vs) (values_left (i + 1)))) is)

  append-none : (vs : Objects) → vs ++ [] ≡ vs
  append-none [] = refl
  append-none (v ∷ vs) = ap (λ ws. v ∷ ws) (append-none vs)

  pub values-all : (vs : Objects) (i : ℕ) → length es ≤ i → after vs (values_left i) ≡ Some vs
  values-all vs i l = ap (λ xs. after vs (values_under w d (keys_of xs))) (drop_all i es l) ∙ ap Some (append-none vs)

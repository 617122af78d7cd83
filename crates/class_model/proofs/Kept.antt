-- Classes stay sound, and their places stay, where one class is changed and keeps its number, bases, members and flags, and what it brings.
use Rattle.class_model.proofs.Below.{ℕ, Bool, cond, not, List, [], length, Option, Some, None, inl, inr, refl, sym, ap, ◌∙◌, nat_lt, is_some, option_map, bit_and, Includes, Class, Classes, class_at, is_class, bases_of, lin, is_along, ascend_from, with_changed, built_ins, is_empty, has_members, is_solid, solid_within, solid, base, layout_along, layout, member_count, is_place, says_dict, has_dict, has_its_dict, AreSound}
use Rattle.std.proofs.Common.{◌≡◌, ◌&&◌, ◌||◌, ◌∷◌, ◌++◌}
use Rattle.std.specs.Prelude.{◌==◌}
use Rattle.py_node.specs.BuiltIns.{has_dict as dict_flag}
use Rattle.class_model.proofs.Agreed.{bind-agrees}
use Rattle.class_model.proofs.Dict.{any_has_dict-agrees}
use Rattle.class_model.proofs.Numbers.{numbers-changed, at-changed, length-changed}
use Rattle.class_model.proofs.Changed.{lin-changed}
use Rattle.class_model.proofs.Solid.{solid_within-same, base-agrees}

module _ {K L : Type 0} (t : Classes K) (u : Classes L) where
  pub layout_along-agrees : (line : List ℕ) → ((x : ℕ) → Includes line x → is_solid t x ≡ is_solid u x) → layout_along t line ≡ layout_along u line
  layout_along-agrees [] h = refl
  layout_along-agrees (c ∷ cs) h =
      let a : layout_along t cs ≡ layout_along u cs = layout_along-agrees cs (λ x k. h x (inr k)) in
      ap (λ l. l ++ cond (is_solid t c) (c ∷ []) []) a ∙ ap (λ b. layout_along u cs ++ cond b (c ∷ []) []) (h c (inl refl))

  -- a layout is that of the linearisation
  pub layout-agrees : (c : ℕ) → lin t c ≡ lin u c → ((line : List ℕ) (x : ℕ) → lin t c ≡ Some line → Includes line x → is_solid t x ≡ is_solid u x) → layout t c ≡ layout u c
  layout-agrees c e h =
      bind-agrees (λ line. Some (layout_along t line)) (λ line. Some (layout_along u line)) (lin t c) (lin u c) e (λ line q. ap Some (layout_along-agrees line (λ x k. h line x q k)))

  -- a place is one of a layout and of a number of members
  pub is_place-agrees : (c d i : ℕ) → layout t c ≡ layout u c → member_count (class_at t d) ≡ member_count (class_at u d) → is_place t c d i ≡ is_place u c d i
  is_place-agrees c d i e h =
      ap (λ o. is_along d o && nat_lt i (member_count (class_at t d))) e ∙ ap (λ n. is_along d (layout u c) && nat_lt i n) h

module _ {K : Type 0} (f : Class K → Class K) (numbers : (k : Class K) → (f k).number ≡ k.number) (t : Classes K) (c : ℕ) where
  pub is_class-kept : (x : ℕ) → is_class (with_changed f t c) x ≡ is_class t x
  is_class-kept x = at-changed f numbers is_some (λ k. refl) t c x

  pub member_count-kept : ((k : Class K) → (f k).members ≡ k.members) → (x : ℕ) → member_count (class_at (with_changed f t c) x) ≡ member_count (class_at t x)
  member_count-kept members x = at-changed f numbers member_count (λ k. ap length (members k)) t c x

  module _ (bases : (k : Class K) → (f k).bases ≡ k.bases) (members : (k : Class K) → (f k).members ≡ k.members) where
    bases_of-kept : (x : ℕ) → bases_of (with_changed f t c) x ≡ bases_of t x
    bases_of-kept x = at-changed f numbers (option_map (λ (k : Class K). k.bases)) (λ k. ap Some (bases k)) t c x

    pub lin-kept : (x : ℕ) → lin (with_changed f t c) x ≡ lin t x
    lin-kept x = lin-changed f numbers bases t c x

    is_solid-kept : (x : ℕ) → is_solid (with_changed f t c) x ≡ is_solid t x
    is_solid-kept x =
        ap (λ w. nat_lt x built_ins || w) (at-changed f numbers has_members (λ k. ap (λ ms. not (is_empty ms)) (members k)) t c x)

    solid-kept : (x : ℕ) → solid (with_changed f t c) x ≡ solid t x
    solid-kept x =
        solid_within-same (with_changed f t c) t (λ x. Unit {0}) (λ x bs b p e h. tt) (λ x p. bases_of-kept x) (λ x p. lin-kept x) (λ x p. is_solid-kept x) (length (with_changed f t c)) x tt ∙ ap (λ m. solid_within t m x) (length-changed f numbers t c)

    base-kept : (x : ℕ) → base (with_changed f t c) x ≡ base t x
    base-kept x =
        base-agrees (with_changed f t c) t (λ x. Unit {0}) (λ x bs b p e h. tt) (λ x p. bases_of-kept x) (λ x p. lin-kept x) (λ x p. is_solid-kept x) x tt (λ b p. solid-kept b)

    pub is_place-kept : (x d i : ℕ) → is_place (with_changed f t c) x d i ≡ is_place t x d i
    is_place-kept x d i =
        is_place-agrees (with_changed f t c) t x d i (layout-agrees (with_changed f t c) t x (lin-kept x) (λ line y e h. is_solid-kept y)) (member_count-kept members d)

    module _ (flags : (k : Class K) → (f k).flags ≡ k.flags) (brings : (k : Class K) → (f k).brings ≡ k.brings) where
      pub has_dict-kept : (x : ℕ) → has_dict (with_changed f t c) x ≡ has_dict t x
      has_dict-kept x = at-changed f numbers says_dict (λ k. ap (λ n. bit_and n dict_flag == dict_flag) (flags k)) t c x

      abbrev dict_in : Option (Class K) → Bool
      dict_in = has_its_dict (with_changed f t c)

      its-kept : (x : ℕ) → has_its_dict (with_changed f t c) (class_at (with_changed f t c) x) ≡ has_its_dict t (class_at t x)
      its-kept x = at-changed f numbers dict_in (λ k. let a = brings k in let b = bases k in cc (a, b)) t c x ∙ same (class_at t x)
        where
          same : (o : Option (Class K)) → dict_in o ≡ has_its_dict t o
          same None = refl
          same (Some k) = ap (λ b. k.brings || b) (any_has_dict-agrees (with_changed f t c) t k.bases (λ b h. has_dict-kept b))

      pub sound-kept : AreSound t → AreSound (with_changed f t c)
      sound-kept ok = record {
        ascending = ap (ascend_from 0) (numbers-changed f numbers t c) ∙ ok.ascending;
        root = λ x bs e. ok.root x bs (sym (bases_of-kept x) ∙ e);
        there = λ x b bs e h. is_class-kept b ∙ ok.there x b bs (sym (bases_of-kept x) ∙ e) h;
        apart = λ x b bs e h. ap (is_along x) (lin-kept b) ∙ ok.apart x b bs (sym (bases_of-kept x) ∙ e) h;
        order = λ x l. ap is_some (lin-kept x) ∙ ok.order x (sym (is_class-kept x) ∙ l);
        solid = λ x l. ap is_some (solid-kept x) ∙ ok.solid x (sym (is_class-kept x) ∙ l);
        best = λ x l. ap is_some (base-kept x) ∙ ok.best x (sym (is_class-kept x) ∙ l);
        dicts = λ x. has_dict-kept x ∙ ok.dicts x ∙ sym (its-kept x);
      }

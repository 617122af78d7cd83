-- The slots of a class after one more class, and after an attribute was set.
use Rattle.class_model.proofs.Below.{ℕ, Bool, true, false, cond, List, [], map, Some, None, refl, sym, ap, subst, ◌∙◌, option_map, false≢true, PyObjectRef, SlotId, value_of, with_value, names_of, all_slots, sort_of, has, Includes, Class, Classes, class_at, lin, own_of, along, found_by, found, Keys, Natives, is_one_of, is_name_of, is_heap_at, entry, entries, read_along, slot, with_class, with_class_attr}
use Rattle.std.proofs.Common.{◌≡◌, ◌∷◌}
use Rattle.class_model.proofs.Held.{Includes-equal}
use Rattle.class_model.proofs.Tests.{Decides-has}
use Rattle.class_model.proofs.Numbers.{at-before, at-changed, at-changed_away}
use Rattle.class_model.proofs.Rule.{lin-held, lin-member, lin-inside, lin-classes, lin-along}
use Rattle.class_model.proofs.Changed.{lin-attr}
use Rattle.class_model.proofs.Agreed.{bind-agrees, first_along-agrees, read_along-agrees, entry-agrees}

module _ {K : Type 0} where
  -- tables that have the same classes along a line
  pub lin-alike : (t u : Classes K) (c : ℕ) (line : List ℕ) → lin t c ≡ Some line → ((x : ℕ) → Includes line x → class_at t x ≡ class_at u x) → (x : ℕ) → Includes line x → lin t x ≡ lin u x
  lin-alike t u c line e h x k =
      let r = lin-member t c line x e k in
      r.1 ∙ sym (lin-along t u x r.0 r.1 (λ y p. ap (option_map (λ (j : Class K). j.bases)) (h y (lin-inside t c line x r.0 y e k r.1 p))))

  pub found_by-along : (test : K → Bool) (t u : Classes K) (c : ℕ) (line : List ℕ) → lin t c ≡ Some line → ((x : ℕ) → Includes line x → class_at t x ≡ class_at u x) → found_by test t c ≡ found_by test u c
  found_by-along test t u c line e h =
      let same : lin t c ≡ lin u c = lin-alike t u c line e h c (lin-held t c line e) in
      bind-agrees (along test t) (along test u) (lin t c) (lin u c) same (λ l k. first_along-agrees (λ x. own_of test (class_at t x)) (λ x. own_of test (class_at u x)) l (λ x p. ap (own_of test) (h x (let s : l ≡ line = cc in let P : List ℕ → Type 0 = λ w. Includes w x in subst P s p))))

  before : (t : Classes K) (k : Class K) (c : ℕ) (line : List ℕ) → lin t c ≡ Some line → (x : ℕ) → Includes line x → class_at t x ≡ class_at (with_class t k) x
  before t k c line e x h = sym (at-before t k x (lin-classes t c line x e h))

  -- what is found stays the same for the classes that were there
  pub found_by-push : (test : K → Bool) (t : Classes K) (k : Class K) (c : ℕ) (line : List ℕ) → lin t c ≡ Some line → found_by test (with_class t k) c ≡ found_by test t c
  found_by-push test t k c line e = sym (found_by-along test t (with_class t k) c line e (before t k c line e))

  pub found-push : (same : K → K → Bool) (t : Classes K) (k : Class K) (c : ℕ) (n : K) (line : List ℕ) → lin t c ≡ Some line → found same (with_class t k) c n ≡ found same t c n
  found-push same t k c n line e = found_by-push (λ j. same j n) t k c line e

  module _ (keys : Keys K) (natives : Natives) where
    pub entry-along : (t u : Classes K) (c : ℕ) (line : List ℕ) (s : SlotId) → lin t c ≡ Some line → ((x : ℕ) → Includes line x → class_at t x ≡ class_at u x) → entry keys natives t c s ≡ entry keys natives u c s
    entry-along t u c line s e h =
        entry-agrees keys keys natives s t u (λ x. Includes line x) (λ x l y k f p. lin-inside t c line x l y e k f p) (lin-alike t u c line e h) (λ x k. ap is_heap_at (h x k)) (λ x k. ap (own_of (is_name_of keys s)) (h x k)) c (lin-held t c line e)

    pub entries-along : (t u : Classes K) (c : ℕ) (line : List ℕ) → lin t c ≡ Some line → ((x : ℕ) → Includes line x → class_at t x ≡ class_at u x) → entries keys natives t c ≡ entries keys natives u c
    entries-along t u c line e h = λ i. map (λ s. entry-along t u c line s e h i) all_slots

    pub slot-along : (t u : Classes K) (c : ℕ) (line : List ℕ) (s : SlotId) → lin t c ≡ Some line → ((x : ℕ) → Includes line x → class_at t x ≡ class_at u x) → slot keys natives t c s ≡ slot keys natives u c s
    slot-along t u c line s e h = bind-agrees (λ l. read_along (entry keys natives t) (sort_of s) c l s) (λ l. read_along (entry keys natives u) (sort_of s) c l s) (lin t c) (lin u c) (lin-alike t u c line e h c (lin-held t c line e)) each
      where
        same : (x : ℕ) → Includes line x → entry keys natives t x ≡ entry keys natives u x
        same x k = let r = lin-member t c line x e k in λ i z. entry-along t u x r.0 z r.1 (λ y p. h y (lin-inside t c line x r.0 y e k r.1 p)) i

        each : (l : List ℕ) → lin t c ≡ Some l → read_along (entry keys natives t) (sort_of s) c l s ≡ read_along (entry keys natives u) (sort_of s) c l s
        each l f =
            read_along-agrees (entry keys natives t) (entry keys natives u) (sort_of s) c l s (same c (lin-held t c line e)) (λ x p. same x (let q : l ≡ line = cc in let P : List ℕ → Type 0 = λ w. Includes w x in subst P q p))

    -- one more class
    pub entry-push : (t : Classes K) (k : Class K) (c : ℕ) (line : List ℕ) (s : SlotId) → lin t c ≡ Some line → entry keys natives (with_class t k) c s ≡ entry keys natives t c s
    entry-push t k c line s e = sym (entry-along t (with_class t k) c line s e (before t k c line e))

    pub entries-push : (t : Classes K) (k : Class K) (c : ℕ) (line : List ℕ) → lin t c ≡ Some line → entries keys natives (with_class t k) c ≡ entries keys natives t c
    entries-push t k c line e = sym (entries-along t (with_class t k) c line e (before t k c line e))

    pub slot-push : (t : Classes K) (k : Class K) (c : ℕ) (line : List ℕ) (s : SlotId) → lin t c ≡ Some line → slot keys natives (with_class t k) c s ≡ slot keys natives t c s
    slot-push t k c line s e = sym (slot-along t (with_class t k) c line s e (before t k c line e))

    away : (t : Classes K) (c : ℕ) (n : K) (v : PyObjectRef) (line : List ℕ) → has line c ≡ false → (x : ℕ) → Includes line x → class_at t x ≡ class_at (with_class_attr keys.same t c n v) x
    away t c n v line e x h =
        sym (at-changed_away (λ k. record k { attrs = with_value keys.same k.attrs n v }) (λ k. refl) t c x (λ i. false≢true (sym e ∙ (Decides-has line c).1 (Includes-equal line x c i h))))

    -- an attribute of a class that is not along the line
    pub entry-attr-away : (t : Classes K) (c : ℕ) (n : K) (v : PyObjectRef) (d : ℕ) (line : List ℕ) → lin t d ≡ Some line → has line c ≡ false → entries keys natives (with_class_attr keys.same t c n v) d ≡ entries keys natives t d
    entry-attr-away t c n v d line e h = sym (entries-along t (with_class_attr keys.same t c n v) d line e (away t c n v line h))

    module _ (alike : (a b x : K) → keys.same a b ≡ true → keys.same a x ≡ keys.same b x) where
      is_one_of-alike : (ns : List K) (a b : K) → keys.same a b ≡ true → is_one_of keys.same ns a ≡ is_one_of keys.same ns b
      is_one_of-alike [] a b e = refl
      is_one_of-alike (n ∷ ns) a b e = cc (alike a b n e, is_one_of-alike ns a b e)

      value_of-other : (test : K → Bool) (n : K) (v : PyObjectRef) → ((a : K) → keys.same a n ≡ true → test a ≡ false) → test n ≡ false → (attrs : List (K × PyObjectRef)) → value_of test (with_value keys.same attrs n v) ≡ value_of test attrs
      value_of-other test n v h e [] = ap (λ b. cond b (Some v) None) e
      value_of-other test n v h e (a ∷ attrs) = go (keys.same a.0 n) refl (value_of-other test n v h e attrs)
        where
          go : (b : Bool) → keys.same a.0 n ≡ b → value_of test (with_value keys.same attrs n v) ≡ value_of test attrs → value_of test (cond b ((a.0, v) ∷ attrs) (a ∷ with_value keys.same attrs n v)) ≡ cond (test a.0) (Some a.1) (value_of test attrs)
          go true k more = let f = h a.0 k in ap (λ b. cond b (Some v) (value_of test attrs)) f ∙ ap (λ b. cond b (Some a.1) (value_of test attrs)) (sym f)
          go false k more = ap (cond (test a.0) (Some a.1)) more

      other : (t : Classes K) (c : ℕ) (n : K) (v : PyObjectRef) (d : ℕ) (s : SlotId) → is_name_of keys s n ≡ false → entry keys natives (with_class_attr keys.same t c n v) d s ≡ entry keys natives t d s
      other t c n v d s e =
          let change : Class K → Class K = λ k. record k { attrs = with_value keys.same k.attrs n v } in
          let test : (a : K) → keys.same a n ≡ true → is_name_of keys s a ≡ false = λ a h. is_one_of-alike (map keys.special (names_of s)) a n h ∙ e in
          entry-agrees keys keys natives s (with_class_attr keys.same t c n v) t (λ x. Unit {0}) (λ x l y p f h. tt) (λ x p. lin-attr keys.same t c n v x) (λ x p. at-changed change (λ k. refl) is_heap_at (λ k. refl) t c x) (λ x p. at-changed change (λ k. refl) (own_of (is_name_of keys s)) (λ k. value_of-other (is_name_of keys s) n v test e k.attrs) t c x) d tt

    -- an attribute whose name is none of the slot's
    pub entry-attr-other : (t : Classes K) (c : ℕ) (n : K) (v : PyObjectRef) (d : ℕ) (s : SlotId) → ((a b x : K) → keys.same a b ≡ true → keys.same a x ≡ keys.same b x) → is_name_of keys s n ≡ false → entry keys natives (with_class_attr keys.same t c n v) d s ≡ entry keys natives t d s
    entry-attr-other t c n v d s alike e = other alike t c n v d s e

-- Other keys change nothing.
use Rattle.class_model.proofs.Below.{ℕ, Bool, true, false, cond, not, eqb, List, [], map, length, Option, Some, None, refl, ap, ◌∙◌, nat_lt, option_map, option_and_then, length-map, PyObjectRef, SlotId, SlotEntry, Known, value_of, names_of, all_slots, sort_of, has, linear, Class, Classes, class_at, bases_of, lin, is_along, is_sub, own_of, along, found_by, found, past_first, found_past, subclasses, rekeyed, renamed, numbers_of, best_of, built_ins, is_empty, has_members, is_solid, solid_within, solid, base, layout_along, layout, member_count, is_place, Keys, Natives, is_one_of, is_name_of, is_heap_at, entry, entries, read_along, slot, is_other_node, is_overridden, goes_first, without_same, in_turn, candidates_of}
use Rattle.std.proofs.Common.{◌≡◌, ◌&&◌, ◌||◌, ◌∷◌, ◌++◌}
use Rattle.class_model.proofs.Linear.{linear-same}
use Rattle.class_model.proofs.Agreed.{bind-agrees, first_along-agrees, entry-agrees}
use Rattle.class_model.proofs.Solid.{first_best-agrees, solid_within-same, base-agrees}

module _ {K L : Type 0} (f : K → L) where
  -- what does not see the keys of a class sees the same
  pub at-renamed : {A : Type 0} (g : Option (Class L) → A) (h : Option (Class K) → A) → g None ≡ h None → ((k : Class K) → g (Some (rekeyed f k)) ≡ h (Some k)) → (t : Classes K) (c : ℕ) → g (class_at (renamed f t) c) ≡ h (class_at t c)
  at-renamed g h e i [] c = e
  at-renamed g h e i (k ∷ t) c =
      elim (eqb k.number c) as (λ b. g (cond b (Some (rekeyed f k)) (class_at (renamed f t) c)) ≡ h (cond b (Some k) (class_at t c))) [ true ↦ i k | false ↦ at-renamed g h e i t c ]

  pub numbers-renamed : (t : Classes K) → numbers_of (renamed f t) ≡ numbers_of t
  numbers-renamed [] = refl
  numbers-renamed (k ∷ t) = ap (λ ns. k.number ∷ ns) (numbers-renamed t)

  pub length-renamed : (t : Classes K) → length (renamed f t) ≡ length t
  length-renamed t = length-map t (rekeyed f)

  pub bases_of-renamed : (t : Classes K) (c : ℕ) → bases_of (renamed f t) c ≡ bases_of t c
  bases_of-renamed t c =
      at-renamed (option_map (λ (k : Class L). k.bases)) (option_map (λ (k : Class K). k.bases)) refl (λ k. refl) t c

  pub lin-renamed : (t : Classes K) (c : ℕ) → lin (renamed f t) c ≡ lin t c
  lin-renamed t c =
      linear-same (bases_of (renamed f t)) (bases_of t) (bases_of-renamed t) (length (renamed f t)) c ∙ ap (λ n. linear (bases_of t) n c) (length-renamed t)

  pub is_sub-renamed : (t : Classes K) (c d : ℕ) → is_sub (renamed f t) c d ≡ is_sub t c d
  is_sub-renamed t c d = ap (is_along d) (lin-renamed t c)

  -- a test and the same test of the other keys
  module _ (p : L → Bool) (q : K → Bool) (agree : (k : K) → p (f k) ≡ q k) where
    value_of-renamed : (attrs : List (K × PyObjectRef)) → value_of p (map (λ a. (f a.0, a.1)) attrs) ≡ value_of q attrs
    value_of-renamed [] = refl
    value_of-renamed (a ∷ attrs) =
        ap (λ b. cond b (Some a.1) (value_of p (map (λ a. (f a.0, a.1)) attrs))) (agree a.0) ∙ ap (cond (q a.0) (Some a.1)) (value_of-renamed attrs)

    pub own_of-renamed : (t : Classes K) (c : ℕ) → own_of p (class_at (renamed f t) c) ≡ own_of q (class_at t c)
    own_of-renamed t c = at-renamed (own_of p) (own_of q) refl (λ k. value_of-renamed k.attrs) t c

    pub along-renamed : (t : Classes K) (line : List ℕ) → along p (renamed f t) line ≡ along q t line
    along-renamed t line =
        first_along-agrees (λ x. own_of p (class_at (renamed f t) x)) (λ x. own_of q (class_at t x)) line (λ x h. own_of-renamed t x)

    pub found_by-renamed : (t : Classes K) (c : ℕ) → found_by p (renamed f t) c ≡ found_by q t c
    found_by-renamed t c =
        bind-agrees (along p (renamed f t)) (along q t) (lin (renamed f t) c) (lin t c) (lin-renamed t c) (λ line e. along-renamed t line)

  module _ (same : K → K → Bool) (alike : L → L → Bool) (agree : (a b : K) → alike (f a) (f b) ≡ same a b) where
    pub found-renamed : (t : Classes K) (c : ℕ) (n : K) → found alike (renamed f t) c (f n) ≡ found same t c n
    found-renamed t c n = found_by-renamed (λ k. alike k (f n)) (λ k. same k n) (λ k. agree k n) t c

    pub found_past-renamed : (t : Classes K) (c : ℕ) (n : K) → found_past alike (renamed f t) c (f n) ≡ found_past same t c n
    found_past-renamed t c n =
        bind-agrees (λ line. along (λ k. alike k (f n)) (renamed f t) (past_first line)) (λ line. along (λ k. same k n) t (past_first line)) (lin (renamed f t) c) (lin t c) (lin-renamed t c) (λ line e. along-renamed (λ k. alike k (f n)) (λ k. same k n) (λ k. agree k n) t (past_first line))

  is_heap_at-renamed : (t : Classes K) (c : ℕ) → is_heap_at (class_at (renamed f t) c) ≡ is_heap_at (class_at t c)
  is_heap_at-renamed t c = at-renamed is_heap_at is_heap_at refl (λ k. refl) t c

  module _ (keys : Keys K) (others : Keys L) (agree : (a b : K) → others.same (f a) (f b) ≡ keys.same a b) (special : (k : Known) → others.special k ≡ f (keys.special k)) where
    is_one_of-renamed : (ns : List Known) (k : K) → is_one_of others.same (map others.special ns) (f k) ≡ is_one_of keys.same (map keys.special ns) k
    is_one_of-renamed [] k = refl
    is_one_of-renamed (n ∷ ns) k =
        let a : others.same (f k) (others.special n) ≡ keys.same k (keys.special n) = ap (others.same (f k)) (special n) ∙ agree k (keys.special n) in
        let r = is_one_of-renamed ns k in
        ap (λ b. b || is_one_of others.same (map others.special ns) (f k)) a ∙ ap (λ b. keys.same k (keys.special n) || b) r

    pub is_name_of-renamed : (s : SlotId) (k : K) → is_name_of others s (f k) ≡ is_name_of keys s k
    is_name_of-renamed s k = is_one_of-renamed (names_of s) k

    pub entry-renamed : (natives : Natives) (t : Classes K) (c : ℕ) (s : SlotId) → entry others natives (renamed f t) c s ≡ entry keys natives t c s
    entry-renamed natives t c s =
        entry-agrees others keys natives s (renamed f t) t (λ x. Unit {0}) (λ x l y p e h. tt) (λ x p. lin-renamed t x) (λ x p. is_heap_at-renamed t x) (λ x p. own_of-renamed (is_name_of others s) (is_name_of keys s) (is_name_of-renamed s) t x) c tt

    pub entries-renamed : (natives : Natives) (t : Classes K) (c : ℕ) → entries others natives (renamed f t) c ≡ entries keys natives t c
    entries-renamed natives t c = λ i. map (λ s. entry-renamed natives t c s i) all_slots

    pub slot-renamed : (natives : Natives) (t : Classes K) (c : ℕ) (s : SlotId) → slot others natives (renamed f t) c s ≡ slot keys natives t c s
    slot-renamed natives t c s =
        let e : ◌≡◌ {A = ℕ → SlotId → Option SlotEntry} (entry others natives (renamed f t)) (entry keys natives t) = λ i c s. entry-renamed natives t c s i in
        ap (option_and_then (λ line. read_along (entry others natives (renamed f t)) (sort_of s) c line s)) (lin-renamed t c) ∙ ap (λ own. option_and_then (λ line. read_along own (sort_of s) c line s) (lin t c)) e

    is_overridden-renamed : (t : Classes K) (ns : List Known) (c d : ℕ) → is_overridden others (renamed f t) ns c d ≡ is_overridden keys t ns c d
    is_overridden-renamed t [] c d = refl
    is_overridden-renamed t (n ∷ ns) c d =
        ap (λ x. is_other_node (found others.same (renamed f t) c x) (found others.same (renamed f t) d x)) (special n)
        ∙ ap (λ r. is_other_node r (found others.same (renamed f t) d (f (keys.special n)))) (found-renamed keys.same others.same agree t c (keys.special n))
        ∙ ap (is_other_node (found keys.same t c (keys.special n))) (found-renamed keys.same others.same agree t d (keys.special n))

    pub goes_first-renamed : (t : Classes K) (right : SlotId) (c d : ℕ) → goes_first others (renamed f t) right c d ≡ goes_first keys t right c d
    goes_first-renamed t right c d =
        ap (λ b. b && is_overridden others (renamed f t) (names_of right) c d) (is_sub-renamed t d c)
        ∙ ap (λ b. is_sub t d c && b) (is_overridden-renamed t (names_of right) c d)

    pub candidates_of-renamed : (natives : Natives) (t : Classes K) (left right : SlotId) (c d : ℕ) → candidates_of others natives (renamed f t) left right c d ≡ candidates_of keys natives t left right c d
    candidates_of-renamed natives t left right c d =
        ap (λ b. in_turn b (slot others natives (renamed f t) c left) (cond (eqb c d) None (without_same (slot others natives (renamed f t) c left) (slot others natives (renamed f t) d right)))) (goes_first-renamed t right c d)
        ∙ ap (λ l. in_turn (goes_first keys t right c d) l (cond (eqb c d) None (without_same l (slot others natives (renamed f t) d right)))) (slot-renamed natives t c left)
        ∙ ap (λ r. in_turn (goes_first keys t right c d) (slot keys natives t c left) (cond (eqb c d) None (without_same (slot keys natives t c left) r))) (slot-renamed natives t d right)

  is_empty-map : (ns : List K) → is_empty (map f ns) ≡ is_empty ns
  is_empty-map [] = refl
  is_empty-map (n ∷ ns) = refl

  pub is_solid-renamed : (t : Classes K) (c : ℕ) → is_solid (renamed f t) c ≡ is_solid t c
  is_solid-renamed t c =
      ap (λ b. nat_lt c built_ins || b) (at-renamed has_members has_members refl (λ k. ap not (is_empty-map k.members)) t c)

  pub solid-renamed : (t : Classes K) (c : ℕ) → solid (renamed f t) c ≡ solid t c
  solid-renamed t c =
      solid_within-same (renamed f t) t (λ x. Unit {0}) (λ x bs b p e h. tt) (λ x p. bases_of-renamed t x) (λ x p. lin-renamed t x) (λ x p. is_solid-renamed t x) (length (renamed f t)) c tt ∙ ap (λ n. solid_within t n c) (length-renamed t)

  pub base-renamed : (t : Classes K) (c : ℕ) → base (renamed f t) c ≡ base t c
  base-renamed t c =
      base-agrees (renamed f t) t (λ x. Unit {0}) (λ x bs b p e h. tt) (λ x p. bases_of-renamed t x) (λ x p. lin-renamed t x) (λ x p. is_solid-renamed t x) c tt (λ b p. solid-renamed t b)

  pub best_of-renamed : (t : Classes K) (bs : List ℕ) → best_of (renamed f t) bs ≡ best_of t bs
  best_of-renamed t bs =
      first_best-agrees (renamed f t) t (λ x. Unit {0}) (λ x bs b p e h. tt) (λ x p. bases_of-renamed t x) (λ x p. lin-renamed t x) (λ x p. is_solid-renamed t x) (solid (renamed f t)) (solid t) bs bs (λ b h. solid-renamed t b) (λ b d h k. tt) (λ b h. h)

  layout_along-renamed : (t : Classes K) (line : List ℕ) → layout_along (renamed f t) line ≡ layout_along t line
  layout_along-renamed t [] = refl
  layout_along-renamed t (c ∷ line) =
      ap (λ cs. cs ++ cond (is_solid (renamed f t) c) (c ∷ []) []) (layout_along-renamed t line) ∙ ap (λ b. layout_along t line ++ cond b (c ∷ []) []) (is_solid-renamed t c)

  pub layout-renamed : (t : Classes K) (c : ℕ) → layout (renamed f t) c ≡ layout t c
  layout-renamed t c =
      bind-agrees (λ line. Some (layout_along (renamed f t) line)) (λ line. Some (layout_along t line)) (lin (renamed f t) c) (lin t c) (lin-renamed t c) (λ line e. ap Some (layout_along-renamed t line))

  pub is_place-renamed : (t : Classes K) (c d i : ℕ) → is_place (renamed f t) c d i ≡ is_place t c d i
  is_place-renamed t c d i =
      ap (λ o. is_along d o && nat_lt i (member_count (class_at (renamed f t) d))) (layout-renamed t c) ∙ ap (λ n. is_along d (layout t c) && nat_lt i n) (at-renamed member_count member_count refl (λ k. length-map k.members f) t d)

  pub subclasses-renamed : (t : Classes K) (c : ℕ) → subclasses (renamed f t) c ≡ subclasses t c
  subclasses-renamed [] c = refl
  subclasses-renamed (k ∷ t) c =
      ap (λ ds. cond (has k.bases c) (k.number ∷ ds) ds) (subclasses-renamed t c)

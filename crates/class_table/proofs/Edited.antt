-- A class whose own attributes are changed, and nothing else of it: what follows of the others, and of each slot that the change does not touch.
use Rattle.class_table.proofs.Below.{ℕ, Bool, true, false, cond, eqb, List, [], map, length, Some, None, refl, sym, ap, ◌∙◌, nat_lt, option_map, All, AllByRecursion, IsDistinct, keys_of, false≢true, eqb-true, eq-eqb, PyObjectRef, PyStrInterned, SlotId, value_of, with_value, without_key, is_same_name, AreNamesDistinct, names_of, has, Class, Classes, class_at, bases_of, lin, own_of, subclasses, has_members, is_solid, solid_within, solid, base, place_count, built_ins, is_one_of, is_name_of, is_heap_at, entry, entries, natives_of, with_changed, AreSound, Includes-equal, Decides-has, at-changed, at-changed_away, length-changed, entry-agrees, entries-along, solid_within-same, base-agrees, lin-kept, member_count-kept, sound-kept, table_keys}
use Rattle.std.proofs.Common.{◌≡◌, ◌||◌, ◌∷◌}
use Rattle.class_table.proofs.Counts.{count-agrees}
use Rattle.class_table.proofs.Distinct.{distinct-set, all-changed}

abbrev pub Attrs : Type 0
Attrs = List (PyStrInterned × PyObjectRef)

-- a change of attributes that touches one name alone, and leaves none twice
pub record TouchesOnly (n : PyStrInterned) (g : Attrs → Attrs) : Type 0 where
  pub others : (test : PyStrInterned → Bool) → ((a : PyStrInterned) → is_same_name a n ≡ true → test a ≡ false) → test n ≡ false → (attrs : Attrs) → value_of test (g attrs) ≡ value_of test attrs
  pub distinct : (attrs : Attrs) → AreNamesDistinct attrs → AreNamesDistinct (g attrs)

-- an attribute that is set
set-others : (n : PyStrInterned) (v : PyObjectRef) (test : PyStrInterned → Bool) → ((a : PyStrInterned) → is_same_name a n ≡ true → test a ≡ false) → test n ≡ false → (attrs : Attrs) → value_of test (with_value is_same_name attrs n v) ≡ value_of test attrs
set-others n v test h e [] = ap (λ b. cond b (Some v) None) e
set-others n v test h e (a ∷ attrs) = go (is_same_name a.0 n) refl (set-others n v test h e attrs)
  where
    go : (b : Bool) → is_same_name a.0 n ≡ b → value_of test (with_value is_same_name attrs n v) ≡ value_of test attrs → value_of test (cond b ((a.0, v) ∷ attrs) (a ∷ with_value is_same_name attrs n v)) ≡ cond (test a.0) (Some a.1) (value_of test attrs)
    go true k more = let f = h a.0 k in ap (λ b. cond b (Some v) (value_of test attrs)) f ∙ ap (λ b. cond b (Some a.1) (value_of test attrs)) (sym f)
    go false k more = ap (cond (test a.0) (Some a.1)) more

pub setting : (n : PyStrInterned) (v : PyObjectRef) → TouchesOnly n (λ attrs. with_value is_same_name attrs n v)
setting n v = record { others = set-others n v; distinct = λ attrs d. distinct-set attrs n v d }

-- an attribute that is taken out
taken-others : (n : PyStrInterned) (test : PyStrInterned → Bool) → ((a : PyStrInterned) → is_same_name a n ≡ true → test a ≡ false) → (attrs : Attrs) → value_of test (without_key is_same_name attrs n) ≡ value_of test attrs
taken-others n test h [] = refl
taken-others n test h (a ∷ attrs) = go (is_same_name a.0 n) refl (taken-others n test h attrs)
  where
    go : (b : Bool) → is_same_name a.0 n ≡ b → value_of test (without_key is_same_name attrs n) ≡ value_of test attrs → value_of test (cond b (without_key is_same_name attrs n) (a ∷ without_key is_same_name attrs n)) ≡ cond (test a.0) (Some a.1) (value_of test attrs)
    go true k more = more ∙ ap (λ b. cond b (Some a.1) (value_of test attrs)) (sym (h a.0 k))
    go false k more = ap (cond (test a.0) (Some a.1)) more

fewer-all : (P : PyStrInterned → Type 0) (n : PyStrInterned) (attrs : Attrs) → AllByRecursion P (keys_of attrs) → AllByRecursion P (keys_of (without_key is_same_name attrs n))
fewer-all P n [] all = tt
fewer-all P n (a ∷ attrs) all = go (is_same_name a.0 n) (fewer-all P n attrs all.1)
  where
    go : (b : Bool) → AllByRecursion P (keys_of (without_key is_same_name attrs n)) → AllByRecursion P (keys_of (cond b (without_key is_same_name attrs n) (a ∷ without_key is_same_name attrs n)))
    go true more = more
    go false more = (all.0, more)

taken-distinct : (n : PyStrInterned) (attrs : Attrs) → AreNamesDistinct attrs → AreNamesDistinct (without_key is_same_name attrs n)
unfolding IsDistinct
taken-distinct n [] d = tt
taken-distinct n (a ∷ attrs) d = go (is_same_name a.0 n) (taken-distinct n attrs d.1)
  where
    go : (b : Bool) → AreNamesDistinct (without_key is_same_name attrs n) → AreNamesDistinct (cond b (without_key is_same_name attrs n) (a ∷ without_key is_same_name attrs n))
    go true more = more
    go false more = (fewer-all (λ y. is_same_name a.0 y ≡ false) n attrs d.0, more)

pub taking : (n : PyStrInterned) → TouchesOnly n (λ attrs. without_key is_same_name attrs n)
taking n = record { others = λ test h e attrs. taken-others n test h attrs; distinct = taken-distinct n }

-- what is not there is not taken out
pub taken-absent : (n : PyStrInterned) (attrs : Attrs) → value_of (λ k. is_same_name k n) attrs ≡ None → without_key is_same_name attrs n ≡ attrs
taken-absent n [] e = refl
taken-absent n (a ∷ attrs) e = go (is_same_name a.0 n) (taken-absent n attrs) e
  where
    go : (b : Bool) → (value_of (λ k. is_same_name k n) attrs ≡ None → without_key is_same_name attrs n ≡ attrs) → cond b (Some a.1) (value_of (λ k. is_same_name k n) attrs) ≡ None → cond b (without_key is_same_name attrs n) (a ∷ without_key is_same_name attrs n) ≡ a ∷ attrs
    go true more e = cc
    go false more e = ap (λ r. a ∷ r) (more e)

-- what was set anew is taken out again
back : (n : PyStrInterned) (v : PyObjectRef) (attrs : Attrs) → value_of (λ k. is_same_name k n) attrs ≡ None → without_key is_same_name (with_value is_same_name attrs n v) n ≡ attrs
back n v [] e = ap (λ b. cond b [] ((n, v) ∷ [])) (eq-eqb n.0 n.0 refl)
back n v (a ∷ attrs) e = go (is_same_name a.0 n) refl (back n v attrs) e
  where
    go : (b : Bool) → is_same_name a.0 n ≡ b → (value_of (λ k. is_same_name k n) attrs ≡ None → without_key is_same_name (with_value is_same_name attrs n v) n ≡ attrs) → cond b (Some a.1) (value_of (λ k. is_same_name k n) attrs) ≡ None → without_key is_same_name (cond b ((a.0, v) ∷ attrs) (a ∷ with_value is_same_name attrs n v)) n ≡ a ∷ attrs
    go true h more e = cc
    go false h more e =
        ap (λ b. cond b (without_key is_same_name (with_value is_same_name attrs n v) n) (a ∷ without_key is_same_name (with_value is_same_name attrs n v) n)) h ∙ ap (λ r. a ∷ r) (more e)

-- a class with its own attributes changed
abbrev pub edited : (Attrs → Attrs) → Class PyStrInterned → Class PyStrInterned
edited g k = record k { attrs = g k.attrs }

pub set-back : (t : Classes PyStrInterned) (c : ℕ) (n : PyStrInterned) (v : PyObjectRef) → own_of (λ k. is_same_name k n) (class_at t c) ≡ None → with_changed (edited (λ attrs. without_key is_same_name attrs n)) (with_changed (edited (λ attrs. with_value is_same_name attrs n v)) t c) c ≡ t
set-back [] c n v e = refl
set-back (k ∷ t) c n v e = go (eqb k.number c) refl (set-back t c n v) e
  where
    go : (b : Bool) → eqb k.number c ≡ b → (own_of (λ k. is_same_name k n) (class_at t c) ≡ None → with_changed (edited (λ attrs. without_key is_same_name attrs n)) (with_changed (edited (λ attrs. with_value is_same_name attrs n v)) t c) c ≡ t) → own_of (λ k. is_same_name k n) (cond b (Some k) (class_at t c)) ≡ None → with_changed (edited (λ attrs. without_key is_same_name attrs n)) (cond b (edited (λ attrs. with_value is_same_name attrs n v) k ∷ t) (k ∷ with_changed (edited (λ attrs. with_value is_same_name attrs n v)) t c)) c ≡ k ∷ t
    go true q more e =
        ap (λ b. cond b (edited (λ attrs. without_key is_same_name attrs n) (edited (λ attrs. with_value is_same_name attrs n v) k) ∷ t) (edited (λ attrs. with_value is_same_name attrs n v) k ∷ with_changed (edited (λ attrs. without_key is_same_name attrs n)) t c)) q
        ∙ ap (λ (ys : Attrs). record k { attrs = ys } ∷ t) (back n v k.attrs e)
    go false q more e =
        ap (λ b. cond b (edited (λ attrs. without_key is_same_name attrs n) k ∷ with_changed (edited (λ attrs. with_value is_same_name attrs n v)) t c) (k ∷ with_changed (edited (λ attrs. without_key is_same_name attrs n)) (with_changed (edited (λ attrs. with_value is_same_name attrs n v)) t c) c)) q
        ∙ ap (λ (u : Classes PyStrInterned). k ∷ u) (more e)

-- a change that leaves the class as it was leaves the table so
pub left-alone : (g : Attrs → Attrs) (t : Classes PyStrInterned) (c : ℕ) (k : Class PyStrInterned) → class_at t c ≡ Some k → g k.attrs ≡ k.attrs → with_changed (edited g) t c ≡ t
left-alone g [] c k e h = refl
left-alone g (j ∷ t) c k e h = go (eqb j.number c) (left-alone g t c k) e
  where
    go : (b : Bool) → (class_at t c ≡ Some k → g k.attrs ≡ k.attrs → with_changed (edited g) t c ≡ t) → cond b (Some j) (class_at t c) ≡ Some k → cond b (edited g j ∷ t) (j ∷ with_changed (edited g) t c) ≡ j ∷ t
    go true more e =
        let s : j ≡ k = cc in
        ap (λ (ys : Attrs). record j { attrs = ys } ∷ t) (ap (λ (z : Class PyStrInterned). g z.attrs) s ∙ h ∙ ap (λ (z : Class PyStrInterned). z.attrs) (sym s))
    go false more e = ap (λ (u : Classes PyStrInterned). j ∷ u) (more e h)

alike : (a b x : PyStrInterned) → is_same_name a b ≡ true → is_same_name a x ≡ is_same_name b x
alike a b x e = ap (λ n. eqb n x.0) (eqb-true a.0 b.0 e)

is_one_of-alike : (ns : List PyStrInterned) (a b : PyStrInterned) → is_same_name a b ≡ true → is_one_of is_same_name ns a ≡ is_one_of is_same_name ns b
is_one_of-alike [] a b e = refl
is_one_of-alike (n ∷ ns) a b e = cc (alike a b n e, is_one_of-alike ns a b e)

module _ (g : Attrs → Attrs) (t : Classes PyStrInterned) (c : ℕ) where
  bases-edited : (x : ℕ) → bases_of (with_changed (edited g) t c) x ≡ bases_of t x
  bases-edited x = at-changed (edited g) (λ k. refl) (option_map (λ (k : Class PyStrInterned). k.bases)) (λ k. refl) t c x

  pub lin-edited : (x : ℕ) → lin (with_changed (edited g) t c) x ≡ lin t x
  lin-edited x = lin-kept (edited g) (λ k. refl) t c (λ k. refl) (λ k. refl) x

  is_solid-edited : (x : ℕ) → is_solid (with_changed (edited g) t c) x ≡ is_solid t x
  is_solid-edited x = ap (λ w. nat_lt x built_ins || w) (at-changed (edited g) (λ k. refl) has_members (λ k. refl) t c x)

  pub solid-edited : (x : ℕ) → solid (with_changed (edited g) t c) x ≡ solid t x
  solid-edited x =
      solid_within-same (with_changed (edited g) t c) t (λ x. Unit {0}) (λ x bs b p e h. tt) (λ x p. bases-edited x) (λ x p. lin-edited x) (λ x p. is_solid-edited x) (length (with_changed (edited g) t c)) x tt
      ∙ ap (λ m. solid_within t m x) (length-changed (edited g) (λ k. refl) t c)

  pub base-edited : (x : ℕ) → base (with_changed (edited g) t c) x ≡ base t x
  base-edited x =
      base-agrees (with_changed (edited g) t c) t (λ x. Unit {0}) (λ x bs b p e h. tt) (λ x p. bases-edited x) (λ x p. lin-edited x) (λ x p. is_solid-edited x) x tt (λ b p. solid-edited b)

  pub sound-edited : AreSound t → AreSound (with_changed (edited g) t c)
  sound-edited ok = sound-kept (edited g) (λ k. refl) t c (λ k. refl) (λ k. refl) (λ k. refl) (λ k. refl) ok

  pub count-edited : (x : ℕ) (line : List ℕ) → lin t x ≡ Some line → place_count (with_changed (edited g) t c) x ≡ place_count t x
  count-edited x line e =
      count-agrees (with_changed (edited g) t c) t x line (lin-edited x ∙ e) e (λ z q. member_count-kept (edited g) (λ k. refl) t c (λ k. refl) z)

  -- a class that has the changed one not along its linearisation
  pub entries-away : (d : ℕ) (line : List ℕ) → lin t d ≡ Some line → has line c ≡ false → entries table_keys natives_of (with_changed (edited g) t c) d ≡ entries table_keys natives_of t d
  entries-away d line e h =
      sym (entries-along table_keys natives_of t (with_changed (edited g) t c) d line e (λ x k. sym (at-changed_away (edited g) (λ k. refl) t c x (λ i. false≢true (sym h ∙ (Decides-has line c).1 (Includes-equal line x c i k))))))

  -- a slot of which the name is none
  pub entry-other : (n : PyStrInterned) → TouchesOnly n g → (d : ℕ) (s : SlotId) → is_name_of table_keys s n ≡ false → entry table_keys natives_of (with_changed (edited g) t c) d s ≡ entry table_keys natives_of t d s
  entry-other n touches d s e =
      let test : (a : PyStrInterned) → is_same_name a n ≡ true → is_name_of table_keys s a ≡ false = λ a h. is_one_of-alike (map table_keys.special (names_of s)) a n h ∙ e in
      entry-agrees table_keys table_keys natives_of s (with_changed (edited g) t c) t (λ x. Unit {0}) (λ x l y p f h. tt) (λ x p. lin-edited x) (λ x p. at-changed (edited g) (λ k. refl) is_heap_at (λ k. refl) t c x) (λ x p. at-changed (edited g) (λ k. refl) (own_of (is_name_of table_keys s)) (λ k. touches.others (is_name_of table_keys s) test e k.attrs) t c x) d tt

  pub all-edited : (n : PyStrInterned) → TouchesOnly n g → All (λ k. AreNamesDistinct k.attrs) t → All (λ k. AreNamesDistinct k.attrs) (with_changed (edited g) t c)
  all-edited n touches all = all-changed (λ k. AreNamesDistinct k.attrs) (edited g) (λ k d. touches.distinct k.attrs d) t c all

pub subclasses-edited : (g : Attrs → Attrs) (t : Classes PyStrInterned) (c d : ℕ) → subclasses (with_changed (edited g) t c) d ≡ subclasses t d
subclasses-edited g [] c d = refl
subclasses-edited g (k ∷ t) c d =
    elim (eqb k.number c) as (λ b. subclasses (cond b (edited g k ∷ t) (k ∷ with_changed (edited g) t c)) d ≡ subclasses (k ∷ t) d) [ true ↦ refl | false ↦ ap (λ ys. cond (has k.bases d) (k.number ∷ ys) ys) (subclasses-edited g t c d) ]

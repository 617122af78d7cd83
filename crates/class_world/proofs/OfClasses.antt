-- Classes, as a reading has them, and what holds of their attributes.
use Rattle.class_world.proofs.Below.{ℕ, Bool, true, false, cond, eqb, length, List, [], Option, Some, None, refl, ap, subst, IfSome, ImmutableType, refused_attr, refused_layout, refused_bases, layout-alike, refused-alike, is_some, slice_get, option_map, option_and_then, bit_and, PyObjectRef, PyStrInterned, is_same_name, Text, Class, Classes, class_at, is_class, lin, has_flag, is_sub, own_of, or_else, along, found, past_first, found_past, rekeyed, is_heap_at, at-renamed, lin-renamed, is_sub-renamed, own_of-renamed, found-renamed, found_past-renamed, is_text, Node, slice_get_within, Held, Reading, spelled, plain, IsNode, IsClass, class_in, Holds, AllHold, Sound, of_class, of_dict, of_each}
use Rattle.std.proofs.Common.{◌≡◌, ◌<◌, ◌^◌, ◌∷◌}
use Rattle.std.specs.Prelude.{◌==◌}
use Rattle.class_world.proofs.Claims.{all-first, all-rest}
use Rattle.class_world.proofs.Bound.{value-holds}

abbrev HeldClass : Type 0
HeldClass = Class PyStrInterned

-- what is seen of the classes by numbers is seen by texts
module _ (w now : Held) (v : w ≡ now) (t : Reading) where
  pub found-seen : (c : ℕ) (x : PyStrInterned) → found is_text (plain t now).classes c (t.text x.0) ≡ found is_same_name w.classes c x
  unfolding plain
  found-seen c x =
      subst (λ n. found is_text (plain t n).classes c (t.text x.0) ≡ found is_same_name w.classes c x) v
      (found-renamed (spelled t) is_same_name is_text (λ a b. t.same a.0 b.0) w.classes c x)

  pub past-seen : (c : ℕ) (x : PyStrInterned) → found_past is_text (plain t now).classes c (t.text x.0) ≡ found_past is_same_name w.classes c x
  unfolding plain
  past-seen c x =
      subst (λ n. found_past is_text (plain t n).classes c (t.text x.0) ≡ found_past is_same_name w.classes c x) v
      (found_past-renamed (spelled t) is_same_name is_text (λ a b. t.same a.0 b.0) w.classes c x)

  pub own-seen : (c : ℕ) (x : PyStrInterned) → own_of (λ y. is_text y (t.text x.0)) (class_at (plain t now).classes c) ≡ own_of (λ k. is_same_name k x) (class_at w.classes c)
  unfolding plain
  own-seen c x =
      subst (λ n. own_of (λ y. is_text y (t.text x.0)) (class_at (plain t n).classes c) ≡ own_of (λ k. is_same_name k x) (class_at w.classes c)) v
      (own_of-renamed (spelled t) (λ y. is_text y (t.text x.0)) (λ k. is_same_name k x) (λ k. t.same k.0 x.0) w.classes c)

  pub sub-seen : (c d : ℕ) → is_sub (plain t now).classes c d ≡ is_sub w.classes c d
  unfolding plain
  sub-seen c d = subst (λ n. is_sub (plain t n).classes c d ≡ is_sub w.classes c d) v (is_sub-renamed (spelled t) w.classes c d)

  pub line-seen : (c : ℕ) → lin (plain t now).classes c ≡ lin w.classes c
  unfolding plain
  line-seen c = subst (λ n. lin (plain t n).classes c ≡ lin w.classes c) v (lin-renamed (spelled t) w.classes c)

  -- what does not see the names of attributes
  pub class-seen : {A : Type 0} (g : Option (Class Text) → A) (h : Option HeldClass → A) → g None ≡ h None → ((k : HeldClass) → g (Some (rekeyed (spelled t) k)) ≡ h (Some k)) → (c : ℕ) → g (class_at (plain t now).classes c) ≡ h (class_at w.classes c)
  unfolding plain
  class-seen g h e i c = subst (λ n. g (class_at (plain t n).classes c) ≡ h (class_at w.classes c)) v (at-renamed (spelled t) g h e i w.classes c)

  pub heap-seen : (c : ℕ) → is_heap_at (class_at (plain t now).classes c) ≡ is_heap_at (class_at w.classes c)
  heap-seen c = class-seen is_heap_at is_heap_at refl (λ k. refl) c

  pub flag-seen : (c flag : ℕ) → option_map (λ (k : Class Text). has_flag flag k) (class_at (plain t now).classes c) ≡ option_map (λ (k : HeldClass). has_flag flag k) (class_at w.classes c)
  flag-seen c flag = class-seen (option_map (λ (k : Class Text). has_flag flag k)) (option_map (λ (k : HeldClass). has_flag flag k)) refl (λ k. refl) c

  pub there-seen : (c : ℕ) → is_class (plain t now).classes c ≡ is_class w.classes c
  there-seen c = class-seen is_some is_some refl (λ k. refl) c

  pub bases-seen : (bs : List ℕ) → refused_bases (plain t now).classes bs ≡ refused_bases w.classes bs
  unfolding plain
  bases-seen bs = subst (λ n. refused_bases (plain t n).classes bs ≡ refused_bases w.classes bs) v (refused-alike (spelled t) w.classes bs)

  pub layout-seen : (bs : List ℕ) → refused_layout (plain t now).classes bs ≡ refused_layout w.classes bs
  unfolding plain
  layout-seen bs = subst (λ n. refused_layout (plain t n).classes bs ≡ refused_layout w.classes bs) v (layout-alike (spelled t) w.classes bs)

-- a class's flags, and one of them
pub flag-of : (o : Option HeldClass) (flags flag : ℕ) → option_map (λ (k : HeldClass). k.flags) o ≡ Some flags → option_map (λ (k : HeldClass). has_flag flag k) o ≡ Some (bit_and flags flag == flag)
flag-of None flags flag e = cc
flag-of (Some k) flags flag e = let same : k.flags ≡ flags = cc in ap (λ n. Some (bit_and n flag == flag)) same

pub refused-seen : (w now : Held) → w ≡ now → (t : Reading) → (c : ℕ) → refused_attr (plain t now).classes c ≡ refused_attr w.classes c
refused-seen w now v t c = ap (λ b. cond b None (Some ImmutableType)) (heap-seen w now v t c)

-- the nodes of classes and of their attributes
module _ (w : Held) where
  own-holds : (test : PyStrInterned → Bool) (ks : Classes PyStrInterned) (c : ℕ) → AllHold w (of_each of_class ks) → IfSome (own_of test (class_at ks c)) (λ r. Holds w (IsNode r))
  own-holds test [] c h = tt
  own-holds test (k ∷ ks) c h =
      elim (eqb k.number c) as (λ b. IfSome (own_of test (cond b (Some k) (class_at ks c))) (λ r. Holds w (IsNode r))) [
        | true ↦ value-holds w test k.attrs (all-rest w (of_dict (has_flag (2 ^ 40) k)) _ (all-first w (of_class k) (of_each of_class ks) h).1.1)
        | false ↦ own-holds test ks c (all-rest w (of_class k) _ h)
      ]

  or-holds : (a b : Option PyObjectRef) → IfSome a (λ r. Holds w (IsNode r)) → IfSome b (λ r. Holds w (IsNode r)) → IfSome (or_else a b) (λ r. Holds w (IsNode r))
  or-holds None b h k = k
  or-holds (Some r) b h k = h

  along-holds : (test : PyStrInterned → Bool) (ks : Classes PyStrInterned) (line : List ℕ) → AllHold w (of_each of_class ks) → IfSome (along test ks line) (λ r. Holds w (IsNode r))
  along-holds test ks [] h = tt
  along-holds test ks (c ∷ line) h = or-holds (own_of test (class_at ks c)) (along test ks line) (own-holds test ks c h) (along-holds test ks line h)

  bind-holds : (o : Option (List ℕ)) (f : List ℕ → Option PyObjectRef) → ((line : List ℕ) → IfSome (f line) (λ r. Holds w (IsNode r))) → IfSome (option_and_then f o) (λ r. Holds w (IsNode r))
  bind-holds None f h = tt
  bind-holds (Some line) f h = h line

module _ (w now : Held) (v : w ≡ now) (s : Sound w) (c : ℕ) (x : PyStrInterned) where
  seen-some : (o : Option PyObjectRef) → IfSome o (λ r. Holds w (IsNode r)) → IfSome o (λ r. Holds now (IsNode r))
  seen-some o h = subst (λ n. IfSome o (λ r. Holds n (IsNode r))) v h

  pub found-there : IfSome (found is_same_name w.classes c x) (λ r. Holds now (IsNode r))
  found-there =
      seen-some (found is_same_name w.classes c x) (bind-holds w (lin w.classes c) (along (λ k. is_same_name k x) w.classes) (λ line. along-holds w (λ k. is_same_name k x) w.classes line s.classes))

  pub past-there : IfSome (found_past is_same_name w.classes c x) (λ r. Holds now (IsNode r))
  past-there =
      seen-some (found_past is_same_name w.classes c x) (bind-holds w (lin w.classes c) (λ line. along (λ k. is_same_name k x) w.classes (past_first line)) (λ line. along-holds w (λ k. is_same_name k x) w.classes (past_first line) s.classes))

  pub own-there : IfSome (own_of (λ k. is_same_name k x) (class_at w.classes c)) (λ r. Holds now (IsNode r))
  own-there = seen-some (own_of (λ k. is_same_name k x) (class_at w.classes c)) (own-holds w (λ k. is_same_name k x) w.classes c s.classes)

-- the object of a class is there
pub node-there : (w now : Held) (c : ℕ) → w ≡ now → Sound w → Holds w (IsClass c) → Holds now (IsNode (record { 0 = c }))
unfolding Holds
node-there w now c v s h = subst (λ n. c < length n.nodes) v (go (slice_get w.nodes c) refl (s.standing c h))
  where
    go : (o : Option Node) → slice_get w.nodes c ≡ o → option_and_then (λ (x : Node). class_in x.payload) o ≡ Some c → c < length w.nodes
    go None e h = cc
    go (Some x) e h = slice_get_within w.nodes c x e

-- Other bases for a class: why they are refused, as a reading has the classes, and what they make of a world.
use Rattle.class_world.proofs.Below.{ℕ, Bool, true, cond, List, [], map, Option, Some, None, Result, Ok, Err, OnOk, OnErr, refl, sym, ap, ◌∙◌, subst, is_some, IsSome, is_none, option_map, option_and_then, option_or, Cause, EmptyBases, ImmutableType, InheritanceCycle, LayoutDiffers, DuplicateBase, PyStrInterned, all_some, is_distinct, Class, Classes, class_at, is_class, bases_of, lin, is_sub, renamed, with_bases, order_cause, blamed_along, caused, failing, is_empty, solid, best_of, base, is_heap_at, AreSound, alike, has_dict, dict_with, keeps_dict, bind-agrees, at-changed, any_has_dict-agrees, has_dict-renamed, is_class-kept, member_count-kept, at-renamed, bases_of-renamed, lin-renamed, is_sub-renamed, solid-renamed, base-renamed, best_of-renamed, ClassFault, Refused, RefusedAt, OutOfMemory, WithMemory, AreThere, refused_attr, refused_layout, most_derived, any_derives, is_same, unless, refused_shape, refused_change, refused_rebase, Refusal, told, IsToldFirst, layout-passed, layout-alike, SetBases, apply, offset-agrees, Change, Keeps, Held, Reading, spelled, plain, AllHold, SoundWith, Sound, of_class, of_each, of_node}
use Rattle.std.proofs.Common.{◌≡◌, ◌||◌, ◌&&◌, ◌∷◌}
use Rattle.class_world.proofs.ChangedClass.{changed-read, changed-holds, change-read}
use Rattle.class_world.proofs.ClassChanges.{AreStanding, SameFlags, classes-sound}
use Rattle.class_world.proofs.Growth.{Like, like-itself}
use Rattle.class_world.proofs.SameLayout.{held_by-layout}

abbrev HeldClass : Type 0
HeldClass = Class PyStrInterned

-- under other keys
module _ {K L : Type 0} (f : K → L) (t : Classes K) where
  derives-alike : (bs : List ℕ) (c : ℕ) → any_derives (renamed f t) bs c ≡ any_derives t bs c
  derives-alike [] c = refl
  derives-alike (b ∷ bs) c =
      ap (λ v. v || any_derives (renamed f t) bs c) (is_sub-renamed f t b c) ∙ ap (λ v. is_sub t b c || v) (derives-alike bs c)

  keeps-alike : (c : ℕ) (bs : List ℕ) → keeps_dict (renamed f t) c bs ≡ keeps_dict t c bs
  keeps-alike c bs =
      let u = renamed f t in
      let any = any_has_dict-agrees u t bs (λ b h. has_dict-renamed f t b) in
      let own : dict_with u (class_at u c) bs ≡ dict_with t (class_at t c) bs = at-renamed f (λ o. dict_with u o bs) (λ o. dict_with t o bs) refl (λ k. ap (λ b. k.brings || b) any) t c in
      ap (λ b. alike b (has_dict u c)) own ∙ ap (alike (dict_with t (class_at t c) bs)) (has_dict-renamed f t c)

  shape-alike : (c : ℕ) (bs : List ℕ) → refused_shape (renamed f t) c bs ≡ refused_shape t c bs
  shape-alike c bs =
      let u = renamed f t in
      let new : most_derived u bs ≡ most_derived t bs = bind-agrees (solid u) (solid t) (best_of u bs) (best_of t bs) (best_of-renamed f t bs) (λ x e. solid-renamed f t x) in
      let old : option_and_then (solid u) (base u c) ≡ option_and_then (solid t) (base t c) = bind-agrees (solid u) (solid t) (base u c) (base t c) (base-renamed f t c) (λ x e. solid-renamed f t x) in
      let rest : Option ℕ → Option ℕ → Bool → Option Cause = λ o p b. option_or (unless (is_same o p) LayoutDiffers) (option_or (unless b LayoutDiffers) (unless (is_distinct bs) DuplicateBase)) in
      ap (λ o. option_or o (rest (most_derived u bs) (option_and_then (solid u) (base u c)) (keeps_dict u c bs))) (layout-alike f t bs)
      ∙ ap (λ o. option_or (refused_layout t bs) (rest o (option_and_then (solid u) (base u c)) (keeps_dict u c bs))) new
      ∙ ap (λ o. option_or (refused_layout t bs) (rest (most_derived t bs) o (keeps_dict u c bs))) old
      ∙ ap (λ b. option_or (refused_layout t bs) (rest (most_derived t bs) (option_and_then (solid t) (base t c)) b)) (keeps-alike c bs)

  change-alike : (c : ℕ) (bs : List ℕ) → refused_change (renamed f t) c bs ≡ refused_change t c bs
  change-alike c bs =
      let u = renamed f t in
      let empty : Option Cause = cond (is_empty bs) (Some EmptyBases) None in
      let late : Bool → Option Cause → Option Cause = λ b shape. option_or empty (option_or (cond b (Some InheritanceCycle) None) shape) in
      ap (λ b. option_or (cond b None (Some ImmutableType)) (late (any_derives u bs c) (refused_shape u c bs))) (at-renamed f is_heap_at is_heap_at refl (λ k. refl) t c)
      ∙ ap (λ b. option_or (refused_attr t c) (late b (refused_shape u c bs))) (derives-alike bs c)
      ∙ ap (λ o. option_or (refused_attr t c) (late (any_derives t bs c) o)) (shape-alike c bs)

  lines-alike : ◌≡◌ {A = ℕ → Option (List ℕ)} (lin (renamed f t)) (lin t)
  lines-alike = λ i c. lin-renamed f t c i

  blamed-alike : (ks : Classes K) → blamed_along (renamed f t) (renamed f ks) ≡ blamed_along t ks
  blamed-alike [] = refl
  blamed-alike (k ∷ ks) =
      ap (λ l. cond (is_some (all_some (map l k.bases)) && is_none (l k.number)) (Some k.number) (blamed_along (renamed f t) (renamed f ks))) lines-alike
      ∙ ap (cond (is_some (all_some (map (lin t) k.bases)) && is_none (lin t k.number)) (Some k.number)) (blamed-alike ks)

  caused-alike : (d : ℕ) → caused (renamed f t) d ≡ caused t d
  caused-alike d =
      let by : (ℕ → Option (List ℕ)) → Option (List ℕ) → Option (ℕ × Cause) = λ l o. option_and_then (λ bs. option_map (λ lines. (d, order_cause bs lines)) (all_some (map l bs))) o in
      ap (λ l. by l (bases_of (renamed f t) d)) lines-alike ∙ ap (by (lin t)) (bases_of-renamed f t d)

-- the least-numbered class that is to blame, and the cause
abbrev blame : {K : Type 0} → Classes K → Option (ℕ × Cause)
blame t = option_and_then (caused t) (blamed_along t t)

blame-alike : {K L : Type 0} (f : K → L) (t : Classes K) → blame (renamed f t) ≡ blame t
blame-alike f t =
    bind-agrees (caused (renamed f t)) (caused t) (blamed_along (renamed f t) (renamed f t)) (blamed_along t t) (blamed-alike f t t) (λ d e. caused-alike f t d)

module _ (t : Reading) (ks : List HeldClass) (c : ℕ) (bs : List ℕ) where
  bases-read : renamed (spelled t) (with_bases ks c bs) ≡ with_bases (renamed (spelled t) ks) c bs
  bases-read = changed-read t (λ k. record k { bases = bs }) (λ k. record k { bases = bs }) (λ k. refl) ks c

  rebase-read : refused_rebase (renamed (spelled t) ks) c bs ≡ refused_rebase ks c bs
  rebase-read =
      let failed : failing (renamed (spelled t) ks) c bs ≡ failing ks c bs = ap blame (sym bases-read) ∙ blame-alike (spelled t) (with_bases ks c bs) in
      let both : Option Cause → Option (ℕ × Cause) → Option Refusal = λ early late. option_or (option_map (λ cause. (cause, None)) early) (option_map (λ r. (r.1, Some r.0)) late) in
      ap (λ o. both o (failing (renamed (spelled t) ks) c bs)) (change-alike (spelled t) ks c bs) ∙ ap (both (refused_change ks c bs)) failed

module _ (w now : Held) (v : w ≡ now) (c : ℕ) (bs : List ℕ) where
  pub first-seen : (answer : Option Refusal) → IsToldFirst w.classes c bs answer → (t : Reading) → IsToldFirst (plain t now).classes c bs answer
  unfolding plain
  first-seen answer h t =
      subst (λ n. IsToldFirst (plain t n).classes c bs answer) v (λ cause e. h cause (sym (change-alike (spelled t) w.classes c bs) ∙ e))

  -- what is so wherever a test fails that needs no order
  pub early-seen : {P : Type 0} → (IsSome (refused_change w.classes c bs) → P) → (t : Reading) → IsSome (refused_change (plain t now).classes c bs) → P
  unfolding plain
  early-seen h t e =
      let same : refused_change (plain t now).classes c bs ≡ refused_change w.classes c bs = subst (λ n. refused_change (plain t n).classes c bs ≡ refused_change w.classes c bs) v (change-alike (spelled t) w.classes c bs) in
      h (ap is_some (sym same) ∙ e)

  rebase-seen : (t : Reading) → refused_rebase (plain t now).classes c bs ≡ refused_rebase w.classes c bs
  unfolding plain
  rebase-seen t = subst (λ n. refused_rebase (plain t n).classes c bs ≡ refused_rebase w.classes c bs) v (rebase-read t w.classes c bs)

  pub told-seen : {T : Type 0} (r : Result T ClassFault) → WithMemory r (told r ≡ refused_rebase w.classes c bs) → (t : Reading) → WithMemory r (told r ≡ refused_rebase (plain t now).classes c bs)
  told-seen (Ok x) h t = h ∙ sym (rebase-seen t)
  told-seen (Err (Refused cause)) h t = h ∙ sym (rebase-seen t)
  told-seen (Err (RefusedAt cause k)) h t = h ∙ sym (rebase-seen t)
  told-seen (Err OutOfMemory) h t = tt

-- the bases were changed, or the change was refused
module _ (w : Held) (c : ℕ) (bs : List ℕ) (ok : AreSound w.classes) (here : is_class w.classes c ≡ true) (there : AreThere w.classes bs) where
  passed-like : refused_rebase w.classes c bs ≡ None → Like w.classes (with_bases w.classes c bs)
  passed-like e =
      let f : HeldClass → HeldClass = λ k. record k { bases = bs } in
      let u = with_bases w.classes c bs in
      let same = layout-passed w.classes ok c bs here there e in record {
        held = λ d b h. held_by-layout u w.classes d d (same d) ∙ h;
        there = λ d h. is_class-kept f (λ k. refl) w.classes c d ∙ h;
        layouts = λ d xs h. same d ∙ h;
        counts = λ d h. member_count-kept f (λ k. refl) w.classes c (λ k. refl) d;
        offsets = λ d o h. offset-agrees u w.classes d o (same d) (member_count-kept f (λ k. refl) w.classes c (λ k. refl)) ∙ h;
        flags = λ d h. at-changed f (λ k. refl) (option_map (λ (k : HeldClass). k.flags)) (λ k. refl) w.classes c d;
      }

  pub bases-like : {T : Type 0} (ks : List HeldClass) (o : Result T ClassFault) → OnOk o (ks ≡ with_bases w.classes c bs) → OnErr o (ks ≡ w.classes) → WithMemory o (told o ≡ refused_rebase w.classes c bs) → Like w.classes ks
  bases-like ks (Ok a) p q h = subst (Like w.classes) (sym p) (passed-like (sym h))
  bases-like ks (Err e) p q h = subst (Like w.classes) (sym q) (like-itself w.classes)

  pub bases-sound : {T More : Type 0} (ks : List HeldClass) (log : List Change) → Keeps w.log log → More → (o : Result T ClassFault) → OnOk o (ks ≡ with_bases w.classes c bs) → OnErr o (ks ≡ w.classes) → WithMemory o (told o ≡ refused_rebase w.classes c bs) → Sound w → SoundWith More (record w { classes = ks; log = log })
  bases-sound {T = T} ks log keeps said (Ok a) p q h s =
      let f : HeldClass → HeldClass = λ k. record k { bases = bs } in
      classes-sound w ks log keeps said (bases-like {T = T} ks (Ok a) p q h) (subst (SameFlags w.classes) (sym p) (λ d. at-changed f (λ k. refl) (option_map (λ (k : HeldClass). k.flags)) (λ k. refl) w.classes c d)) (subst (λ ks. AllHold w (of_each of_class ks)) (sym p) (changed-holds w f (λ k h. h) w.classes c s.classes))
      (subst (AreStanding w) (sym p) (λ d e. s.standing d (sym (is_class-kept f (λ k. refl) w.classes c d) ∙ e))) s
  bases-sound {T = T} ks log keeps said (Err e) p q h s =
      classes-sound w ks log keeps said (bases-like {T = T} ks (Err e) p q h) (subst (SameFlags w.classes) (sym q) (λ d. refl)) (subst (λ ks. AllHold w (of_each of_class ks)) (sym q) s.classes) (subst (AreStanding w) (sym q) s.standing) s

pub bases-set : {T E : Type 0} (w now : Held) (c : ℕ) (bs : List ℕ) (ks : List HeldClass) (log : List Change) (o : Result T E) → OnOk o (ks ≡ with_bases w.classes c bs) → Like w.classes ks → AllHold w (of_each of_node w.nodes) → w ≡ now → OnOk o ((t : Reading) → plain t (record w { classes = ks; log = log }) ≡ apply (plain t now) (SetBases c bs))
bases-set w now c bs ks log o p l h v = change-read (λ k. record k { bases = bs }) (λ t k. record k { bases = bs }) (λ t k. refl) w now c ks log o p l h v

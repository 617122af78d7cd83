-- One class that is changed, and keeps its number, its bases and its members.
use Rattle.class_world.proofs.Below.{ℕ, true, false, cond, eqb, List, [], Some, Result, Ok, Err, OnOk, OnErr, IfOk, refl, sym, ap, ◌∙◌, subst, is_some, option_map, PyStrInterned, without_key, is_same_name, Text, Class, Classes, class_at, own_of, has_flag, rekeyed, renamed, with_changed, without_class_attr, with_class_name, at-changed, is_class-kept, lin-kept, member_count-kept, layout-same, is_text, SetName, apply, without_own_attr, offset-kept, Change, Keeps, Held, Reading, Reads, spelled, plain, AllHold, SoundWith, Sound, of_binding, of_class, of_dict, of_each, of_node}
use Rattle.std.proofs.Common.{◌≡◌, ◌^◌, ◌∷◌}
use Rattle.std.specs.Prelude.{Bool}
use Rattle.class_world.proofs.Claims.{all-append, all-first, all-rest}
use Rattle.class_world.proofs.Homes.{by_line}
use Rattle.class_world.proofs.Growth.{Like, like-itself}
use Rattle.class_world.proofs.Bound.{without_key-read, without_key-holds}
use Rattle.class_world.proofs.ClassChanges.{AreStanding, SameFlags, classes-sound}
use Rattle.class_world.proofs.OfClasses.{own-seen}
use Rattle.class_world.proofs.SamePlaces.{classes-read}

abbrev HeldClass : Type 0
HeldClass = Class PyStrInterned

-- a class that is changed under its numbers is changed so under its texts
pub changed-read : (t : Reading) (f : HeldClass → HeldClass) (g : Class Text → Class Text) → ((k : HeldClass) → rekeyed (spelled t) (f k) ≡ g (rekeyed (spelled t) k)) → (ks : List HeldClass) (c : ℕ) → renamed (spelled t) (with_changed f ks c) ≡ with_changed g (renamed (spelled t) ks) c
changed-read t f g same [] c = refl
changed-read t f g same (k ∷ ks) c =
    elim (eqb k.number c) as (λ b. renamed (spelled t) (cond b (f k ∷ ks) (k ∷ with_changed f ks c)) ≡ cond b (g (rekeyed (spelled t) k) ∷ renamed (spelled t) ks) (rekeyed (spelled t) k ∷ with_changed g (renamed (spelled t) ks) c)) [
      | true ↦ ap (λ k. k ∷ renamed (spelled t) ks) (same k)
      | false ↦ ap (λ ks. rekeyed (spelled t) k ∷ ks) (changed-read t f g same ks c)
    ]

-- and so in the plain world, unless the change was refused
pub change-read : {A E : Type 0} (f : HeldClass → HeldClass) (g : Reading → Class Text → Class Text) → ((t : Reading) (k : HeldClass) → rekeyed (spelled t) (f k) ≡ g t (rekeyed (spelled t) k)) → (w now : Held) (c : ℕ) (ks : List HeldClass) (log : List Change) (o : Result A E) → OnOk o (ks ≡ with_changed f w.classes c) → Like w.classes ks → AllHold w (of_each of_node w.nodes) → w ≡ now → OnOk o ((t : Reading) → plain t (record w { classes = ks; log = log }) ≡ record (plain t now) { classes = with_changed (g t) (plain t now).classes c })
unfolding plain
change-read f g same w now c ks log (Ok a) p l h v = λ t.
    subst (λ n. plain t (record w { classes = ks; log = log }) ≡ record (plain t n) { classes = with_changed (g t) (plain t n).classes c }) v
    (classes-read w ks l t log h ∙ ap (λ (ks : Classes Text). record (plain t w) { classes = ks }) (ap (renamed (spelled t)) p ∙ changed-read t f (g t) (same t) w.classes c))
change-read f g same w now c ks log (Err e) p l h v = tt

pub changed-holds : (w : Held) (f : HeldClass → HeldClass) → ((k : HeldClass) → AllHold w (of_class k) → AllHold w (of_class (f k))) → (ks : List HeldClass) (c : ℕ) → AllHold w (of_each of_class ks) → AllHold w (of_each of_class (with_changed f ks c))
changed-holds w f keep [] c h = tt
changed-holds w f keep (k ∷ ks) c h =
    let here = all-first w (of_class k) (of_each of_class ks) h in
    let rest = all-rest w (of_class k) (of_each of_class ks) h in
    elim (eqb k.number c) as (λ b. AllHold w (of_each of_class (cond b (f k ∷ ks) (k ∷ with_changed f ks c)))) [
      | true ↦ all-append w (of_class (f k)) (of_each of_class ks) (keep k here) rest
      | false ↦ all-append w (of_class k) _ here (changed-holds w f keep ks c rest)
    ]

module _ (f : HeldClass → HeldClass) (number : (k : HeldClass) → (f k).number ≡ k.number) (bases : (k : HeldClass) → (f k).bases ≡ k.bases) (members : (k : HeldClass) → (f k).members ≡ k.members) (flags : (k : HeldClass) → (f k).flags ≡ k.flags) where
  changed-like : (ks : List HeldClass) (c : ℕ) → Like ks (with_changed f ks c)
  changed-like ks c = record {
    held = λ d b h. ap by_line (lin-kept f number ks c bases members d) ∙ h;
    there = λ d h. is_class-kept f number ks c d ∙ h;
    layouts = λ d xs h. layout-same f number ks c bases members d ∙ h;
    counts = λ d h. member_count-kept f number ks c members d;
    offsets = λ d o h. offset-kept f number ks c bases members d o ∙ h;
    flags = λ d h. at-changed f number (option_map (λ (k : HeldClass). k.flags)) (λ k. ap Some (flags k)) ks c d;
  }

  -- it was changed, or the change was refused
  module _ {A E : Type 0} (w : Held) (c : ℕ) (ks : List HeldClass) where
    pub change-like : (o : Result A E) → OnOk o (ks ≡ with_changed f w.classes c) → OnErr o (ks ≡ w.classes) → Like w.classes ks
    change-like (Ok a) p q = subst (Like w.classes) (sym p) (changed-like w.classes c)
    change-like (Err e) p q = subst (Like w.classes) (sym q) (like-itself w.classes)

    pub change-sound : {More : Type 0} (log : List Change) → Keeps w.log log → More → (o : Result A E) → OnOk o (ks ≡ with_changed f w.classes c) → OnErr o (ks ≡ w.classes) → ((k : HeldClass) → AllHold w (of_class k) → AllHold w (of_class (f k))) → Sound w → SoundWith More (record w { classes = ks; log = log })
    change-sound log keeps said (Ok a) p q keep s =
        classes-sound w ks log keeps said (change-like (Ok a) p q) (subst (SameFlags w.classes) (sym p) (λ d. at-changed f number (option_map (λ (k : HeldClass). k.flags)) (λ k. ap Some (flags k)) w.classes c d)) (subst (λ ks. AllHold w (of_each of_class ks)) (sym p) (changed-holds w f keep w.classes c s.classes))
        (subst (AreStanding w) (sym p) (λ d e. s.standing d (sym (is_class-kept f number w.classes c d) ∙ e))) s
    change-sound log keeps said (Err e) p q keep s =
        classes-sound w ks log keeps said (change-like (Err e) p q) (subst (SameFlags w.classes) (sym q) (λ d. refl)) (subst (λ ks. AllHold w (of_each of_class ks)) (sym q) s.classes) (subst (AreStanding w) (sym q) s.standing) s

-- a class without one of its own attributes
abbrev pub without : PyStrInterned → HeldClass → HeldClass
without x k = record k { attrs = without_key is_same_name k.attrs x }

pub without-holds : (w : Held) (x : PyStrInterned) (k : HeldClass) → AllHold w (of_class k) → AllHold w (of_class (without x k))
without-holds w x k h =
    let dict = of_dict (has_flag (2 ^ 40) k) in
    (h.0, (h.1.0, all-append w dict (of_each of_binding (without_key is_same_name k.attrs x)) (all-first w dict _ h.1.1) (without_key-holds w k.attrs x (all-rest w dict _ h.1.1))))

pub without-read : {A E : Type 0} (w now : Held) (c : ℕ) (x : PyStrInterned) (ks : List HeldClass) (log : List Change) (o : Result A E) → OnOk o (ks ≡ without_class_attr is_same_name w.classes c x) → OnErr o (ks ≡ w.classes) → AllHold w (of_each of_node w.nodes) → w ≡ now → OnOk o ((t : Reading) → plain t (record w { classes = ks; log = log }) ≡ without_own_attr (plain t now) c (t.text x.0))
without-read w now c x ks log o p q h v =
    change-read (without x) (λ t k. record k { attrs = without_key is_text k.attrs (spelled t x) }) (λ t k. ap (λ bs. record (rekeyed (spelled t) k) { attrs = bs }) (without_key-read t k.attrs x)) w now c ks log o p (change-like (without x) (λ k. refl) (λ k. refl) (λ k. refl) (λ k. refl) w c ks o p q) h v

-- a class with another name
abbrev pub called : Text → HeldClass → HeldClass
called x k = record k { name = x }

pub called-read : {A E : Type 0} (w now : Held) (c : ℕ) (x : Text) (ks : List HeldClass) (log : List Change) (o : Result A E) → OnOk o (ks ≡ with_class_name w.classes c x) → OnErr o (ks ≡ w.classes) → AllHold w (of_each of_node w.nodes) → w ≡ now → OnOk o ((t : Reading) → plain t (record w { classes = ks; log = log }) ≡ apply (plain t now) (SetName c x))
called-read w now c x ks log o p q h v =
    change-read (called x) (λ t k. record k { name = x }) (λ t k. refl) w now c ks log o p (change-like (called x) (λ k. refl) (λ k. refl) (λ k. refl) (λ k. refl) w c ks o p q) h v

-- whether it was there
pub own-told : {E : Type 0} (w now : Held) (v : w ≡ now) (c : ℕ) (x : PyStrInterned) (o : Result Bool E) → IfOk o (λ b. b ≡ is_some (own_of (λ k. is_same_name k x) (class_at w.classes c))) → IfOk o (λ b. (t : Reading) → Reads t now → b ≡ is_some (own_of (λ y. is_text y (t.text x.0)) (class_at (plain t now).classes c)))
own-told w now v c x (Ok b) h = λ t r. h ∙ ap is_some (sym (own-seen w now v t c x))
own-told w now v c x (Err e) h = tt

-- Classes that are changed or made.
use Rattle.class_world.proofs.Below.{ℕ, suc, Bool, true, false, cond, eqb, inl, inr, List, [], length, Option, Some, None, Result, Ok, Err, OnOk, OnErr, refl, sym, ap, ◌∙◌, subst, arith, length-append, is_some, nat_lt, option_map, option_and_then, Node, PyObjectRef, PyStrInterned, PyTypeRef, with_value, is_same_name, Text, Class, Classes, class_at, is_class, has_flag, rekeyed, renamed, limit, best_of, AreSound, each-there, with_class_attr, at-before, at-changed, at-last, old-or-last, member_count-kept, layout-same, AreThere, numbers, is_text, with_own_attr, with_new_class, Change, Keeps, IsLogged, AreEmpty, Held, Reading, spelled, node_of, plain, IsName, IsNode, IsClass, IsOf, AreMembers, GetsDict, Standing, AreNames, class_in, held_class, Holds, AllHold, Grows, SoundWith, Sound, flags_at, is_marked_heap, of_binding, of_class, of_class_ref, of_dict, of_node, of_each, BuiltIn, TypeType, the_dict, held_by, offset-kept}
use Rattle.std.proofs.Common.{◌≡◌, ◌^◌, ◌<◌, ◌≤◌, ◌∷◌, ◌++◌}
use Rattle.py_node.specs.declared.payload.Payload.TheVariants as payload
use Rattle.class_world.proofs.Claims.{all-grow, all-append, all-first, all-rest, each-push, get-end}
use Rattle.class_world.proofs.Homes.{held_by-made, held_by-attr}
use Rattle.class_world.proofs.Growth.{Like, like-itself, like-push, keep-itself, keep-push, grows, grows-lasts}
use Rattle.class_world.proofs.SamePlaces.{nodes-same, classes-read, none-read, empty-hold}
use Rattle.class_world.proofs.Stored.{map-push}
use Rattle.class_world.proofs.Changes.{fixed-grow, built_in-grow, itself-push}
use Rattle.class_world.proofs.Bound.{with_value-read, with_value-holds}

abbrev HeldClasses : Type 0
HeldClasses = Classes PyStrInterned

-- an attribute that is set by its number is set by its text
attr-read : (t : Reading) (ks : HeldClasses) (c : ℕ) (x : PyStrInterned) (r : PyObjectRef) → renamed (spelled t) (with_class_attr is_same_name ks c x r) ≡ with_class_attr is_text (renamed (spelled t) ks) c (spelled t x) r
attr-read t [] c x r = refl
attr-read t (k ∷ ks) c x r =
    elim (eqb k.number c) as (λ b. renamed (spelled t) (cond b (record k { attrs = with_value is_same_name k.attrs x r } ∷ ks) (k ∷ with_class_attr is_same_name ks c x r)) ≡ cond b (record (rekeyed (spelled t) k) { attrs = with_value is_text (rekeyed (spelled t) k).attrs (spelled t x) r } ∷ renamed (spelled t) ks) (rekeyed (spelled t) k ∷ with_class_attr is_text (renamed (spelled t) ks) c (spelled t x) r)) [
      | true ↦ ap (λ bs. record (rekeyed (spelled t) k) { attrs = bs } ∷ renamed (spelled t) ks) (with_value-read t k.attrs x r)
      | false ↦ ap (λ ks. rekeyed (spelled t) k ∷ ks) (attr-read t ks c x r)
    ]

attr-holds : (w : Held) (ks : HeldClasses) (c : ℕ) (x : PyStrInterned) (r : PyObjectRef) → AllHold w (of_each of_class ks) → Holds w (IsName x) → Holds w (IsNode r) → AllHold w (of_each of_class (with_class_attr is_same_name ks c x r))
attr-holds w [] c x r h n k = tt
attr-holds w (j ∷ ks) c x r h n k =
    let here = all-first w (of_class j) (of_each of_class ks) h in
    let dict = of_dict (has_flag (2 ^ 40) j) in
    let attrs = with_value-holds w j.attrs x r (all-rest w dict _ here.1.1) n k in
    let both = all-append w dict (of_each of_binding (with_value is_same_name j.attrs x r)) (all-first w dict _ here.1.1) attrs in
    let rest = all-rest w (of_class j) _ h in
    elim (eqb j.number c) as (λ b. AllHold w (of_each of_class (cond b (record j { attrs = with_value is_same_name j.attrs x r } ∷ ks) (j ∷ with_class_attr is_same_name ks c x r)))) [
      | true ↦ all-append w (of_class (record j { attrs = with_value is_same_name j.attrs x r })) (of_each of_class ks) (here.0, (here.1.0, both)) rest
      | false ↦ all-append w (of_class j) _ here (attr-holds w ks c x r rest n k)
    ]

attr-there : (ks : HeldClasses) (c d : ℕ) (x : PyStrInterned) (r : PyObjectRef) → is_class (with_class_attr is_same_name ks c x r) d ≡ is_class ks d
attr-there ks c d x r = at-changed (λ (k : Class PyStrInterned). record k { attrs = with_value is_same_name k.attrs x r }) (λ k. refl) is_some (λ k. refl) ks c d

-- as many classes as before
pub classes-grow : (w : Held) (ks : HeldClasses) (log : List Change) → Keeps w.log log → Like w.classes ks → Grows w (record w { classes = ks; log = log })
classes-grow w ks log more k = grows w (record w { classes = ks; log = log }) more refl refl (λ m x h. h) (omega arith) (λ m f h. h) (omega arith) (keep-itself w.classes w.nodes) k

abbrev pub AreStanding : Held → HeldClasses → Type 0
AreStanding w ks = (c : ℕ) → is_class ks c ≡ true → Holds w (Standing c (record { 0 = c }))

-- each class has the flags that it had
abbrev pub SameFlags : HeldClasses → HeldClasses → Type 0
SameFlags old new = (c : ℕ) → flags_at new c ≡ flags_at old c

-- whatever is said of the log before and after
pub classes-sound : {Log More : Type 0} (w : Held) (ks : HeldClasses) (log : List Change) → Keeps w.log log → More → Like w.classes ks → SameFlags w.classes ks → AllHold w (of_each of_class ks) → AreStanding w ks → SoundWith Log w → SoundWith More (record w { classes = ks; log = log })
classes-sound w ks log keeps said k f h a s =
    let new = record w { classes = ks; log = log } in
    let more = classes-grow w ks log keeps k in
    let go = all-grow w new more in
    record { forms = go _ s.forms; below = s.below; nodes = go _ s.nodes; classes = go _ h; vars = go _ s.vars; scopes = go _ s.scopes; fixed = fixed-grow w new s.fixed (grows-lasts w new more); built_in = built_in-grow w new s.built_in (grows-lasts w new more); own = λ b. more.still _ (s.own b); flags = λ b. more.still _ (s.flags b); of_none = more.still _ s.of_none; unmarked = λ c n e. s.unmarked c n (sym (f c) ∙ e); standing = λ d e. more.still _ (a d e); itself = s.itself; apart = s.apart; scopes_apart = s.scopes_apart; known = s.known; logged = said }

-- an attribute is set, or memory ran out and nothing changed
module _ {A E : Type 0} (w : Held) (c : ℕ) (x : PyStrInterned) (r : PyObjectRef) (ks : HeldClasses) where
  pub set-like : (o : Result A E) → OnOk o (ks ≡ with_class_attr is_same_name w.classes c x r) → OnErr o (ks ≡ w.classes) → Like w.classes ks
  set-like (Ok a) p f = subst (Like w.classes) (sym p) (record {
    held = λ d b h. held_by-attr is_same_name w.classes c x r d ∙ h;
    there = λ d h. attr-there w.classes c d x r ∙ h;
    layouts = λ d xs h. layout-same (λ (k : Class PyStrInterned). record k { attrs = with_value is_same_name k.attrs x r }) (λ k. refl) w.classes c (λ k. refl) (λ k. refl) d ∙ h;
    counts = λ d h. member_count-kept (λ (k : Class PyStrInterned). record k { attrs = with_value is_same_name k.attrs x r }) (λ k. refl) w.classes c (λ k. refl) d;
    offsets = λ d o h. offset-kept (λ (k : Class PyStrInterned). record k { attrs = with_value is_same_name k.attrs x r }) (λ k. refl) w.classes c (λ k. refl) (λ k. refl) d o ∙ h;
    flags = λ d h. at-changed (λ (k : Class PyStrInterned). record k { attrs = with_value is_same_name k.attrs x r }) (λ k. refl) (option_map (λ (k : Class PyStrInterned). k.flags)) (λ k. refl) w.classes c d;
  })
  set-like (Err e) p f = subst (Like w.classes) (sym f) (like-itself w.classes)

  pub set-sound : {Log More : Type 0} (log : List Change) → Keeps w.log log → More → (o : Result A E) → OnOk o (ks ≡ with_class_attr is_same_name w.classes c x r) → OnErr o (ks ≡ w.classes) → SoundWith Log w → Holds w (IsName x) → Holds w (IsNode r) → SoundWith More (record w { classes = ks; log = log })
  set-sound log keeps said (Ok a) p f s n k =
      classes-sound w ks log keeps said (set-like (Ok a) p f) (subst (SameFlags w.classes) (sym p) (λ d. at-changed (λ (k : Class PyStrInterned). record k { attrs = with_value is_same_name k.attrs x r }) (λ k. refl) (option_map (λ (k : Class PyStrInterned). k.flags)) (λ k. refl) w.classes c d)) (subst (λ ks. AllHold w (of_each of_class ks)) (sym p) (attr-holds w w.classes c x r s.classes n k))
      (subst (AreStanding w) (sym p) (λ d e. s.standing d (sym (attr-there w.classes c d x r) ∙ e))) s
  set-sound log keeps said (Err e) p f s n k = classes-sound w ks log keeps said (set-like (Err e) p f) (subst (SameFlags w.classes) (sym f) (λ d. refl)) (subst (λ ks. AllHold w (of_each of_class ks)) (sym f) s.classes) (subst (AreStanding w) (sym f) s.standing) s

  pub set-read : (log : List Change) (now : Held) (o : Result A E) → OnOk o (ks ≡ with_class_attr is_same_name w.classes c x r) → w ≡ now → AllHold w (of_each of_node w.nodes) → OnOk o ((t : Reading) → plain t (record w { classes = ks; log = log }) ≡ with_own_attr (plain t now) c (t.text x.0) r)
  unfolding plain
  set-read log now (Ok a) p v h = λ t.
      subst (λ n. plain t (record w { classes = ks; log = log }) ≡ with_own_attr (plain t n) c (t.text x.0) r) v
      (classes-read w ks (set-like (Ok a) p tt) t log h
      ∙ ap (λ (ks : HeldClasses). record (plain t w) { classes = renamed (spelled t) ks }) p
      ∙ ap (λ (ks : Classes Text). record (plain t w) { classes = ks }) (attr-read t w.classes c x r))
  set-read log now (Err e) p v h = tt

-- a change that was refused leaves classes and log as they were
pub unchanged : {A E : Type 0} (w now : Held) → w ≡ now → (ks : HeldClasses) (log : List Change) (o : Result A E) → OnErr o (ks ≡ w.classes) → OnErr o (log ≡ w.log) → OnErr o (record w { classes = ks; log = log } ≡ now)
unchanged w now v ks log (Ok a) p q = tt
unchanged w now v ks log (Err e) p q = (λ i. record w { classes = p i; log = q i }) ∙ v

-- every class's number is that of a node, so a further node has room for one
pub room : (w : Held) (ks : HeldClasses) → AllHold w (of_each of_class ks) → limit ks ≤ length w.nodes
unfolding Holds
room w [] h = omega arith
room w (k ∷ ks) h = go (nat_lt k.number (limit ks)) (room w ks (all-rest w (of_class k) _ h)) (all-first w (of_class k) (of_each of_class ks) h).0
  where
    go : (b : Bool) → limit ks ≤ length w.nodes → k.number < length w.nodes → cond b (limit ks) (suc k.number) ≤ length w.nodes
    go true l m = l
    go false l m = omega arith

pub bases-there : (w : Held) (bs : List PyTypeRef) → AllHold w (of_each of_class_ref bs) → AreThere w.classes (numbers bs)
unfolding Holds
bases-there w [] h = tt
bases-there w (b ∷ bs) h = (h.0, bases-there w bs h.1)

-- a class has no dict, whatever its metaclass
no-dict : (w : Held) (meta c : ℕ) → Holds w (IsClass meta) → Holds w (GetsDict (Some c) meta false)
unfolding Holds
no-dict w meta c h = (h, refl)

-- a class with flags is there
flags-there : (t : HeldClasses) (c n : ℕ) → flags_at t c ≡ Some n → is_class t c ≡ true
flags-there t c n e = go (class_at t c) e
  where
    go : (o : Option (Class PyStrInterned)) → option_map (λ (k : Class PyStrInterned). k.flags) o ≡ Some n → is_some o ≡ true
    go None e = cc
    go (Some k) e = refl

-- a class with its node
module _ (w : Held) (meta : PyTypeRef) (k : Class PyStrInterned) (ms : List (Option PyObjectRef)) (log : List Change) (keeps : Keeps w.log log) where
  abbrev pub class_made : PyTypeRef → Held
  class_made c = record w { nodes = w.nodes ++ record { class = meta; dict = None; members = ms; payload = payload.Class c } ∷ []; classes = w.classes ++ k ∷ []; log = log }

  pub made-grows : (c : PyTypeRef) → Grows w (class_made c)
  made-grows c =
      let n = length-append w.nodes (record { class = meta; dict = None; members = ms; payload = payload.Class c } ∷ []) in
      grows w (class_made c) keeps refl refl (λ m x h. h) (omega arith) (λ m f h. h) (omega arith) (keep-push w.classes w.nodes (record { class = meta; dict = None; members = ms; payload = payload.Class c })) (like-push w.classes k)

  pub node-made : (c : PyTypeRef) (r : PyObjectRef) → r.0 ≡ length w.nodes → Holds (class_made c) (IsNode r)
  unfolding Holds
  node-made c r e = let l = length-append w.nodes (record { class = meta; dict = None; members = ms; payload = payload.Class c } ∷ []) in omega (arith, l, e)

  dict-made : (new : Held) (b : Bool) → ((c : ℕ) → c < 23 → is_class new.classes c ≡ true) → AllHold new (of_dict b)
  unfolding Holds
  dict-made new true l = (l the_dict (omega arith), tt)
  dict-made new false l = tt

  -- the class has the number of its node
  module _ (c : PyTypeRef) (e : c.0 ≡ length w.nodes) (i : k.number ≡ length w.nodes) (s : Sound w) where
    fresh : limit w.classes ≤ k.number
    fresh = let l = room w w.classes s.classes in omega (arith, l, i)

    pub class-made : Holds (class_made c) (IsClass c.0)
    unfolding Holds
    class-made = ap (is_class (w.classes ++ k ∷ [])) (e ∙ sym i) ∙ ap is_some (at-last w.classes k fresh)

    pub class-made-of : (d : ℕ) (b : BuiltIn) → AreSound w.classes → AreSound (w.classes ++ k ∷ []) → AreThere w.classes k.bases → best_of w.classes k.bases ≡ Some d → Holds w (IsOf d b) → Holds (class_made c) (IsOf c.0 b)
    unfolding Holds
    class-made-of d b ok more there best h =
        let many = s.fixed in
        ap (held_by (w.classes ++ k ∷ [])) (e ∙ sym i) ∙ held_by-made w.classes k d b ok more fresh (omega (arith, many, i)) (each-there w.classes k.bases there) best h

    class-stands : Holds (class_made c) (Standing k.number (record { 0 = k.number }))
    unfolding Holds
    class-stands =
        let node : Node = record { class = meta; dict = None; members = ms; payload = payload.Class c } in
        ap (λ n. held_class (w.nodes ++ node ∷ []) (record { 0 = n })) i ∙ ap (option_and_then (λ (x : Node). class_in x.payload)) (get-end w.nodes node) ∙ ap Some (e ∙ sym i)

    stands : (d : ℕ) → is_class (w.classes ++ k ∷ []) d ≡ true → Holds (class_made c) (Standing d (record { 0 = d }))
    stands d h = elim (old-or-last w.classes k d h) [ inl a ↦ (made-grows c).still _ (s.standing d a) | inr a ↦ subst (λ n. Holds (class_made c) (Standing n (record { 0 = n }))) (sym a) class-stands ]

    -- its flags are those of k or of a class that was there
    unmarked : is_marked_heap k.flags ≡ false → (d n : ℕ) → flags_at (w.classes ++ k ∷ []) d ≡ Some n → is_marked_heap n ≡ false
    unmarked u d n e =
        let there : is_class (w.classes ++ k ∷ []) d ≡ true = flags-there (w.classes ++ k ∷ []) d n e in
        elim (old-or-last w.classes k d there) [
          | inl a ↦ s.unmarked d n (sym (ap (option_map (λ (j : Class PyStrInterned). j.flags)) (at-before w.classes k d a)) ∙ e)
          | inr a ↦
              let own : flags_at (w.classes ++ k ∷ []) d ≡ Some k.flags = ap (flags_at (w.classes ++ k ∷ [])) a ∙ ap (option_map (λ (j : Class PyStrInterned). j.flags)) (at-last w.classes k fresh) in
              let same : k.flags ≡ n = cc in
              subst (λ m. is_marked_heap m ≡ false) same u
        ]

    itself : (n d : ℕ) → held_class (class_made c).nodes (record { 0 = n }) ≡ Some d → n ≡ d
    itself n d q =
        let at = itself-push 0 w.nodes (record { class = meta; dict = None; members = ms; payload = payload.Class c }) (λ d p. let same : c.0 ≡ d = cc in omega arith) (λ m d p. let r = s.itself m d p in omega arith) n d q in
        omega arith

    pub made-sound : AreEmpty w.classes meta.0 ms → IsLogged log (w.classes ++ k ∷ []) → is_marked_heap k.flags ≡ false → Holds w (AreNames k.members) → Holds w (IsClass meta.0) → Holds w (IsOf meta.0 TypeType) → AllHold w (of_each of_binding k.attrs) → Sound (class_made c)
    made-sound empty said u q m p a =
        let new = class_made c in
        let more = made-grows c in
        let go = all-grow w new more in
        let many = built_in-grow w new s.built_in (grows-lasts w new more) in
        let node = node-made c (record { 0 = k.number }) i in
        let members = more.still (AreNames k.members) q in
        let rest = all-append new (of_dict (has_flag (2 ^ 40) k)) (of_each of_binding k.attrs) (dict-made new (has_flag (2 ^ 40) k) many) (go _ a) in
        record {
          forms = go _ s.forms;
          below = s.below;
          nodes = each-push new of_node w.nodes (record { class = meta; dict = None; members = ms; payload = payload.Class c }) (go _ s.nodes) (more.still (IsClass meta.0) m, (more.still (IsOf meta.0 TypeType) p, (more.still (AreMembers meta.0 ms) (empty-hold w w.classes meta.0 ms refl empty), (no-dict new meta.0 c.0 (more.still (IsClass meta.0) m), (class-made, tt)))));
          classes = each-push new of_class w.classes k (go _ s.classes) (node, (members, rest));
          vars = go _ s.vars;
          scopes = go _ s.scopes;
          fixed = fixed-grow w new s.fixed (grows-lasts w new more);
          built_in = many;
          own = λ b. more.still _ (s.own b);
          flags = λ b. more.still _ (s.flags b);
          of_none = more.still _ s.of_none;
          unmarked = unmarked u;
          standing = stands;
          itself = itself;
          apart = s.apart;
          scopes_apart = s.scopes_apart;
          known = s.known;
          logged = said;
        }

  pub made-read : (now : Held) (c : PyTypeRef) → w ≡ now → k.number ≡ c.0 → AreEmpty w.classes meta.0 ms → AllHold w (of_each of_node w.nodes) → (t : Reading) → plain t (class_made c) ≡ with_new_class (plain t now) meta.0 (rekeyed (spelled t) k)
  unfolding plain
  made-read now c v e empty h t = subst (λ n. plain t (class_made c) ≡ with_new_class (plain t n) meta.0 (rekeyed (spelled t) k)) v at
    where
      at : plain t (class_made c) ≡ with_new_class (plain t w) meta.0 (rekeyed (spelled t) k)
      at =
          let more = w.classes ++ k ∷ [] in
          let a = map-push (node_of t more) w.nodes (record { class = meta; dict = None; members = ms; payload = payload.Class c }) in
          let b = map-push (rekeyed (spelled t)) w.classes k in
          let old = nodes-same w more (like-push w.classes k) t w.nodes h in
          let none = none-read more meta.0 ms empty.1 in
          cc (a, b, e, old, none)

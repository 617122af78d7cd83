-- A new class and each change of a class keep a sound world sound.
use Rattle.plain_machine.proofs.Below.{ℕ, true, false, cond, not, eqb, List, [], length, Option, Some, None, inl, inr, refl, sym, ap, subst, ◌∙◌, arith, nat_lt, slice_get, is_some, option_map, option_and_then, All, ne_eqb, All-nil, All-cons, All-head, All-tail, All-push, slice_get_within, PyObjectRef, BuiltIn, TypeType, all_built_ins, with_value, without_key, Text, Includes, Class, Classes, is_class, lin, limit, with_class, with_changed, with_bases, built_ins, is_empty, says_dict, first_with, AreSound, at-before, at-last, old-or-last, lin-push, is_place-agrees, is_class-kept, member_count-kept, lin-kept, is_place-kept, has_dict-kept, sound-kept, has_dict-rebased, limit-within, there-made, place-made, solid-made, sound-made, AClass, no_members, Node, PlainWorld, is_text, ref, datum_at, MakeClass, SetOwn, SetBases, SetName, apply, CanMakeClass, CanSetBases, holds_as, held_by, is_offset, AreBound, AreApart, IsSoundNode, IsSound}
use Rattle.std.proofs.Common.{◌≡◌, ◌<◌, ◌≤◌, ◌∷◌}
use Rattle.plain_machine.proofs.NearestByLayout.{nearest-by_layout}
use Rattle.plain_machine.proofs.Offsets.{offset-agrees, offset-kept, offset-push}
use Rattle.plain_machine.proofs.Bindings.{apart-set, values-set, apart-without, values-without}
use Rattle.plain_machine.proofs.Lasting.{Like, Lasts, standing-still, sound_node-still, bound-still, scopes-still, attrs-still}
use Rattle.plain_machine.proofs.Pushed.{get-end, holder, pushed, push-lasts, push-kept}
use Rattle.plain_machine.proofs.KeptNodes.{no-keys}

-- what the objects of a class hold, by its linearisation
abbrev by_line : Option (List ℕ) → Option BuiltIn
by_line o = option_map holds_as (option_and_then (slice_get all_built_ins) (option_and_then (first_with (λ d. nat_lt d built_ins)) o))

-- attributes are bound, and no name stands twice
abbrev HasAttrs : PlainWorld → Class Text → Type 0
HasAttrs w k = AreBound w k.attrs × AreApart k.attrs

-- other classes that are like those before, and no more of them
classes-kept : (w : PlainWorld) (t : Classes Text) → IsSound w → Like w.classes t → AreSound t → ((c : ℕ) → is_class t c ≡ true → is_class w.classes c ≡ true) → All (HasAttrs w) t → IsSound (record w { classes = t })
classes-kept w t s l ok back attrs =
    let u = record w { classes = t } in
    let g : Lasts w u = record { stays = λ n x e. (x, e, refl); like = l } in
    record {
      classes = ok;
      nodes = λ i n e. sound_node-still w u g n (s.nodes i n e);
      standing = λ c e. s.standing c (back c e);
      itself = s.itself;
      attrs = attrs;
      vars = s.vars;
      apart = s.apart;
      scopes = scopes-still w u g w.scopes s.scopes;
    }

changed-each : (P : Class Text → Type 0) (f : Class Text → Class Text) (t : Classes Text) (c : ℕ) → ((k : Class Text) → P k → P (f k)) → All P t → All P (with_changed f t c)
changed-each P f [] c h a = a
changed-each P f (k ∷ t) c h a =
    let here = All-head P k t a in
    let rest = All-tail P k t a in
    let more = changed-each P f t c h rest in
    elim (eqb k.number c) as (λ b. All P (cond b (f k ∷ t) (k ∷ with_changed f t c))) [ true ↦ All-cons P (f k) t (h k here) rest | false ↦ All-cons P k (with_changed f t c) here more ]

-- one class changed, that keeps its number, bases and members
module _ (w : PlainWorld) (f : Class Text → Class Text) (numbers : (k : Class Text) → (f k).number ≡ k.number) (bases : (k : Class Text) → (f k).bases ≡ k.bases) (members : (k : Class Text) → (f k).members ≡ k.members) (flags : (k : Class Text) → (f k).flags ≡ k.flags) (brings : (k : Class Text) → (f k).brings ≡ k.brings) (attrs : (k : Class Text) → HasAttrs w k → HasAttrs w (f k)) (c : ℕ) where
  like-kept : Like w.classes (with_changed f w.classes c)
  like-kept = record {
    there = λ x e. is_class-kept f numbers w.classes c x ∙ e;
    held = λ x b e. ap by_line (lin-kept f numbers w.classes c bases members x) ∙ e;
    places = λ x d i l e. is_place-kept f numbers w.classes c bases members x d i ∙ e;
    offsets = λ x o e. offset-kept f numbers w.classes c bases members x o ∙ e;
    dicts = λ x e. has_dict-kept f numbers w.classes c bases members flags brings x;
  }

  changed-kept : IsSound w → IsSound (record w { classes = with_changed f w.classes c })
  changed-kept s =
      classes-kept w (with_changed f w.classes c) s like-kept (sound-kept f numbers w.classes c bases members flags brings s.classes) (λ x e. sym (is_class-kept f numbers w.classes c x) ∙ e) (changed-each (HasAttrs w) f w.classes c attrs s.attrs)

pub own-kept : (w : PlainWorld) (c : ℕ) (x : Text) (r : PyObjectRef) → r.0 < length w.nodes → IsSound w → IsSound (apply w (SetOwn c x (Some r)))
own-kept w c x r there s =
    changed-kept w (λ k. record k { attrs = with_value is_text k.attrs x r }) (λ k. refl) (λ k. refl) (λ k. refl) (λ k. refl) (λ k. refl) (λ k h. (values-set is_text x (λ (o : PyObjectRef). o.0 < length w.nodes) k.attrs r h.0 there, apart-set is_text x k.attrs r h.1)) c s

pub own_out-kept : (w : PlainWorld) (c : ℕ) (x : Text) → IsSound w → IsSound (apply w (SetOwn c x None))
own_out-kept w c x s =
    changed-kept w (λ k. record k { attrs = without_key is_text k.attrs x }) (λ k. refl) (λ k. refl) (λ k. refl) (λ k. refl) (λ k. refl) (λ k h. (values-without is_text x (λ (o : PyObjectRef). o.0 < length w.nodes) k.attrs h.0, apart-without is_text x k.attrs h.1)) c s

pub name-kept : (w : PlainWorld) (c : ℕ) (x : Text) → IsSound w → IsSound (apply w (SetName c x))
name-kept w c x s = changed-kept w (λ k. record k { name = x }) (λ k. refl) (λ k. refl) (λ k. refl) (λ k. refl) (λ k. refl) (λ k h. h) c s

pub bases-kept : (w : PlainWorld) (c : ℕ) (bs : List ℕ) → CanSetBases w c bs → IsSound w → IsSound (apply w (SetBases c bs))
bases-kept w c bs a s =
    let f : Class Text → Class Text = λ k. record k { bases = bs } in
    let t = with_bases w.classes c bs in
    let l : Like w.classes t = record {
      there = λ x e. is_class-kept f (λ k. refl) w.classes c x ∙ e;
      held = λ x b e. ap (λ o. option_map holds_as (option_and_then (slice_get all_built_ins) o)) (nearest-by_layout (with_bases w.classes c bs) w.classes x x (a.layouts x)) ∙ e;
      places = λ x d i l e. is_place-agrees t w.classes x d i (a.layouts x) (member_count-kept f (λ k. refl) w.classes c (λ k. refl) d) ∙ e;
      offsets = λ x o e. offset-agrees t w.classes x o (a.layouts x) (member_count-kept f (λ k. refl) w.classes c (λ k. refl)) ∙ e;
      dicts = λ x e. has_dict-rebased w.classes c bs x;
    } in
    classes-kept w t s l a.sound (λ x e. sym (is_class-kept f (λ k. refl) w.classes c x) ∙ e) (changed-each (HasAttrs w) f w.classes c (λ k h. h) s.attrs)

-- a new class

held-all : {A : Type 0} (P : A → Type 0) (xs : List A) → All P xs → (x : A) → Includes xs x → P x
held-all P [] h x k = absurd k
held-all P (y ∷ xs) h x (inl e) = subst P e (All-head P y xs h)
held-all P (y ∷ xs) h x (inr k) = held-all P xs (All-tail P y xs h) x k

some-held : (bs : List ℕ) → is_empty bs ≡ false → (b : ℕ) × Includes bs b
some-held [] e = cc
some-held (b ∷ bs) e = (b, inl refl)

held-push : (t : Classes Text) (k : Class Text) (c : ℕ) (b : BuiltIn) → held_by t c ≡ Some b → held_by (with_class t k) c ≡ Some b
held-push t k c b e = go (lin t c) refl e
  where
    go : (o : Option (List ℕ)) → lin t c ≡ o → by_line o ≡ Some b → held_by (with_class t k) c ≡ Some b
    go None l e = cc
    go (Some line) l e = ap by_line (lin-push t k c line l) ∙ e

module _ (w : PlainWorld) (meta : ℕ) (k : Class Text) (a : CanMakeClass w meta k) (s : IsSound w) where
  abbrev more : Classes Text
  more = with_class w.classes k

  abbrev node : Node
  node = record { class = meta; dict = None; members = no_members; datum = AClass k.number }

  abbrev new : PlainWorld
  new = pushed w node more

  -- a class's number is that of a node
  numbered : (c : ℕ) → is_class w.classes c ≡ true → c < length w.nodes
  numbered c e = let h = holder (slice_get w.nodes c) (AClass c) (s.standing c e) in slice_get_within w.nodes c h.0 h.1

  fresh : limit w.classes ≤ k.number
  fresh = let l = limit-within w.classes (length w.nodes) numbered in let n = a.number in omega arith

  bases : (b : ℕ) → Includes k.bases b → is_class w.classes b ≡ true
  bases = held-all (λ b. is_class w.classes b ≡ true) k.bases a.bases

  -- a node stands for its base, and so its number is not 0
  positive : eqb k.number 0 ≡ false
  positive =
      let b = some-held k.bases a.some in
      let l = numbered b.0 (bases b.0 b.1) in
      let n = a.number in
      ne_eqb k.number 0 (λ z. omega arith)

  more-sound : AreSound more
  more-sound =
      sound-made w.classes k s.classes fresh bases (a.some ∙ sym positive) a.order (solid-made w.classes k s.classes fresh bases a.best) (a.best ∙ sym (ap not positive)) a.dict

  like-more : Like w.classes more
  like-more = record { there = there-made w.classes k s.classes; held = held-push w.classes k; places = place-made w.classes k s.classes; offsets = offset-push w.classes k; dicts = λ c l. ap says_dict (at-before w.classes k c l) }

  g : Lasts w new
  g = push-lasts w node more like-more

  node-sound : IsSoundNode new node
  node-sound = record {
    class = like-more.there meta a.class;
    like = like-more.held meta TypeType a.like;
    given = refl;
    dict = λ r e. cc;
    members = λ c i r e. cc;
    nodes = All-nil (λ (r : PyObjectRef). r.0 < length new.nodes);
    keys = no-keys _;
    classes = All-cons (λ c. is_class more c ≡ true) k.number [] (ap is_some (at-last w.classes k fresh)) (All-nil (λ c. is_class more c ≡ true));
    offsets = All-nil (λ p. is_offset more p.0 p.1 ≡ true);
  }

  stands-new : (c : ℕ) → is_class more c ≡ true → datum_at new (ref c) ≡ Some (AClass c)
  stands-new c e =
      let last : datum_at new (ref k.number) ≡ Some (AClass k.number) = ap (λ m. datum_at new (ref m)) a.number ∙ ap (option_map (λ (n : Node). n.datum)) (get-end w.nodes node) in
      elim (old-or-last w.classes k c e) [ inl h ↦ standing-still w new g c (s.standing c h) | inr q ↦ subst (λ c. datum_at new (ref c) ≡ Some (AClass c)) (sym q) last ]

  class_made-kept : IsSound new
  class_made-kept =
      push-kept w node more s like-more more-sound node-sound stands-new (λ c e. let q : k.number ≡ c = cc in sym a.number ∙ q) (All-push (HasAttrs new) w.classes k (attrs-still w new g w.classes s.attrs) (bound-still w new g k.attrs a.attrs, a.apart))

pub new_class-kept : (w : PlainWorld) (meta : ℕ) (k : Class Text) → CanMakeClass w meta k → IsSound w → IsSound (apply w (MakeClass meta k))
new_class-kept w meta k a s = class_made-kept w meta k a s

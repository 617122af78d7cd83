-- An object that gets another class, or another dict.
use Rattle.class_world.proofs.Below.{ℕ, Bool, true, false, Some, None, refl, sym, ap, ◌∙◌, subst, is_some, is_none, slice_get, option_map, option_and_then, option_or, eqb-true, Dict, Node as StoredNode, ImmutableType, LayoutDiffers, PyObjectRef, PyStrInterned, PyTypeRef, value_at, Classes, class_at, is_class, renamed, layout, solid, is_heap_at, alike, gives_dict, has_dict, AreSound, some-of, at-renamed, solid-renamed, alike-same, has-gives, offset-alike, place_count-alike, has_dict-renamed, sound-renamed, is_same, refused_class, unless, layout-solid, held_by, Held, Reading, places_of, datum, node_of, spelled, plain, IsNode, IsClass, Holding, class_in, Holds, AllHold, of_node, of_option, of_dict_ref, with_class_ref, with_dict_ref}
use Rattle.std.proofs.Common.{◌≡◌}
use Rattle.std.specs.Prelude.{◌&&◌}
use Rattle.plain_machine.specs.Plain.{Node}
use Rattle.plain_machine.specs.World.{class_at as node_class}
use Rattle.class_world.proofs.Claims.{all-rest}
use Rattle.class_world.proofs.Look.{node-read}
use Rattle.class_world.proofs.OfClasses.{heap-seen}
use Rattle.class_world.proofs.SameLayout.{held_by-layout}

solid-seen : (w now : Held) → w ≡ now → (t : Reading) (x : ℕ) → solid (plain t now).classes x ≡ solid w.classes x
unfolding plain
solid-seen w now v t x = subst (λ u. solid (plain t u).classes x ≡ solid w.classes x) v (solid-renamed (spelled t) w.classes x)

pub dict-seen : (w now : Held) → w ≡ now → (t : Reading) (x : ℕ) → has_dict (plain t now).classes x ≡ has_dict w.classes x
unfolding plain
dict-seen w now v t x = subst (λ u. has_dict (plain t u).classes x ≡ has_dict w.classes x) v (has_dict-renamed (spelled t) w.classes x)

pub gives-seen : (w now : Held) → w ≡ now → AreSound w.classes → (t : Reading) (x : ℕ) → is_class w.classes x ≡ true → gives_dict (plain t now).classes x ≡ has_dict w.classes x
unfolding plain
gives-seen w now v ok t x l =
    let there : is_class (renamed (spelled t) w.classes) x ≡ true = at-renamed (spelled t) is_some is_some refl (λ k. refl) w.classes x ∙ l in
    subst (λ u. gives_dict (plain t u).classes x ≡ has_dict w.classes x) v (sym (has-gives (renamed (spelled t) w.classes) (sound-renamed (spelled t) w.classes ok) x there) ∙ has_dict-renamed (spelled t) w.classes x)

-- what is refused is so under the texts too
pub reclass-seen : (w now : Held) → w ≡ now → (t : Reading) (c d : ℕ) → refused_class (plain t now).classes c d ≡ refused_class w.classes c d
reclass-seen w now v t c d =
    let a = heap-seen w now v t c in
    let b = heap-seen w now v t d in
    let s = solid-seen w now v t c in
    let r = solid-seen w now v t d in
    let e = dict-seen w now v t c in
    let f = dict-seen w now v t d in
    λ i. option_or (unless (a i && b i) ImmutableType) (unless (is_same (s i) (r i) && alike (e i) (f i)) LayoutDiffers)

module _ {K : Type 0} (t : Classes K) (ok : AreSound t) (c d : ℕ) (there : is_class t c ≡ true) (other : is_class t d ≡ true) (passed : refused_class t c d ≡ None) where
  -- both tests were passed
  tests : (is_same (solid t c) (solid t d) ≡ true) × (alike (has_dict t c) (has_dict t d) ≡ true)
  tests = go (is_heap_at (class_at t c) && is_heap_at (class_at t d)) (is_same (solid t c) (solid t d)) (alike (has_dict t c) (has_dict t d)) passed
    where
      go : (x y z : Bool) → option_or (unless x ImmutableType) (unless (y && z) LayoutDiffers) ≡ None → (y ≡ true) × (z ≡ true)
      go true true true e = (refl, refl)
      go true true false e = cc
      go true false z e = cc
      go false true true e = cc
      go false true false e = cc
      go false false z e = cc

  pub same-dict : has_dict t c ≡ has_dict t d
  same-dict = alike-same (has_dict t c) (has_dict t d) tests.1

  same : solid t c ≡ solid t d
  same =
      let a = some-of (solid t c) (ok.solid c there) in
      let b = some-of (solid t d) (ok.solid d other) in
      let e : is_same (Some a.0) (Some b.0) ≡ true = sym (λ i. is_same (a.1 i) (b.1 i)) ∙ tests.0 in
      a.1 ∙ ap Some (eqb-true a.0 b.0 e) ∙ sym b.1

  pub same-layout : layout t c ≡ layout t d
  same-layout =
      let a = some-of (solid t c) (ok.solid c there) in
      layout-solid t ok c a.0 there a.1 ∙ sym (layout-solid t ok d a.0 other (sym same ∙ a.1))

  pub same-held : held_by t c ≡ held_by t d
  same-held = held_by-layout t t c d same-layout

-- a script made the class of before
pub was-heap : {K : Type 0} (t : Classes K) (c d : ℕ) → refused_class t c d ≡ None → is_heap_at (class_at t c) ≡ true
was-heap t c d passed = go (is_heap_at (class_at t c)) (is_heap_at (class_at t d)) passed
  where
    go : (x y : Bool) → option_or (unless (x && y) ImmutableType) (unless (is_same (solid t c) (solid t d) && alike (has_dict t c) (has_dict t d)) LayoutDiffers) ≡ None → x ≡ true
    go true y e = refl
    go false y e = cc

-- the places of one class are those of the other one
pub class-moved : (t : Reading) (ks : Classes PyStrInterned) (n : StoredNode) (class : PyTypeRef) → layout ks n.class.0 ≡ layout ks class.0 → node_of t ks (with_class_ref n class) ≡ record (node_of t ks n) { class = class.0 }
unfolding places_of
class-moved t ks n class e =
    let members : places_of ks class.0 n.members ≡ places_of ks n.class.0 n.members = λ i d j. option_and_then (value_at n.members) (offset-alike ks ks class.0 n.class.0 (sym e) (λ x h. refl) d j i) in
    λ i. record { class = class.0; dict = n.dict; members = members i; datum = datum t n.payload }

pub class-set-holds : (w : Held) (n : StoredNode) (class : PyTypeRef) → AreSound w.classes → AllHold w (of_node n) → Holds w (IsClass class.0) → refused_class w.classes n.class.0 class.0 ≡ None → AllHold w (of_node (with_class_ref n class))
unfolding Holds
class-set-holds w n class ok h there passed =
    (there, (sym (same-held w.classes ok n.class.0 class.0 h.0 there passed) ∙ h.1.0, ((place_count-alike w.classes w.classes class.0 n.class.0 (sym (same-layout w.classes ok n.class.0 class.0 h.0 there passed)) (λ x h. refl) ∙ h.1.1.0.0, h.1.1.0.1), ((there, h.1.1.1.0.1 ∙ ap (λ b. is_none (class_in n.payload) && b) (same-dict w.classes ok n.class.0 class.0 h.0 there passed)), h.1.1.1.1))))

pub dict-set-holds : (w : Held) (n : StoredNode) (dict : PyObjectRef) → is_some n.dict ≡ true → AllHold w (of_node n) → Holds w (IsNode dict) → Holds w (Holding dict Dict) → AllHold w (of_node (with_dict_ref n dict))
unfolding Holds
dict-set-holds w n dict had h there holding =
    (h.0, (h.1.0, (h.1.1.0, ((h.1.1.1.0.0, sym had ∙ h.1.1.1.0.1), (there, (holding, all-rest w (of_option of_dict_ref n.dict) _ h.1.1.1.1))))))

-- what is told of an object's class
pub class-told : (w now : Held) → w ≡ now → (t : Reading) (r : PyObjectRef) (n : StoredNode) → slice_get w.nodes r.0 ≡ Some n → (d : ℕ) → option_and_then (λ c. refused_class (plain t now).classes c d) (node_class (plain t now) r) ≡ refused_class w.classes n.class.0 d
class-told w now v t r n at d =
    ap (λ o. option_and_then (λ c. refused_class (plain t now).classes c d) (option_map (λ (x : Node). x.class) o)) (node-read w now r n v at t) ∙ reclass-seen w now v t n.class.0 d

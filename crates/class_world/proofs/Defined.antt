-- A function that a class defines, in a world.
use Rattle.class_world.proofs.Below.{ℕ, zero, suc, List, [], length, Option, Some, None, refl, sym, ap, ◌∙◌, subst, arith, get_or, map, slice_get, slice_set, is_some, option_map, Classes, class_at, is_heap_at, PyStrInterned, PyObjectRef, PyTypeRef, Node as StoredNode, Payload, AFunction, or_class, defined_by, with_datum_in, with_definer, keeps-itself, Held, Reading, spelled, datum, node_of, plain, Claim, IsClass, IsOf, GetsDict, class_in, held_class, Holds, AllHold, Grows, Sound, of_option, of_class_ref, of_dict_ref, of_payload, of_node, of_each, or_class_ref, defined_payload, defined_node}
use Rattle.std.proofs.Common.{◌≡◌, ◌<◌, ◌∷◌}
use Rattle.std.specs.Prelude.{false}
use Rattle.py_node.specs.declared.payload.Payload.TheVariants as payload
use Rattle.plain_machine.specs.Plain.{Node}
use Rattle.class_world.proofs.Claims.{all-grow, all-append, all-first, all-rest, each-get, got}
use Rattle.class_world.proofs.Growth.{Lasting, lasting, like-itself, grows, grows-lasts}
use Rattle.class_world.proofs.Changes.{fixed-grow, built_in-grow}

pub set-length : {A : Type 0} (xs : List A) (n : ℕ) (x : A) → length (slice_set xs n x) ≡ length xs
set-length [] n x = refl
set-length (y ∷ xs) zero x = refl
set-length (y ∷ xs) (suc n) x = ap suc (set-length xs n x)

pub each-set : {A : Type 0} (w : Held) (of : A → List Claim) (xs : List A) (n : ℕ) (x : A) → AllHold w (of_each of xs) → AllHold w (of x) → AllHold w (of_each of (slice_set xs n x))
each-set w of [] n x h k = h
each-set w of (y ∷ xs) zero x h k = all-append w (of x) _ k (all-rest w (of y) _ h)
each-set w of (y ∷ xs) (suc n) x h k = all-append w (of y) _ (all-first w (of y) _ h) (each-set w of xs n x (all-rest w (of y) _ h) k)

-- where another class defines a function, nothing else of it changes
payload-holds : (w : Held) (c : PyTypeRef) (p : Payload) → Holds w (IsClass c.0) → AllHold w (of_payload p) → AllHold w (of_payload (defined_payload c p))
payload-holds w c payload.Object k h = h
payload-holds w c (payload.Class d) k h = h
payload-holds w c (payload.Number z) k h = h
payload-holds w c (payload.Text s) k h = h
payload-holds w c (payload.Tuple rs) k h = h
payload-holds w c (payload.List rs) k h = h
payload-holds w c (payload.Dict es) k h = h
payload-holds w c (payload.Function f) k h = (h.0, (h.1.0, (h.1.1.0, go f.value.class h.1.1.1)))
  where
    go : (o : Option PyTypeRef) → AllHold w (of_option of_class_ref o) → AllHold w (of_option of_class_ref (or_class_ref o c))
    go None p = (k, tt)
    go (Some d) p = p
payload-holds w c (payload.Method m) k h = h
payload-holds w c (payload.NativeFunction f) k h = h
payload-holds w c (payload.BuiltinMethod m) k h = h
payload-holds w c (payload.MethodDescriptor m) k h = h
payload-holds w c (payload.GetSet g) k h = h
payload-holds w c (payload.ClassMethod r) k h = h
payload-holds w c (payload.StaticMethod r) k h = h
payload-holds w c (payload.Member m) k h = h
payload-holds w c (payload.Property p) k h = h
payload-holds w c (payload.Super s) k h = h
payload-holds w c (payload.Iterator i) k h = h
payload-holds w c (payload.Slice s) k h = h

lasting-stays : (c : PyTypeRef) (p : Payload) → lasting (defined_payload c p) ≡ lasting p
lasting-stays c payload.Object = refl
lasting-stays c (payload.Class d) = refl
lasting-stays c (payload.Number z) = refl
lasting-stays c (payload.Text s) = refl
lasting-stays c (payload.Tuple rs) = refl
lasting-stays c (payload.List rs) = refl
lasting-stays c (payload.Dict es) = refl
lasting-stays c (payload.Function f) = refl
lasting-stays c (payload.Method m) = refl
lasting-stays c (payload.NativeFunction f) = refl
lasting-stays c (payload.BuiltinMethod m) = refl
lasting-stays c (payload.MethodDescriptor m) = refl
lasting-stays c (payload.GetSet g) = refl
lasting-stays c (payload.ClassMethod r) = refl
lasting-stays c (payload.StaticMethod r) = refl
lasting-stays c (payload.Member m) = refl
lasting-stays c (payload.Property p) = refl
lasting-stays c (payload.Super s) = refl
lasting-stays c (payload.Iterator i) = refl
lasting-stays c (payload.Slice s) = refl

node-holds : (w : Held) (c : PyTypeRef) (n : StoredNode) → Holds w (IsClass c.0) → AllHold w (of_node n) → AllHold w (of_node (defined_node c n))
node-holds w c n k h =
    let dict = of_option of_dict_ref n.dict in
    (h.0, (subst (λ b. Holds w (IsOf n.class.0 b)) (ap (λ (l : Lasting). l.home) (sym (lasting-stays c n.payload))) h.1.0, (h.1.1.0, (subst (λ o. Holds w (GetsDict o n.class.0 (is_some n.dict))) (ap (λ (l : Lasting). l.class) (sym (lasting-stays c n.payload))) h.1.1.1.0, all-append w dict _ (all-first w dict _ h.1.1.1.1) (payload-holds w c n.payload k (all-rest w dict _ h.1.1.1.1))))))

payload-read : (t : Reading) (c : PyTypeRef) (p : Payload) → datum t (defined_payload c p) ≡ defined_by c.0 (datum t p)
payload-read t c payload.Object = refl
payload-read t c (payload.Class d) = refl
payload-read t c (payload.Number z) = refl
payload-read t c (payload.Text s) = refl
payload-read t c (payload.Tuple rs) = refl
payload-read t c (payload.List rs) = refl
payload-read t c (payload.Dict es) = refl
payload-read t c (payload.Function f) = ap (AFunction (spelled t f.value.name) (map (spelled t) f.value.params.items) f.value.rest (t.tree f.value.body.0)) (go f.value.class)
  where
    go : (o : Option PyTypeRef) → option_map (λ d. d.0) (or_class_ref o c) ≡ or_class (option_map (λ d. d.0) o) c.0
    go None = refl
    go (Some d) = refl
payload-read t c (payload.Method m) = refl
payload-read t c (payload.NativeFunction f) = refl
payload-read t c (payload.BuiltinMethod m) = refl
payload-read t c (payload.MethodDescriptor m) = refl
payload-read t c (payload.GetSet g) = refl
payload-read t c (payload.ClassMethod r) = refl
payload-read t c (payload.StaticMethod r) = refl
payload-read t c (payload.Member m) = refl
payload-read t c (payload.Property p) = refl
payload-read t c (payload.Super s) = refl
payload-read t c (payload.Iterator i) = refl
payload-read t c (payload.Slice s) = refl

-- the other nodes stay
nodes-read : (t : Reading) (ks : Classes PyStrInterned) (c : PyTypeRef) (ns : List StoredNode) (i : ℕ) (n : StoredNode) → i < length ns → n ≡ get_or ns i n → map (node_of t ks) (slice_set ns i (defined_node c n)) ≡ with_datum_in (defined_by c.0) (map (node_of t ks) ns) i
nodes-read t ks c [] i n l e = absurd (omega arith)
nodes-read t ks c (m ∷ ns) zero n l e =
    ap (λ n. node_of t ks (defined_node c n) ∷ map (node_of t ks) ns) e
    ∙ ap (λ d. record (node_of t ks m) { datum = d } ∷ map (node_of t ks) ns) (payload-read t c m.payload)
nodes-read t ks c (m ∷ ns) (suc i) n l e = ap (λ ms. node_of t ks m ∷ ms) (nodes-read t ks c ns i n (omega arith) e)

-- another node in its place that tells the same
pub stays-set : (ks : Classes PyStrInterned) (ns : List StoredNode) (i : ℕ) (n new : StoredNode) → n ≡ get_or ns i n → lasting new.payload ≡ lasting n.payload → (is_heap_at (class_at ks n.class.0) ≡ false → new.class ≡ n.class) → (m : ℕ) (x : StoredNode) → slice_get ns m ≡ Some x → (y : StoredNode) × (slice_get (slice_set ns i new) m ≡ Some y) × (lasting y.payload ≡ lasting x.payload) × (is_heap_at (class_at ks x.class.0) ≡ false → y.class ≡ x.class)
stays-set ks [] i n new e q of m x k = cc
stays-set ks (z ∷ ns) zero n new e q of zero x k =
    let same : n ≡ x = let at : z ≡ x = cc in e ∙ at in
    (new, refl, q ∙ ap (λ (y : StoredNode). lasting y.payload) same, subst (λ (y : StoredNode). is_heap_at (class_at ks y.class.0) ≡ false → new.class ≡ y.class) same of)
stays-set ks (z ∷ ns) zero n new e q of (suc m) x k = (x, k, refl, λ h. refl)
stays-set ks (z ∷ ns) (suc i) n new e q of zero x k = (x, k, refl, λ h. refl)
stays-set ks (z ∷ ns) (suc i) n new e q of (suc m) x k = stays-set ks ns i n new e q of m x k

-- and stands for no other class
pub class-set : (ns : List StoredNode) (i : ℕ) (n new : StoredNode) → n ≡ get_or ns i n → class_in new.payload ≡ class_in n.payload → (m d : ℕ) → held_class (slice_set ns i new) (record { 0 = m }) ≡ Some d → held_class ns (record { 0 = m }) ≡ Some d
class-set [] i n new e q m d k = k
class-set (z ∷ ns) zero n new e q zero d k = ap (λ (y : StoredNode). class_in y.payload) (sym e) ∙ sym q ∙ k
class-set (z ∷ ns) zero n new e q (suc m) d k = k
class-set (z ∷ ns) (suc i) n new e q zero d k = k
class-set (z ∷ ns) (suc i) n new e q (suc m) d k = class-set ns i n new e q m d k

module _ (w : Held) (c : PyTypeRef) (r : PyObjectRef) (n new : StoredNode) where
  abbrev defined : Held
  defined = record w { nodes = slice_set w.nodes r.0 new }

  pub define-grows : n ≡ get_or w.nodes r.0 n → new ≡ defined_node c n → Grows w defined
  define-grows e k =
      let l = set-length w.nodes r.0 new in
      grows w defined (keeps-itself w.log) refl refl (λ m x h. h) (omega arith) (λ m f h. h) (omega arith) (record { stays = stays-set w.classes w.nodes r.0 n new e (ap (λ (x : StoredNode). lasting x.payload) k ∙ lasting-stays c n.payload) (λ h. ap (λ (x : StoredNode). x.class) k) }) (like-itself w.classes)

  pub define-sound : r.0 < length w.nodes → n ≡ get_or w.nodes r.0 n → new ≡ defined_node c n → Holds w (IsClass c.0) → Sound w → Sound defined
  define-sound l e k h s =
      let more = define-grows e k in
      let go = all-grow w defined more in
      let here = each-get w of_node w.nodes r.0 n (got w.nodes r.0 n l e) s.nodes in
      let there = subst (λ m. AllHold w (of_node m)) (sym k) (node-holds w c n h here) in
      let same : class_in new.payload ≡ class_in n.payload = ap (λ (x : StoredNode). class_in x.payload) k ∙ ap (λ (l : Lasting). l.class) (lasting-stays c n.payload) in
      record { forms = go _ s.forms; below = s.below; nodes = go _ (each-set w of_node w.nodes r.0 new s.nodes there); classes = go _ s.classes; vars = go _ s.vars; scopes = go _ s.scopes; fixed = fixed-grow w defined s.fixed (grows-lasts w defined more); built_in = built_in-grow w defined s.built_in (grows-lasts w defined more); own = λ b. more.still _ (s.own b); flags = λ b. more.still _ (s.flags b); of_none = more.still _ s.of_none; unmarked = s.unmarked; standing = λ d e. more.still _ (s.standing d e); itself = λ m d q. s.itself m d (class-set w.nodes r.0 n new e same m d q); apart = s.apart; scopes_apart = s.scopes_apart; known = s.known; logged = s.logged }

  pub define-read : (now : Held) → w ≡ now → r.0 < length w.nodes → n ≡ get_or w.nodes r.0 n → new ≡ defined_node c n → (t : Reading) → plain t defined ≡ with_definer (plain t now) c.0 r
  unfolding plain
  define-read now v l e k t =
      subst (λ u. plain t defined ≡ with_definer (plain t u) c.0 r) v
      (ap (λ (m : StoredNode). plain t (record w { nodes = slice_set w.nodes r.0 m })) k ∙ ap (λ (ns : List Node). record (plain t w) { nodes = ns }) (nodes-read t w.classes c w.nodes r.0 n l e))

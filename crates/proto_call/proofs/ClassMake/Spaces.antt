-- The attributes of a class to be, as a reading has them.
use Rattle.proto_call.proofs.Below.{ℕ, zero, suc, Bool, true, false, cond, List, [], Option, Some, None, refl, sym, ap, ◌∙◌, subst, not, length, get_or, drop, drop-cons, arith, map, is_some, option_map, IfSome, PyObjectRef, PyStrInterned, Getter, Setter, value_of, with_value, is_same_name, Text, known_text, Datum, ADict, AText, AClassMethod, AGetSet, PlainWorld, ref, is_text, class_at, datum_at, has_dict, push_node, with_node, next_node, none, the_object, the_dict, the_str, the_function, the_getset, the_class_method, Held, Reading, Reads, bindings, plain, World, IsName, IsNode, AreNodes, Holds, AllHold, Grows, of_binding, of_each, value-read, with_value-read, value-holds, with_value-holds, all-grow, grows-on, Space, has_name, put, give, wrap_value, wrap, qualify, unhash, give_dict, completed, would_have_dict, dicted, namespace_from, text_of, Bound}
use Rattle.std.proofs.Common.{◌≡◌, ◌<◌, ◌∷◌}
use Rattle.std.specs.Prelude.{◌&&◌}
use Rattle.py_node.specs.declared.entry.Property.TheVariants as property
use Rattle.py_node.specs.declared.known.Known.TheVariants as known
use Rattle.proto_call.specs.ClassMake.Say.{is_class, named}

module _ (t : Reading) where
  -- the value of a name, by its text
  pub has-read : (bs : Bound) (x : PyStrInterned) (text : Text) → t.text x.0 ≡ text → value_of (λ y. is_text y text) (bindings t bs) ≡ value_of (λ k. is_same_name k x) bs
  has-read bs x text e = subst (λ z. value_of (λ y. is_text y z) (bindings t bs) ≡ value_of (λ k. is_same_name k x) bs) e (value-read t bs x)

  pub named-read : (bs cs : Bound) (x : PyStrInterned) (text : Text) (r : PyObjectRef) → t.text x.0 ≡ text → cs ≡ with_value is_same_name bs x r → with_value is_text (bindings t bs) text r ≡ bindings t cs
  named-read bs cs x text r e f =
      sym (ap (bindings t) f ∙ with_value-read t bs x r ∙ ap (λ z. with_value is_text (bindings t bs) z r) e)

  pub put-goes : (u v : PlainWorld) (bs cs : Bound) (x : PyStrInterned) (c : ℕ) (d : Datum) (r : PyObjectRef) → v ≡ with_node u c d → cs ≡ with_value is_same_name bs x r → r ≡ next_node u c → ◌≡◌ {A = Space} (v, bindings t cs) (put (u, bindings t bs) (t.text x.0) c d)
  unfolding put
  put-goes u v bs cs x c d r e f g =
      let h : bindings t cs ≡ with_value is_text (bindings t bs) (t.text x.0) (next_node u c) =
      ap (bindings t) f ∙ with_value-read t bs x r ∙ ap (with_value is_text (bindings t bs) (t.text x.0)) g in
      λ i. (e i, h i)

  pub give-had : (u : PlainWorld) (bs : Bound) (x : PyStrInterned) (c : ℕ) (d : Datum) → is_some (value_of (λ k. is_same_name k x) bs) ≡ true → ◌≡◌ {A = Space} (u, bindings t bs) (give (u, bindings t bs) (t.text x.0) c d)
  unfolding give
  give-had u bs x c d h =
      sym (ap (λ b. cond b (u, bindings t bs) (put (u, bindings t bs) (t.text x.0) c d)) (ap is_some (value-read t bs x) ∙ h))

  pub give-new : (s : Space) (u : PlainWorld) (bs : Bound) (x : PyStrInterned) (c : ℕ) (d : Datum) → is_some (value_of (λ k. is_same_name k x) bs) ≡ false → s ≡ put (u, bindings t bs) (t.text x.0) c d → s ≡ give (u, bindings t bs) (t.text x.0) c d
  unfolding give
  give-new s u bs x c d h k =
      k ∙ sym (ap (λ b. cond b (u, bindings t bs) (put (u, bindings t bs) (t.text x.0) c d)) (ap is_some (value-read t bs x) ∙ h))

  pub dict-given : (s : Space) (u v : PlainWorld) (bs : Bound) (x : PyStrInterned) (c o : ℕ) → s ≡ give (v, bindings t bs) (t.text x.0) c (AGetSet o (t.text x.0) (Some (Getter property.InstanceDict)) (Some (Setter property.InstanceDict))) → v ≡ u → t.text x.0 ≡ known_text known.Dict → c ≡ 15 → o ≡ 0 → s ≡ give_dict (u, bindings t bs)
  unfolding give_dict
  dict-given s u v bs x c o h e f k m =
      h ∙ (λ i. give (e i, bindings t bs) (f i) (k i) (AGetSet (m i) (f i) (Some (Getter property.InstanceDict)) (Some (Setter property.InstanceDict))))

  pub qualified : (s : Space) (u v : PlainWorld) (bs : Bound) (x : PyStrInterned) (c : ℕ) (name text : Text) → s ≡ give (v, bindings t bs) (t.text x.0) c (AText text) → v ≡ u → t.text x.0 ≡ known_text known.Qualname → c ≡ 6 → text ≡ name → s ≡ qualify name (u, bindings t bs)
  unfolding qualify
  qualified s u v bs x c name text h e f k m = h ∙ (λ i. give (e i, bindings t bs) (f i) (k i) (AText (m i)))

  pub wrap-kept : (u : PlainWorld) (bs : Bound) (x : Text) (o : Option PyObjectRef) (r : PyObjectRef) → o ≡ Some r → is_class (class_at u r) 10 ≡ false → ◌≡◌ {A = Space} (u, bindings t bs) (wrap_value (u, bindings t bs) x o)
  unfolding wrap_value
  wrap-kept u bs x o r e h =
      sym (ap (λ b. cond b (put (u, bindings t bs) x 18 (AClassMethod r)) (u, bindings t bs)) h) ∙ ap (wrap_value (u, bindings t bs) x) (sym e)

  pub wrap-put : (s : Space) (u : PlainWorld) (bs : Bound) (x : Text) (c : ℕ) (o : Option PyObjectRef) (r : PyObjectRef) → o ≡ Some r → is_class (class_at u r) 10 ≡ true → s ≡ put (u, bindings t bs) x c (AClassMethod r) → c ≡ 18 → s ≡ wrap_value (u, bindings t bs) x o
  unfolding wrap_value
  wrap-put s u bs x c o r i h k e =
      k ∙ ap (λ n. put (u, bindings t bs) x n (AClassMethod r)) e ∙ sym (ap (λ b. cond b (put (u, bindings t bs) x 18 (AClassMethod r)) (u, bindings t bs)) h) ∙ ap (wrap_value (u, bindings t bs) x) (sym i)

  pub wrapped : (s : Space) (u v : PlainWorld) (bs : Bound) (x : PyStrInterned) (text : Text) (o : Option PyObjectRef) → s ≡ wrap_value (v, bindings t bs) (t.text x.0) o → v ≡ u → t.text x.0 ≡ text → o ≡ value_of (λ k. is_same_name k x) bs → s ≡ wrap text (u, bindings t bs)
  unfolding wrap
  wrapped s u v bs x text o h e f k =
      let i : s ≡ wrap_value (u, bindings t bs) text o = h ∙ (λ i. wrap_value (e i, bindings t bs) (f i) o) in
      i ∙ ap (wrap_value (u, bindings t bs) text) (k ∙ sym (has-read bs x text f))

  unhash-read : (bs : Bound) (e h : PyStrInterned) → t.text e.0 ≡ known_text known.Eq → t.text h.0 ≡ known_text known.Hash → has_name (bindings t bs) (known_text known.Eq) && not (has_name (bindings t bs) (known_text known.Hash)) ≡ is_some (value_of (λ k. is_same_name k e) bs) && not (is_some (value_of (λ k. is_same_name k h) bs))
  unhash-read bs e h f g =
      let a = ap is_some (has-read bs e (known_text known.Eq) f) in
      let b = ap is_some (has-read bs h (known_text known.Hash) g) in
      λ i. a i && not (b i)

  pub unhash-kept : (u v : PlainWorld) (bs : Bound) (e h : PyStrInterned) → v ≡ u → t.text e.0 ≡ known_text known.Eq → t.text h.0 ≡ known_text known.Hash → is_some (value_of (λ k. is_same_name k e) bs) && not (is_some (value_of (λ k. is_same_name k h) bs)) ≡ false → ◌≡◌ {A = Space} (v, bindings t bs) (unhash (u, bindings t bs))
  unfolding unhash
  unhash-kept u v bs e h same f g k =
      let s : Space = (u, bindings t bs) in
      let there : ◌≡◌ {A = Space} (v, bindings t bs) (u, bindings t bs) = λ i. (same i, bindings t bs) in
      there ∙ sym (ap (λ b. cond b (s.0, with_value is_text s.1 (known_text known.Hash) none) s) (unhash-read bs e h f g ∙ k))

  pub unhash-new : (u v : PlainWorld) (bs cs : Bound) (e h : PyStrInterned) (r : PyObjectRef) → v ≡ u → t.text e.0 ≡ known_text known.Eq → t.text h.0 ≡ known_text known.Hash → is_some (value_of (λ k. is_same_name k e) bs) && not (is_some (value_of (λ k. is_same_name k h) bs)) ≡ true → r.0 ≡ 23 → cs ≡ with_value is_same_name bs h r → ◌≡◌ {A = Space} (v, bindings t cs) (unhash (u, bindings t bs))
  unfolding unhash
  unhash-new u v bs cs e h r same f g k z m =
      let s : Space = (u, bindings t bs) in
      let ends : bindings t cs ≡ with_value is_text (bindings t bs) (known_text known.Hash) none =
      sym (named-read bs cs h (known_text known.Hash) r g m) ∙ ap (λ (n : ℕ). with_value is_text (bindings t bs) (known_text known.Hash) (record { 0 = n })) z in
      let there : ◌≡◌ {A = Space} (v, bindings t cs) (u, with_value is_text (bindings t bs) (known_text known.Hash) none) = λ i. (same i, ends i) in
      there ∙ sym (ap (λ b. cond b (s.0, with_value is_text s.1 (known_text known.Hash) none) s) (unhash-read bs e h f g ∙ k))

module _ (old new : Held) where
  -- attributes with one more name
  pub insert-holds : (bs cs : Bound) (x : PyStrInterned) (r : PyObjectRef) → Grows old new → AllHold old (of_each of_binding bs) → Holds new (IsName x) → Holds new (IsNode r) → cs ≡ with_value is_same_name bs x r → AllHold new (of_each of_binding cs)
  insert-holds bs cs x r g h n k e =
      subst (λ cs. AllHold new (of_each of_binding cs)) (sym e) (with_value-holds new bs x r (all-grow old new g (of_each of_binding bs) h) n k)

  pub value-there : (bs : Bound) (x : PyStrInterned) (o : Option PyObjectRef) → Grows old new → AllHold old (of_each of_binding bs) → o ≡ value_of (λ k. is_same_name k x) bs → IfSome o (λ r. Holds new (IsNode r))
  value-there bs x o g h e =
      subst (λ o. IfSome o (λ r. Holds new (IsNode r))) (sym e) (value-holds new (λ k. is_same_name k x) bs (all-grow old new g (of_each of_binding bs) h))

-- what the creation of a class adds to its attributes changes no class

put-classes : (s : Space) (x : Text) (c : ℕ) (d : Datum) → (put s x c d).0.classes ≡ s.0.classes
unfolding put
put-classes s x c d = elim (has_dict s.0 c) as (λ b. (cond b (push_node (push_node s.0 the_dict None (ADict [])) c (Some (ref (length s.0.nodes))) d) (push_node s.0 c None d)).classes ≡ s.0.classes) [
  | true ↦ refl
  | false ↦ refl
]

give-classes : (s : Space) (x : Text) (c : ℕ) (d : Datum) → (give s x c d).0.classes ≡ s.0.classes
unfolding give
give-classes s x c d = elim (has_name s.1 x) as (λ b. (cond b s (put s x c d)).0.classes ≡ s.0.classes) [
  | true ↦ refl
  | false ↦ put-classes s x c d
]

wrap_value-classes : (s : Space) (x : Text) (o : Option PyObjectRef) → (wrap_value s x o).0.classes ≡ s.0.classes
unfolding wrap_value
wrap_value-classes s x None = refl
wrap_value-classes s x (Some v) = elim (is_class (class_at s.0 v) the_function) as (λ b. (cond b (put s x the_class_method (AClassMethod v)) s).0.classes ≡ s.0.classes) [
  | true ↦ put-classes s x the_class_method (AClassMethod v)
  | false ↦ refl
]

wrap-classes : (x : Text) (s : Space) → (wrap x s).0.classes ≡ s.0.classes
unfolding wrap
wrap-classes x s = wrap_value-classes s x (value_of (λ y. is_text y x) s.1)

qualify-classes : (name : Text) (s : Space) → (qualify name s).0.classes ≡ s.0.classes
unfolding qualify
qualify-classes name s = give-classes s (known_text known.Qualname) the_str (AText name)

unhash-classes : (s : Space) → (unhash s).0.classes ≡ s.0.classes
unfolding unhash
unhash-classes s = elim (has_name s.1 (known_text known.Eq) && not (has_name s.1 (known_text known.Hash))) as (λ b. (cond b (s.0, with_value is_text s.1 (known_text known.Hash) none) s).0.classes ≡ s.0.classes) [
  | true ↦ refl
  | false ↦ refl
]

give_dict-classes : (s : Space) → (give_dict s).0.classes ≡ s.0.classes
unfolding give_dict
give_dict-classes s = give-classes s (known_text known.Dict) the_getset (AGetSet the_object (known_text known.Dict) (Some (Getter property.InstanceDict)) (Some (Setter property.InstanceDict)))

pub completed-classes : (name : Text) (s : Space) → (completed name s).0.classes ≡ s.0.classes
unfolding completed
completed-classes name s =
    let told = wrap (known_text known.InitSubclass) s in
    let all = wrap (known_text known.ClassGetitem) told in
    unhash-classes (qualify name all)
    ∙ qualify-classes name all
    ∙ wrap-classes (known_text known.ClassGetitem) told
    ∙ wrap-classes (known_text known.InitSubclass) s

pub dicted-classes : (bases : List ℕ) (slots : Option (List Text)) (s : Space) → (dicted bases slots s).0.classes ≡ s.0.classes
unfolding dicted
dicted-classes bases slots s = elim (would_have_dict s.0 bases slots) as (λ b. (cond b (give_dict s) s).0.classes ≡ s.0.classes) [ true ↦ give_dict-classes s | false ↦ refl ]

pub dict-wanted : (b : Bool) (bases : List ℕ) (slots : Option (List Text)) (s : Space) → would_have_dict s.0 bases slots ≡ b → cond b (give_dict s) s ≡ dicted bases slots s
unfolding dicted
dict-wanted b bases slots s e = ap (λ b. cond b (give_dict s) s) (sym e)

-- the entries of a dict become attributes, one after another
pub record Naming (old now : World) (attrs : Bound) (rest all : List (PyObjectRef × PyObjectRef)) : Type 0 where
  pub named : (t : Reading) → Reads t now → namespace_from (plain t old) (Some (bindings t attrs)) rest ≡ namespace_from (plain t old) (Some []) all
  pub same : (t : Reading) → plain t now ≡ plain t old
  pub reads : (t : Reading) → Reads t now → Reads t old
  pub grows : Grows old now
  pub holds : AllHold now (of_each of_binding attrs)

pub key-named : (t : Reading) (bs cs : Bound) (x : PyStrInterned) (text : Text) (r : PyObjectRef) (o : Option Text) → o ≡ Some text → t.text x.0 ≡ text → cs ≡ with_value is_same_name bs x r → named (bindings t bs) r o ≡ Some (bindings t cs)
key-named t bs cs x text r o e f g = ap (named (bindings t bs) r) e ∙ ap Some (named-read t bs cs x text r f g)

pub pair-in : {E : Type 0} (w : Held) (f : E → PyObjectRef) (es : List E) (i : ℕ) (d : E) → i < length es → Holds w (AreNodes (map f es)) → Holds w (IsNode (f (get_or es i d)))
unfolding Holds
pair-in w f [] i d l h = absurd (omega arith)
pair-in w f (e ∷ es) zero d l h = h 0 (f d) (omega arith)
pair-in w f (e ∷ es) (suc i) d l h = pair-in w f es i d (omega arith) (λ j e k. h (suc j) e (omega arith))

pub naming-step : (old now new : World) (attrs more : Bound) (es : List (PyObjectRef × PyObjectRef)) (i : ℕ) (d : PyObjectRef × PyObjectRef) (o : Option Bound) → Naming old now attrs (drop i es) es → i < length es → ((t : Reading) → Reads t new → named (bindings t attrs) (get_or es i d).1 (text_of (datum_at (plain t now) (get_or es i d).0)) ≡ option_map (λ a. bindings t a) o) → o ≡ Some more → ((t : Reading) → plain t new ≡ plain t now) → ((t : Reading) → Reads t new → Reads t now) → Grows now new → IfSome o (λ a. AllHold new (of_each of_binding a)) → Naming old new more (drop (suc i) es) es
naming-step old now new attrs more es i d o h l n e s r g a = record {
  named = λ t q.
      let u = plain t old in
      let step : named (bindings t attrs) (get_or es i d).1 (text_of (datum_at u (get_or es i d).0)) ≡ Some (bindings t more) =
      ap (λ v. named (bindings t attrs) (get_or es i d).1 (text_of (datum_at v (get_or es i d).0))) (sym (h.same t)) ∙ n t q ∙ ap (option_map (λ a. bindings t a)) e in
      sym (ap (λ o. namespace_from u o (drop (suc i) es)) step) ∙ sym (ap (namespace_from u (Some (bindings t attrs))) (drop-cons es i d l)) ∙ h.named t (r t q);
  same = λ t. s t ∙ h.same t;
  reads = λ t q. h.reads t (r t q);
  grows = grows-on old now new h.grows g;
  holds = subst (λ o. IfSome o (λ a. AllHold new (of_each of_binding a))) e a;
}

-- Dicts as they are read, by numbers and by texts.
use Rattle.class_world.proofs.Below.{ℕ, zero, suc, Bool, true, List, [], length, map, Option, Some, None, refl, sym, ap, ◌∙◌, subst, arith, true≢false, slice_get, is_some, option_map, option_and_then, string_bytes, position, bytes_eq-Decides, PyObjectRef, PyStrInterned, Classes, Node as StoredNode, Payload, Dict, value_of, put_at, Text, Datum, AText, ADict, or_empty, datum_at, with_node, next_node, the_str, with_datum_in, Entries, entries_in, is_text_datum, is_key, value_in, with_entries, with_value_for, set_under, with_value_in, without_value_for, without_value_in, TextKey, AreKeys, key_of, key_at, Held, entries_of, entries_at, held_entries, is_text_of, is_text_at, is_held_key, held_text, of_entries, Reading, Reads, datum, node_of, plain, IsNode, IsName, KeysDiffer, KeysRead, Holding, home_of, home_at, key_in, held_key, Holds, AllHold, Grows, remove}
use Rattle.std.proofs.Common.{◌≡◌, ◌<◌, ◌∷◌, ◌++◌}
use Rattle.py_node.specs.declared.payload.Payload.TheVariants as payload
use Rattle.py_node.specs.declared.dict.PyDictKey.TheVariants.{Text as StoredText}
use Rattle.plain_machine.specs.Plain.{Node}
use Rattle.class_world.proofs.NewNodes.{datum-stays, datum-new}
use Rattle.class_world.proofs.SoundWorld.{key_at-read, keys-stored, keys-read}
use Rattle.class_world.proofs.DictEntries.{IsFirstFrom, NonePasses, first-key, no-key, keys-pushed, map-end}
use Rattle.class_world.proofs.KeysRead.{text-there}

payload-entries : (t : Reading) (p : Payload) → entries_in (Some (datum t p)) ≡ entries_of p
payload-entries t payload.Object = refl
payload-entries t (payload.Class d) = refl
payload-entries t (payload.Number z) = refl
payload-entries t (payload.Text s) = refl
payload-entries t (payload.Tuple rs) = refl
payload-entries t (payload.List rs) = refl
payload-entries t (payload.Dict es) = refl
payload-entries t (payload.Function f) = refl
payload-entries t (payload.Method m) = refl
payload-entries t (payload.NativeFunction f) = refl
payload-entries t (payload.BuiltinMethod m) = refl
payload-entries t (payload.MethodDescriptor m) = refl
payload-entries t (payload.GetSet g) = refl
payload-entries t (payload.ClassMethod r) = refl
payload-entries t (payload.StaticMethod r) = refl
payload-entries t (payload.Member m) = refl
payload-entries t (payload.Property p) = refl
payload-entries t (payload.Super s) = refl
payload-entries t (payload.Iterator i) = refl
payload-entries t (payload.Slice s) = refl

payload-text : (t : Reading) (x : Text) (p : Payload) → is_text_datum x (Some (datum t p)) ≡ is_text_of x p
payload-text t x payload.Object = refl
payload-text t x (payload.Class d) = refl
payload-text t x (payload.Number z) = refl
payload-text t x (payload.Text s) = refl
payload-text t x (payload.Tuple rs) = refl
payload-text t x (payload.List rs) = refl
payload-text t x (payload.Dict es) = refl
payload-text t x (payload.Function f) = refl
payload-text t x (payload.Method m) = refl
payload-text t x (payload.NativeFunction f) = refl
payload-text t x (payload.BuiltinMethod m) = refl
payload-text t x (payload.MethodDescriptor m) = refl
payload-text t x (payload.GetSet g) = refl
payload-text t x (payload.ClassMethod r) = refl
payload-text t x (payload.StaticMethod r) = refl
payload-text t x (payload.Member m) = refl
payload-text t x (payload.Property p) = refl
payload-text t x (payload.Super s) = refl
payload-text t x (payload.Iterator i) = refl
payload-text t x (payload.Slice s) = refl

entries-stored : (t : Reading) (ks : Classes PyStrInterned) (ns : List StoredNode) (n : ℕ) → entries_in (option_map (λ (x : Node). x.datum) (slice_get (map (node_of t ks) ns) n)) ≡ entries_at (slice_get ns n)
entries-stored t ks [] n = refl
entries-stored t ks (x ∷ ns) zero = payload-entries t x.payload
entries-stored t ks (x ∷ ns) (suc n) = entries-stored t ks ns n

text-stored : (t : Reading) (ks : Classes PyStrInterned) (x : Text) (ns : List StoredNode) (n : ℕ) → is_text_datum x (option_map (λ (x : Node). x.datum) (slice_get (map (node_of t ks) ns) n)) ≡ is_text_at x (slice_get ns n)
text-stored t ks x [] n = refl
text-stored t ks x (y ∷ ns) zero = payload-text t x y.payload
text-stored t ks x (y ∷ ns) (suc n) = text-stored t ks x ns n

pub entries-read : (t : Reading) (w : Held) (r : PyObjectRef) → entries_in (datum_at (plain t w) r) ≡ held_entries w.nodes r
unfolding plain
entries-read t w r = entries-stored t w.classes w.nodes r.0

is-key-read : (t : Reading) (w : Held) (x : Text) (k : PyObjectRef) → is_key (plain t w) x k ≡ is_held_key w.nodes x k
unfolding plain
is-key-read t w x k = text-stored t w.classes x w.nodes k.0

tests-read : (t : Reading) (w : Held) (x : Text) → is_key (plain t w) x ≡ is_held_key w.nodes x
tests-read t w x = λ i k. is-key-read t w x k i

pub value-read : (t : Reading) (w : Held) (x : Text) (d : PyObjectRef) → value_in (plain t w) x d ≡ value_of (is_held_key w.nodes x) (held_entries w.nodes d)
value-read t w x d =
    let test = tests-read t w x in
    let es = entries-read t w d in
    λ i. value_of (test i) (es i)

-- the text of a name
pub text-read : (t : Reading) (w : Held) (x : PyStrInterned) → Reads t w → Holds w (IsName x) → t.text x.0 ≡ held_text w x
unfolding Holds
text-read t w x r h = go (slice_get w.names x.0) refl
  where
    there : (xs : List Text) (n : ℕ) → n < length xs → slice_get xs n ≡ None → ⊥
    there [] n l e = absurd (omega arith)
    there (y ∷ xs) zero l e = cc
    there (y ∷ xs) (suc n) l e = there xs n (omega arith) e

    go : (o : Option Text) → slice_get w.names x.0 ≡ o → t.text x.0 ≡ or_empty (slice_get w.names x.0)
    go None e = absurd (there w.names x.0 h e)
    go (Some y) e = r.names x.0 y e ∙ sym (ap or_empty e)

-- the place of a name among the keys of a dict
module _ (t : Reading) (w : Held) (d : PyObjectRef) (name : PyStrInterned) (r : Reads t w) (h : Holds w (IsName name)) where
  abbrev first : Text → Option ℕ
  first x = position (λ e. is_held_key w.nodes x e.0) (held_entries w.nodes d)

  pub none-named : None ≡ first (held_text w name) → NonePasses (is_held_key w.nodes (t.text name.0)) (held_entries w.nodes d)
  none-named q = no-key (is_held_key w.nodes (t.text name.0)) (held_entries w.nodes d) (q ∙ ap first (sym (text-read t w name r h)))

  pub first-named : (n : ℕ) → Some n ≡ first (held_text w name) → IsFirstFrom (is_held_key w.nodes (t.text name.0)) 0 n (held_entries w.nodes d)
  first-named n q = first-key (is_held_key w.nodes (t.text name.0)) n (held_entries w.nodes d) (q ∙ ap first (sym (text-read t w name r h)))

module _ (t : Reading) (w : Held) (d : PyObjectRef) (x : Text) where
  abbrev test : PyObjectRef → Bool
  test = is_held_key w.nodes x

  abbrev es : Entries
  es = held_entries w.nodes d

  get-there : (es : Entries) (i : ℕ) → i < length es → (e : PyObjectRef × PyObjectRef) × (slice_get es i ≡ Some e)
  get-there [] i l = absurd (omega arith)
  get-there (e ∷ es) zero l = (e, refl)
  get-there (e ∷ es) (suc i) l = get-there es i (omega arith)

  -- the value of the first key that is the text
  pub first-value : (n : ℕ) → IsFirstFrom test 0 n es → value_in (plain t w) x d ≡ option_map (λ e. e.1) (slice_get es n)
  first-value n f =
      let same : n ≡ f.place = omega (arith, f.is) in
      value-read t w x d ∙ f.value ∙ ap (λ i. option_map (λ e. e.1) (slice_get es i)) (sym same)

  pub no-value : NonePasses test es → value_in (plain t w) x d ≡ None
  no-value f = value-read t w x d ∙ f.value

  -- a dict with a value in the place of another one
  pub put-read : (v : PyObjectRef) (n : ℕ) → IsFirstFrom test 0 n es → with_entries (plain t w) d (put_at es n v) ≡ with_value_in (plain t w) d x v
  put-read v n f =
      let same : n ≡ f.place = omega (arith, f.is) in
      let old = get-there es f.place f.below in
      let value : value_in (plain t w) x d ≡ Some old.0.1 = value-read t w x d ∙ f.value ∙ ap (option_map (λ e. e.1)) old.1 in
      let tests = tests-read t w x in
      let all = entries-read t w d in
      ap (λ i. with_entries (plain t w) d (put_at es i v)) same
      ∙ ap (with_entries (plain t w) d) (sym (f.put v))
      ∙ (λ i. with_entries (plain t w) d (with_value_for (sym tests i) v (sym all i)))
      ∙ sym (ap (set_under (plain t w) d x v) value)

  -- a dict with one more
  pub add-read : (v : PyObjectRef) → NonePasses test es → with_entries (with_node (plain t w) the_str (AText x)) d (es ++ (next_node (plain t w) the_str, v) ∷ []) ≡ with_value_in (plain t w) d x v
  add-read v f =
      ap (λ es. with_entries (with_node (plain t w) the_str (AText x)) d (es ++ (next_node (plain t w) the_str, v) ∷ [])) (sym (entries-read t w d))
      ∙ sym (ap (set_under (plain t w) d x v) (no-value f))

  -- a dict without a value that is there, and without one that is not
  pub taken-read : (n : ℕ) → IsFirstFrom test 0 n es → with_entries (plain t w) d (remove es n) ≡ without_value_in (plain t w) d x
  taken-read n f =
      let same : n ≡ f.place = omega (arith, f.is) in
      let tests = tests-read t w x in
      let all = entries-read t w d in
      ap (λ i. with_entries (plain t w) d (remove es i)) same
      ∙ ap (with_entries (plain t w) d) (sym f.taken)
      ∙ (λ i. with_entries (plain t w) d (without_value_for (sym tests i) (sym all i)))

  dict-itself : (p : Payload) → home_of p ≡ Dict → ADict (entries_of p) ≡ datum t p
  dict-itself payload.Object e = cc
  dict-itself (payload.Class c) e = cc
  dict-itself (payload.Number z) e = cc
  dict-itself (payload.Text s) e = cc
  dict-itself (payload.Tuple rs) e = cc
  dict-itself (payload.List rs) e = cc
  dict-itself (payload.Dict xs) e = refl
  dict-itself (payload.Function f) e = cc
  dict-itself (payload.Method m) e = cc
  dict-itself (payload.NativeFunction f) e = cc
  dict-itself (payload.BuiltinMethod m) e = cc
  dict-itself (payload.MethodDescriptor m) e = cc
  dict-itself (payload.GetSet g) e = cc
  dict-itself (payload.ClassMethod r) e = cc
  dict-itself (payload.StaticMethod r) e = cc
  dict-itself (payload.Member m) e = cc
  dict-itself (payload.Property p) e = cc
  dict-itself (payload.Super s) e = cc
  dict-itself (payload.Iterator i) e = cc
  dict-itself (payload.Slice s) e = cc

  nodes-same : (ns : List StoredNode) (n : ℕ) → home_at ns n ≡ Some Dict → with_datum_in (λ m. ADict (entries_at (slice_get ns n))) (map (node_of t w.classes) ns) n ≡ map (node_of t w.classes) ns
  nodes-same [] n e = cc
  nodes-same (y ∷ ns) zero e =
      let home : home_of y.payload ≡ Dict = cc in
      ap (λ m. record (node_of t w.classes y) { datum = m } ∷ map (node_of t w.classes) ns) (dict-itself y.payload home)
  nodes-same (y ∷ ns) (suc n) e = ap (λ ms. node_of t w.classes y ∷ ms) (nodes-same ns n e)

  pub kept-read : Holds w (Holding d Dict) → NonePasses test es → plain t w ≡ without_value_in (plain t w) d x
  unfolding plain Holds
  kept-read h f =
      let tests = tests-read t w x in
      let all = entries-read t w d in
      ap (λ (ns : List Node). record (plain t w) { nodes = ns }) (sym (nodes-same w.nodes d.0 h))
      ∙ ap (with_entries (plain t w) d) (sym f.taken)
      ∙ (λ i. with_entries (plain t w) d (without_value_for (sym tests i) (sym all i)))

-- a text that is the key
text-key : (x : Text) (p : Payload) → key_in p ≡ Some (TextKey x) → is_text_of x p ≡ true
text-key x payload.Object e = cc
text-key x (payload.Class c) e = cc
text-key x (payload.Number z) e = cc
text-key x (payload.Text s) e = let same : string_bytes s ≡ x = cc in (bytes_eq-Decides (string_bytes s) x).1 same
text-key x (payload.Tuple rs) e = cc
text-key x (payload.List rs) e = cc
text-key x (payload.Dict es) e = cc
text-key x (payload.Function f) e = cc
text-key x (payload.Method m) e = cc
text-key x (payload.NativeFunction f) e = cc
text-key x (payload.BuiltinMethod m) e = cc
text-key x (payload.MethodDescriptor m) e = cc
text-key x (payload.GetSet g) e = cc
text-key x (payload.ClassMethod r) e = cc
text-key x (payload.StaticMethod r) e = cc
text-key x (payload.Member m) e = cc
text-key x (payload.Property p) e = cc
text-key x (payload.Super s) e = cc
text-key x (payload.Iterator i) e = cc
text-key x (payload.Slice s) e = cc

held-text-key : (x : Text) (o : Option StoredNode) → option_and_then (λ (n : StoredNode). key_in n.payload) o ≡ Some (TextKey x) → is_text_at x o ≡ true
held-text-key x None e = cc
held-text-key x (Some n) e = text-key x n.payload e

-- a world with one more text
module _ (t : Reading) (w m : Held) (x : Text) (made : plain t m ≡ with_node (plain t w) the_str (AText x)) where
  still : (r : PyObjectRef) (e : Datum) → datum_at (plain t w) r ≡ Some e → datum_at (plain t m) r ≡ Some e
  still r e h = ap (λ u. datum_at u r) made ∙ datum-stays (plain t w) the_str (AText x) e r h

  there : (ns : List StoredNode) (n : ℕ) → n < length ns → (e : Datum) × (option_map (λ (x : Node). x.datum) (slice_get (map (node_of t w.classes) ns) n) ≡ Some e)
  there [] n l = absurd (omega arith)
  there (y ∷ ns) zero l = (datum t y.payload, refl)
  there (y ∷ ns) (suc n) l = there ns n (omega arith)

  -- the entries of a dict stay
  pub entries-stay : (d : PyObjectRef) → Holds w (IsNode d) → held_entries m.nodes d ≡ held_entries w.nodes d
  unfolding plain Holds
  entries-stay d h =
      let e = there w.nodes d.0 h in
      sym (entries-read t m d) ∙ ap entries_in (still d e.0 e.1 ∙ sym e.1) ∙ entries-read t w d

  key-stays : (r : PyObjectRef) → is_some (key_at (plain t w) r) ≡ true → key_at (plain t m) r ≡ key_at (plain t w) r
  key-stays r h = go (datum_at (plain t w) r) refl h
    where
      go : (o : Option Datum) → datum_at (plain t w) r ≡ o → is_some (option_and_then key_of o) ≡ true → key_at (plain t m) r ≡ key_at (plain t w) r
      go None e h = cc
      go (Some k) e h = ap (option_and_then key_of) (still r k e ∙ sym e)

  key-new : (key : PyObjectRef) → key ≡ next_node (plain t w) the_str → key_at (plain t m) key ≡ Some (TextKey x)
  key-new key q = ap (option_and_then key_of) (ap (λ u. datum_at u key) made ∙ ap (datum_at (with_node (plain t w) the_str (AText x))) q ∙ datum-new (plain t w) the_str (AText x))

  -- the new text is what its name says
  pub new-key-read : (name : PyStrInterned) (key : PyObjectRef) → Reads t m → Holds m (IsName name) → t.text name.0 ≡ x → key ≡ next_node (plain t w) the_str → Holds m (KeysRead (StoredText name ∷ []) (key ∷ []))
  unfolding Holds
  new-key-read name key r h s q =
      let spelled : slice_get m.names name.0 ≡ Some x = text-there m.names name.0 h ∙ ap Some (sym (text-read t m name r h) ∙ s) in
      ((TextKey x, ap (option_map TextKey) spelled, sym (key_at-read t m key) ∙ key-new key q), tt)

  -- the new text is unlike the keys of which none is that text
  pub new-key-differs : (es : Entries) (key v : PyObjectRef) → key ≡ next_node (plain t w) the_str → NonePasses (is_held_key w.nodes x) es → AllHold w (of_entries es) → Grows w m → Holds m (KeysDiffer (map (λ e. e.0) (es ++ (key, v) ∷ [])))
  unfolding Holds
  new-key-differs es key v q f h g =
      let rs = map (λ e. e.0) es in
      let here = key-new key q in
      let unlike : (i : ℕ) (s : PyObjectRef) → slice_get rs i ≡ Some s → key_at (plain t m) key ≡ key_at (plain t m) s → ⊥ =
      λ i s e same.
      let known : is_some (key_at (plain t w) s) ≡ true = ap is_some (key_at-read t w s) ∙ h.1.1.0.known i s e in
      let held : held_key w.nodes s ≡ Some (TextKey x) = sym (key_at-read t w s) ∙ sym (key-stays s known) ∙ sym same ∙ here in
      true≢false (sym (held-text-key x (slice_get w.nodes s.0) held) ∙ f.fails i s e) in
      let all = keys-pushed (key_at (plain t m)) rs key (keys-read t m rs (g.still (KeysDiffer rs) h.1.1.0)) (ap is_some here) unlike in
      keys-stored t m (map (λ e. e.0) (es ++ (key, v) ∷ [])) (subst (AreKeys (key_at (plain t m))) (sym (map-end (λ e. e.0) es (key, v))) all)

-- Stored keys and the objects that they name: one is found where the other stands.
use Rattle.class_world.proofs.Below.{ℕ, zero, suc, Bool, true, false, cond, List, [], length, map, Option, Some, None, refl, sym, ap, ◌∙◌, arith, slice_get, position, option_map, option_and_then, remove, position_from, eq-eqb, eqb-true, Decides-int_eq, position_from-zero, bytes_eq-Decides, PyDictKey, Node, Payload, PyObjectRef, PyStrInterned, is_same_key, AreDistinct, Text, Entries, is_one_key, or_empty, Key, NumberKey, TextKey, AreKeys, is_text_of, is_text_at, is_held_key, key_in, held_key, read_key, IsRead, AreRead}
use Rattle.std.proofs.Common.{◌≡◌, ◌+◌, ◌<◌, ◌∷◌, ◌++◌}
use Rattle.py_node.specs.declared.dict.PyDictKey.TheVariants as dict_key
use Rattle.py_node.specs.declared.payload.Payload.TheVariants as payload
use Rattle.class_world.proofs.Readable.{same-tests}

-- stored keys that are one are the same
same-key : (k j : PyDictKey) → is_same_key k j ≡ true → k ≡ j
same-key (dict_key.Number n) (dict_key.Number m) e = ap dict_key.Number ((Decides-int_eq n m).0 e)
same-key (dict_key.Number n) (dict_key.Text y) e = cc
same-key (dict_key.Text x) (dict_key.Number m) e = cc
same-key (dict_key.Text x) (dict_key.Text y) e = ap (λ (n : ℕ). dict_key.Text (record { 0 = n })) (eqb-true x.0 y.0 e)

itself : (k : PyDictKey) → is_same_key k k ≡ true
itself (dict_key.Number n) = (Decides-int_eq n n).1 refl
itself (dict_key.Text x) = eq-eqb x.0 x.0 refl

one-key : (c : Key) → is_one_key (Some c) (Some c) ≡ true
one-key (NumberKey n) = (Decides-int_eq n n).1 refl
one-key (TextKey x) = (bytes_eq-Decides x x).1 refl

pub one-same : (c d : Key) → is_one_key (Some c) (Some d) ≡ true → c ≡ d
one-same (NumberKey n) (NumberKey m) e = ap NumberKey ((Decides-int_eq n m).0 e)
one-same (NumberKey n) (TextKey y) e = cc
one-same (TextKey x) (NumberKey m) e = cc
one-same (TextKey x) (TextKey y) e = ap TextKey ((bytes_eq-Decides x y).0 e)

-- the text of a name that is there
pub text-there : (xs : List Text) (n : ℕ) → n < length xs → slice_get xs n ≡ Some (or_empty (slice_get xs n))
text-there [] n l = absurd (omega arith)
text-there (x ∷ xs) zero l = refl
text-there (x ∷ xs) (suc n) l = text-there xs n (omega arith)

module _ (names : List (List ℕ)) (ns : List Node) where
  -- in a table in which no text stands twice, stored keys that name one key are the same
  reads-apart : AreDistinct names → (k j : PyDictKey) (c : Key) → read_key names k ≡ Some c → read_key names j ≡ Some c → k ≡ j
  reads-apart a (dict_key.Number n) (dict_key.Number m) c p q = let same : n ≡ m = cc in ap dict_key.Number same
  reads-apart a (dict_key.Number n) (dict_key.Text y) c p q = go (slice_get names y.0) q
    where
      go : (o : Option (List ℕ)) → option_map TextKey o ≡ Some c → dict_key.Number n ≡ dict_key.Text y
      go None q = cc
      go (Some u) q = cc
  reads-apart a (dict_key.Text x) (dict_key.Number m) c p q = go (slice_get names x.0) p
    where
      go : (o : Option (List ℕ)) → option_map TextKey o ≡ Some c → dict_key.Text x ≡ dict_key.Number m
      go None p = cc
      go (Some u) p = cc
  reads-apart a (dict_key.Text x) (dict_key.Text y) c p q = go (slice_get names x.0) (slice_get names y.0) refl refl p q
    where
      go : (o u : Option (List ℕ)) → slice_get names x.0 ≡ o → slice_get names y.0 ≡ u → option_map TextKey o ≡ Some c → option_map TextKey u ≡ Some c → dict_key.Text x ≡ dict_key.Text y
      go None u e f p q = cc
      go (Some t) None e f p q = cc
      go (Some t) (Some v) e f p q =
          let same : t ≡ v = cc in
          ap (λ (n : ℕ). dict_key.Text (record { 0 = n })) (a x.0 y.0 v (e ∙ ap Some same) f)

  -- a stored key is that of an object exactly where the object is the key that it names
  one-is : AreDistinct names → (k j : PyDictKey) (c : Key) (r : PyObjectRef) → read_key names k ≡ Some c → IsRead names ns j r → is_same_key k j ≡ is_one_key (held_key ns r) (Some c)
  one-is a k j c r p h = same-tests (is_same_key k j) (is_one_key (held_key ns r) (Some c)) there back
    where
      there : is_same_key k j ≡ true → is_one_key (held_key ns r) (Some c) ≡ true
      there e =
          let known : Some h.0 ≡ Some c = sym h.1 ∙ ap (read_key names) (sym (same-key k j e)) ∙ p in
          ap (λ o. is_one_key o (Some c)) (h.2 ∙ known) ∙ one-key c

      back : is_one_key (held_key ns r) (Some c) ≡ true → is_same_key k j ≡ true
      back e =
          let same = one-same h.0 c (ap (λ o. is_one_key o (Some c)) (sym h.2) ∙ e) in
          ap (is_same_key k) (sym (reads-apart a k j c p (h.1 ∙ ap Some same))) ∙ itself k

  -- tests that agree of each stored key and its object find the same place
  places-from : (test : PyDictKey → Bool) (of : PyObjectRef → Bool) → ((j : PyDictKey) (r : PyObjectRef) → IsRead names ns j r → test j ≡ of r) → (n : ℕ) (ks : List PyDictKey) (es : Entries) → AreRead names ns ks (map (λ e. e.0) es) → position_from test n ks ≡ position_from (λ e. of e.0) n es
  places-from test of q n [] [] h = refl
  places-from test of q n [] (e ∷ es) h = absurd h
  places-from test of q n (k ∷ ks) [] h = absurd h
  places-from test of q n (k ∷ ks) (e ∷ es) h =
      let here = q k e.0 h.0 in
      let rest = places-from test of q (n + 1) ks es h.1 in
      λ i. cond (here i) (Some n) (rest i)

  places : (test : PyDictKey → Bool) (of : PyObjectRef → Bool) → ((j : PyDictKey) (r : PyObjectRef) → IsRead names ns j r → test j ≡ of r) → (ks : List PyDictKey) (es : Entries) → AreRead names ns ks (map (λ e. e.0) es) → position test ks ≡ position (λ e. of e.0) es
  places test of q ks es h = position_from-zero test ks ∙ places-from test of q 0 ks es h ∙ sym (position_from-zero (λ e. of e.0) es)

  -- where no test passes, nothing is found
  nowhere-from : (of : PyObjectRef → Bool) → ((j : PyDictKey) (r : PyObjectRef) → IsRead names ns j r → of r ≡ false) → (n : ℕ) (ks : List PyDictKey) (es : Entries) → AreRead names ns ks (map (λ e. e.0) es) → position_from (λ e. of e.0) n es ≡ None
  nowhere-from of q n ks [] h = refl
  nowhere-from of q n [] (e ∷ es) h = absurd h
  nowhere-from of q n (k ∷ ks) (e ∷ es) h =
      ap (λ b. cond b (Some n) (position_from (λ e. of e.0) (n + 1) es)) (q k e.0 h.0) ∙ nowhere-from of q (n + 1) ks es h.1

  nowhere : (of : PyObjectRef → Bool) → ((j : PyDictKey) (r : PyObjectRef) → IsRead names ns j r → of r ≡ false) → (ks : List PyDictKey) (es : Entries) → AreRead names ns ks (map (λ e. e.0) es) → position (λ e. of e.0) es ≡ None
  nowhere of q ks es h = position_from-zero (λ e. of e.0) es ∙ nowhere-from of q 0 ks es h

  -- the place of the stored key of an object is that of the first key like the object
  pub key-place : AreDistinct names → (k : PyDictKey) (r : PyObjectRef) → IsRead names ns k r → (ks : List PyDictKey) (es : Entries) → AreRead names ns ks (map (λ e. e.0) es) → position (is_same_key k) ks ≡ position (λ e. is_one_key (held_key ns e.0) (held_key ns r)) es
  key-place a k r p ks es h =
      places (is_same_key k) (λ s. is_one_key (held_key ns s) (held_key ns r)) (λ j s q. one-is a k j p.0 s p.1 q ∙ ap (is_one_key (held_key ns s)) (sym p.2)) ks es h

  -- what is no key is like none
  one-none : (o : Option Key) → is_one_key o None ≡ false
  one-none None = refl
  one-none (Some (NumberKey n)) = refl
  one-none (Some (TextKey x)) = refl

  -- an object that no stored key names is like none that one names
  unnamed : (r : PyObjectRef) → ((k : PyDictKey) → IsRead names ns k r → ⊥) → (j : PyDictKey) (s : PyObjectRef) → IsRead names ns j s → is_one_key (held_key ns s) (held_key ns r) ≡ false
  unnamed r none j s q = go (held_key ns r) refl
    where
      unlike : (c : Key) (b : Bool) → held_key ns r ≡ Some c → is_one_key (Some q.0) (Some c) ≡ b → b ≡ false
      unlike c true e f = absurd (none j (q.0, q.1, e ∙ ap Some (sym (one-same q.0 c f))))
      unlike c false e f = refl

      go : (o : Option Key) → held_key ns r ≡ o → is_one_key (held_key ns s) (held_key ns r) ≡ false
      go None e = ap (is_one_key (held_key ns s)) e ∙ one-none (held_key ns s)
      go (Some c) e = (λ i. is_one_key (q.2 i) (e i)) ∙ unlike c (is_one_key (Some q.0) (Some c)) e refl

  pub unnamed-place : (r : PyObjectRef) → ((k : PyDictKey) → IsRead names ns k r → ⊥) → (ks : List PyDictKey) (es : Entries) → AreRead names ns ks (map (λ e. e.0) es) → position (λ e. is_one_key (held_key ns e.0) (held_key ns r)) es ≡ None
  unnamed-place r none ks es h = nowhere (λ s. is_one_key (held_key ns s) (held_key ns r)) (unnamed r none) ks es h

  -- whether an object is a text, by its key
  text-one : (x : Text) (p : Payload) → is_one_key (key_in p) (Some (TextKey x)) ≡ is_text_of x p
  text-one x payload.Object = refl
  text-one x (payload.Class c) = refl
  text-one x (payload.Number z) = refl
  text-one x (payload.Text s) = refl
  text-one x (payload.Tuple rs) = refl
  text-one x (payload.List rs) = refl
  text-one x (payload.Dict es) = refl
  text-one x (payload.Function f) = refl
  text-one x (payload.Method m) = refl
  text-one x (payload.NativeFunction f) = refl
  text-one x (payload.BuiltinMethod m) = refl
  text-one x (payload.MethodDescriptor m) = refl
  text-one x (payload.GetSet g) = refl
  text-one x (payload.ClassMethod r) = refl
  text-one x (payload.StaticMethod r) = refl
  text-one x (payload.Member m) = refl
  text-one x (payload.Property p) = refl
  text-one x (payload.Super s) = refl
  text-one x (payload.Iterator i) = refl
  text-one x (payload.Slice s) = refl

  text-held : (x : Text) (o : Option Node) → is_one_key (option_and_then (λ (n : Node). key_in n.payload) o) (Some (TextKey x)) ≡ is_text_at x o
  text-held x None = refl
  text-held x (Some n) = text-one x n.payload

  -- the place of a name is that of the first key that is its text
  pub text-place : AreDistinct names → (name : PyStrInterned) (x : Text) → slice_get names name.0 ≡ Some x → (ks : List PyDictKey) (es : Entries) → AreRead names ns ks (map (λ e. e.0) es) → position (is_same_key (dict_key.Text name)) ks ≡ position (λ e. is_held_key ns x e.0) es
  text-place a name x e ks es h =
      places (is_same_key (dict_key.Text name)) (is_held_key ns x) (λ j s q. one-is a (dict_key.Text name) j (TextKey x) s (ap (option_map TextKey) e) q ∙ text-held x (slice_get ns s.0)) ks es h

  -- a key that is unlike the others is not stored yet
  absent-from : (k : PyDictKey) (r : PyObjectRef) → IsRead names ns k r → (n : ℕ) (ks : List PyDictKey) (rs : List PyObjectRef) → ((i : ℕ) (s : PyObjectRef) → slice_get rs i ≡ Some s → held_key ns r ≡ held_key ns s → ⊥) → AreRead names ns ks rs → position_from (is_same_key k) n ks ≡ None
  absent-from k r p n [] rs u h = refl
  absent-from k r p n (j ∷ ks) [] u h = absurd h
  absent-from k r p n (j ∷ ks) (s ∷ rs) u h = go (is_same_key k j) refl (absent-from k r p (n + 1) ks rs (λ i t e. u (suc i) t e) h.1)
    where
      go : (b : Bool) → is_same_key k j ≡ b → position_from (is_same_key k) (n + 1) ks ≡ None → cond (is_same_key k j) (Some n) (position_from (is_same_key k) (n + 1) ks) ≡ None
      go true e rest =
          let known : Some p.0 ≡ Some h.0.0 = sym p.1 ∙ ap (read_key names) (same-key k j e) ∙ h.0.1 in
          absurd (u 0 s refl (p.2 ∙ known ∙ sym h.0.2))
      go false e rest = ap (λ b. cond b (Some n) (position_from (is_same_key k) (n + 1) ks)) e ∙ rest

  last-get : (rs : List PyObjectRef) (r : PyObjectRef) → slice_get (rs ++ r ∷ []) (length rs) ≡ Some r
  last-get [] r = refl
  last-get (s ∷ rs) r = last-get rs r

  first-get : (rs : List PyObjectRef) (r : PyObjectRef) (i : ℕ) (s : PyObjectRef) → slice_get rs i ≡ Some s → slice_get (rs ++ r ∷ []) i ≡ Some s
  first-get [] r i s e = cc
  first-get (t ∷ rs) r zero s e = e
  first-get (t ∷ rs) r (suc i) s e = first-get rs r i s e

  not-last : (rs : List PyObjectRef) (i : ℕ) (s : PyObjectRef) → slice_get rs i ≡ Some s → length rs ≡ i → ⊥
  not-last [] i s e q = cc
  not-last (t ∷ rs) zero s e q = absurd (omega (arith, q))
  not-last (t ∷ rs) (suc i) s e q = not-last rs i s e (omega (arith, q))

  pub absent : (k : PyDictKey) (r : PyObjectRef) → IsRead names ns k r → (ks : List PyDictKey) (rs : List PyObjectRef) → AreRead names ns ks rs → AreKeys (held_key ns) (rs ++ r ∷ []) → position (is_same_key k) ks ≡ None
  absent k r p ks rs h a =
      position_from-zero (is_same_key k) ks
      ∙ absent-from k r p 0 ks rs (λ i s e q. not-last rs i s e (a.apart (length rs) i r s (last-get rs r) (first-get rs r i s e) q)) h

  -- stored keys with one more, and without one
  pub read-pushed : (ks : List PyDictKey) (rs : List PyObjectRef) (k : PyDictKey) (r : PyObjectRef) → AreRead names ns ks rs → IsRead names ns k r → AreRead names ns (ks ++ k ∷ []) (rs ++ r ∷ [])
  read-pushed [] [] k r h p = (p, tt)
  read-pushed [] (s ∷ rs) k r h p = absurd h
  read-pushed (j ∷ ks) [] k r h p = absurd h
  read-pushed (j ∷ ks) (s ∷ rs) k r h p = (h.0, read-pushed ks rs k r h.1 p)

  pub read-removed : (ks : List PyDictKey) (rs : List PyObjectRef) (n : ℕ) → AreRead names ns ks rs → AreRead names ns (remove ks n) (remove rs n)
  read-removed [] [] zero h = tt
  read-removed [] [] (suc n) h = tt
  read-removed [] (s ∷ rs) n h = absurd h
  read-removed (j ∷ ks) [] n h = absurd h
  read-removed (j ∷ ks) (s ∷ rs) zero h = h.1
  read-removed (j ∷ ks) (s ∷ rs) (suc n) h = (h.0, read-removed ks rs n h.1)

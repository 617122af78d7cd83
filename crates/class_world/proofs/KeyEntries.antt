-- Entries with a value under a key.
use Rattle.class_world.proofs.Below.{ℕ, zero, suc, get_or, take, take_all, Bool, true, List, [], map, length, Option, Some, None, refl, sym, ap, ◌∙◌, subst, arith, true≢false, false, cond, append-nil, fold, slice_get, position, is_some, option_map, option_and_then, All, remove, fold_more, Decides-int_eq, bytes_eq-Decides, PyDictKey, PyObjectRef, PyStrInterned, Node as StoredNode, Payload, value_of, PlainDict, is_same_key, put_at, AreDistinct, Text, Entries, entries_in, is_one_key, is_like, put_under, with_entries, with_entry, entries_from, without_value_for, PlainWorld, datum_at, Key, NumberKey, TextKey, AreKeys, key_at, Held, held_dict, held_text, is_held_key, of_entries, of_keyed, of_pairs, Reading, plain, IsName, IsNode, CanBeKeys, KeysDiffer, KeysRead, NamesKey, key_in, held_key, Holds, AllHold}
use Rattle.std.proofs.Common.{◌≡◌, ◌+◌, ◌<◌, ◌≤◌, ◌∷◌, ◌++◌}
use Rattle.py_node.specs.declared.dict.PyDictKey.TheVariants.{Number as StoredNumber, Text as StoredText}
use Rattle.py_node.specs.declared.payload.Payload.TheVariants as payload
use Rattle.class_world.proofs.DictEntries.{IsFirstFrom, NonePasses, first-key, no-key, get-below, keys-pushed, map-end}
use Rattle.class_world.proofs.DictReads.{entries-read}
use Rattle.class_world.proofs.KeysRead.{absent, key-place, one-same, text-place, text-there, unnamed-place}
use Rattle.class_world.proofs.SoundWorld.{key_at-read, keys-read}

-- a key is one with itself
one-key : (k : Option Key) → is_some k ≡ true → is_one_key k k ≡ true
one-key None e = cc
one-key (Some (NumberKey n)) e = (Decides-int_eq n n).1 refl
one-key (Some (TextKey x)) e = (bytes_eq-Decides x x).1 refl

-- the key that a stored object is
pub key-held : (w now : Held) (r : PyObjectRef) (n : StoredNode) → w ≡ now → slice_get w.nodes r.0 ≡ Some n → held_key now.nodes r ≡ key_in n.payload
key-held w now r n v e = subst (λ u. held_key u.nodes r ≡ key_in n.payload) v (ap (option_and_then (λ (x : StoredNode). key_in x.payload)) e)

pub one-can : (w : Held) (r : PyObjectRef) → is_some (held_key w.nodes r) ≡ true → Holds w (CanBeKeys (r ∷ []))
unfolding Holds
one-can w r h = go
  where
    go : (i : ℕ) (d : PyObjectRef) → i < length (r ∷ []) → is_some (held_key w.nodes (get_or (r ∷ []) i d)) ≡ true
    go zero d l = h
    go (suc i) d l = absurd (omega arith)

pub likes-read : (t : Reading) (w : Held) (k : PyObjectRef) → is_like (plain t w) k ≡ (λ j. is_one_key (held_key w.nodes j) (held_key w.nodes k))
likes-read t w k = λ i j. is_one_key (key_at-read t w j i) (key_at-read t w k i)

module _ (w : Held) (es : Entries) (k v : PyObjectRef) where
  abbrev pub likes : PyObjectRef → Bool
  likes j = is_one_key (held_key w.nodes j) (held_key w.nodes k)

  -- the value of the key that is there is another one
  pub put-read : (n : ℕ) → IsFirstFrom likes 0 n es → (t : Reading) → put_at es n v ≡ with_entry (plain t w) es (k, v)
  put-read n f t =
      let same : n ≡ f.place = omega (arith, f.is) in
      ap (λ i. put_at es i v) same
      ∙ sym (f.put v)
      ∙ sym (ap (put_under likes (k, v) es) (f.value ∙ ap (option_map (λ (e : PyObjectRef × PyObjectRef). e.1)) (get-below es f.place (k, v) f.below)))
      ∙ sym (ap (λ test. put_under test (k, v) es (value_of test es)) (likes-read t w k))

  -- the key comes last
  pub push-read : NonePasses likes es → (t : Reading) → es ++ (k, v) ∷ [] ≡ with_entry (plain t w) es (k, v)
  push-read f t =
      sym (ap (put_under likes (k, v) es) f.value)
      ∙ sym (ap (λ test. put_under test (k, v) es (value_of test es)) (likes-read t w k))

  -- and is unlike the others
  push-unlike : NonePasses likes es → AllHold w (of_entries es) → Holds w (CanBeKeys (k ∷ [])) → Holds w (KeysDiffer (map (λ e. e.0) (es ++ (k, v) ∷ [])))
  unfolding Holds
  push-unlike f h c =
      let key : is_some (held_key w.nodes k) ≡ true = c 0 k (omega arith) in
      let unlike : (i : ℕ) (s : PyObjectRef) → slice_get (map (λ e. e.0) es) i ≡ Some s → held_key w.nodes k ≡ held_key w.nodes s → ⊥ =
      λ i s e q. true≢false (sym (one-key (held_key w.nodes k) key) ∙ ap (λ o. is_one_key o (held_key w.nodes k)) q ∙ f.fails i s e) in
      subst (AreKeys (held_key w.nodes)) (sym (map-end (λ e. e.0) es (k, v))) (keys-pushed (held_key w.nodes) (map (λ e. e.0) es) k h.1.1.0 key unlike)

  -- the entries with another value at the first place that is like the key
  pub put-entry : (n : ℕ) → Some n ≡ position (λ e. likes e.0) es → (t : Reading) → put_at es n v ≡ with_entry (plain t w) es (k, v)
  put-entry n q t = put-read n (first-key likes n es q) t

  -- the entries with the key at the end, where there is none like it
  pub push-entry : None ≡ position (λ e. likes e.0) es → (t : Reading) → es ++ (k, v) ∷ [] ≡ with_entry (plain t w) es (k, v)
  push-entry q t = push-read (no-key likes es q) t

  pub push-differs : None ≡ position (λ e. likes e.0) es → AllHold w (of_entries es) → Holds w (CanBeKeys (k ∷ [])) → Holds w (KeysDiffer (map (λ e. e.0) (es ++ (k, v) ∷ [])))
  push-differs q h c = push-unlike (no-key likes es q) h c

-- a stored key stands where the first key stands that is like its object
pub stored-place : (w : Held) (d : PlainDict) (stored : PyDictKey) (k v : PyObjectRef) → AreDistinct w.names → AllHold w (of_keyed d) → Holds w (KeysRead (stored ∷ []) (k ∷ [])) → position (is_same_key stored) d.keys ≡ position (λ e. likes w d.items k v e.0) d.items
unfolding Holds
stored-place w d stored k v a h r = key-place w.names w.nodes a stored k r.0 d.keys d.items h.0

-- a name stands where the first key stands that is its text
pub named-place : (w : Held) (d : PlainDict) (name : PyStrInterned) → AreDistinct w.names → Holds w (IsName name) → AllHold w (of_keyed d) → position (is_same_key (StoredText name)) d.keys ≡ position (λ e. is_held_key w.nodes (held_text w name) e.0) d.items
unfolding Holds
named-place w d name a n h = text-place w.names w.nodes a name (held_text w name) (text-there w.names name.0 n) d.keys d.items h.0

-- a stored key whose object is unlike the others is not there
pub stored-absent : (w : Held) (d : PlainDict) (stored : PyDictKey) (k v : PyObjectRef) → AllHold w (of_keyed d) → Holds w (KeysRead (stored ∷ []) (k ∷ [])) → Holds w (KeysDiffer (map (λ e. e.0) (d.items ++ (k, v) ∷ []))) → position (is_same_key stored) d.keys ≡ None
unfolding Holds
stored-absent w d stored k v h r q = absent w.names w.nodes stored k r.0 d.keys (map (λ e. e.0) d.items) h.0 (subst (AreKeys (held_key w.nodes)) (map-end (λ e. e.0) d.items (k, v)) q)

-- an object that no stored key names is like none
pub unnamed-absent : (w : Held) (d : PlainDict) (k v : PyObjectRef) → ((j : PyDictKey) → NamesKey w.names j (held_key w.nodes k) → ⊥) → AllHold w (of_keyed d) → position (λ e. likes w d.items k v e.0) d.items ≡ None
unfolding Holds
unnamed-absent w d k v none h = unnamed-place w.names w.nodes k none d.keys d.items h.0

-- a pair at a place
pub pair-holds : (w : Held) (ps : Entries) (i : ℕ) (d : PyObjectRef × PyObjectRef) → i < length ps → AllHold w (of_pairs ps) → Holds w (IsNode (get_or ps i d).0) × Holds w (IsNode (get_or ps i d).1) × Holds w (CanBeKeys ((get_or ps i d).0 ∷ []))
unfolding Holds
pair-holds w ps i d l h =
    (of-mapped (λ e. e.0) (λ r. r.0 < length w.nodes) ps i d l h.0, of-mapped (λ e. e.1) (λ r. r.0 < length w.nodes) ps i d l h.1.0, one-can w (get_or ps i d).0 (of-mapped (λ e. e.0) (λ r. is_some (held_key w.nodes r) ≡ true) ps i d l h.1.1.0))
  where
    of-mapped : (f : PyObjectRef × PyObjectRef → PyObjectRef) (P : PyObjectRef → Type 0) (ps : Entries) (i : ℕ) (d : PyObjectRef × PyObjectRef) → i < length ps → All P (map f ps) → P (f (get_or ps i d))
    of-mapped f P [] i d l h = absurd (omega arith)
    of-mapped f P (p ∷ ps) zero d l h = h 0 (f d) (omega arith)
    of-mapped f P (p ∷ ps) (suc i) d l h = of-mapped f P ps i d (omega arith) (λ j r m. h (suc j) r (omega arith))

-- one pair more
pub one-more : (w now : PlainWorld) (es ps new : Entries) (i : ℕ) (d : PyObjectRef × PyObjectRef) → now ≡ w → i < length ps → es ≡ entries_from w (take i ps) → new ≡ with_entry now es ((get_or ps i d).0, (get_or ps i d).1) → new ≡ entries_from w (take (i + 1) ps)
one-more w now es ps new i d e l h k = k ∙ (λ j. with_entry (e j) (h j) (get_or ps i d)) ∙ sym (fold_more (with_entry w) [] ps i d l)

pub all-pairs : (w : PlainWorld) (es ps : Entries) (i : ℕ) → length ps ≤ i → es ≡ entries_from w (take i ps) → es ≡ entries_from w ps
all-pairs w es ps i l h = h ∙ ap (entries_from w) (take_all i ps l)

-- what a dict has under an object, by the places of its keys
module _ (t : Reading) (w : Held) (d k : PyObjectRef) where
  abbrev held : Entries
  held = (held_dict w.nodes d).items

  abbrev like : PyObjectRef → Bool
  like j = is_one_key (held_key w.nodes j) (held_key w.nodes k)

  under-read : value_of (is_like (plain t w) k) (entries_in (datum_at (plain t w) d)) ≡ value_of like held
  under-read = λ i. value_of (likes-read t w k i) (entries-read t w d i)

  pub under-none : None ≡ position (λ e. like e.0) held → value_of (is_like (plain t w) k) (entries_in (datum_at (plain t w) d)) ≡ None
  under-none q = let f = no-key like held q in under-read ∙ f.value

  pub under-some : (n : ℕ) → Some n ≡ position (λ e. like e.0) held → value_of (is_like (plain t w) k) (entries_in (datum_at (plain t w) d)) ≡ option_map (λ e. e.1) (slice_get held n)
  under-some n q =
      let f = first-key like n held q in
      let same : f.place ≡ n = omega (arith, f.is) in
      under-read ∙ f.value ∙ ap (λ i. option_map (λ (e : PyObjectRef × PyObjectRef). e.1) (slice_get held i)) same

  pub under-there : (n : ℕ) → Some n ≡ position (λ e. like e.0) held → is_some (value_of (is_like (plain t w) k) (entries_in (datum_at (plain t w) d))) ≡ true
  under-there n q =
      let f = first-key like n held q in
      ap is_some (under-read ∙ f.value ∙ ap (option_map (λ (e : PyObjectRef × PyObjectRef). e.1)) (get-below held f.place (k, k) f.below))

  -- the dict without the key
  pub under-taken : (n : ℕ) → Some n ≡ position (λ e. like e.0) held → with_entries (plain t w) d (remove held n) ≡ with_entries (plain t w) d (without_value_for (is_like (plain t w) k) (entries_in (datum_at (plain t w) d)))
  under-taken n q =
      let f = first-key like n held q in
      let same : f.place ≡ n = omega (arith, f.is) in
      ap (with_entries (plain t w) d) (ap (remove held) (sym same) ∙ sym f.taken ∙ sym (λ i. without_value_for (likes-read t w k i) (entries-read t w d i)))

  -- the dict with a value under the key, seen from a world that says the same
  pub under-set : (v : PyObjectRef) (new : Entries) (u : PlainWorld) → plain t w ≡ u → new ≡ with_entry (plain t w) held (k, v) → with_entries (plain t w) d new ≡ with_entries u d (with_entry u (entries_in (datum_at u d)) (k, v))
  under-set v new u e h =
      ap (with_entries (plain t w) d) (h ∙ ap (λ xs. with_entry (plain t w) xs (k, v)) (sym (entries-read t w d)))
      ∙ ap (λ u. with_entries u d (with_entry u (entries_in (datum_at u d)) (k, v))) e

-- what is no number and no text is no key
pub no-key-in : (p : Payload) → ((z : _) → p ≡ payload.Number z → ⊥) → ((s : _) → p ≡ payload.Text s → ⊥) → key_in p ≡ None
no-key-in payload.Object h k = refl
no-key-in (payload.Class c) h k = refl
no-key-in (payload.Number z) h k = absurd (h z refl)
no-key-in (payload.Text s) h k = absurd (k s refl)
no-key-in (payload.Tuple rs) h k = refl
no-key-in (payload.List rs) h k = refl
no-key-in (payload.Dict es) h k = refl
no-key-in (payload.Function f) h k = refl
no-key-in (payload.Method m) h k = refl
no-key-in (payload.NativeFunction f) h k = refl
no-key-in (payload.BuiltinMethod m) h k = refl
no-key-in (payload.MethodDescriptor m) h k = refl
no-key-in (payload.GetSet g) h k = refl
no-key-in (payload.ClassMethod r) h k = refl
no-key-in (payload.StaticMethod r) h k = refl
no-key-in (payload.Member m) h k = refl
no-key-in (payload.Property p) h k = refl
no-key-in (payload.Super s) h k = refl
no-key-in (payload.Iterator i) h k = refl
no-key-in (payload.Slice s) h k = refl

-- no stored key names what is no key, or a text that is no name's
pub nothing-named : (names : List Text) (o : Option Key) → o ≡ None → (k : PyDictKey) → NamesKey names k o → ⊥
nothing-named names o e k h = go h.0 (sym e ∙ h.2)
  where
    go : (c : Key) → None ≡ Some c → ⊥
    go c q = cc

pub text-unnamed : (names : List Text) (x : Text) (o : Option Key) → o ≡ Some (TextKey x) → ((n : ℕ) → slice_get names n ≡ Some x → ⊥) → (k : PyDictKey) → NamesKey names k o → ⊥
text-unnamed names x o e none (StoredNumber z) h = go (h.1 ∙ sym h.2 ∙ e)
  where
    go : Some (NumberKey z) ≡ Some (TextKey x) → ⊥
    go q = cc
text-unnamed names x o e none (StoredText y) h = go (slice_get names y.0) refl (h.1 ∙ sym h.2 ∙ e)
  where
    go : (u : Option Text) → slice_get names y.0 ≡ u → option_map TextKey u ≡ Some (TextKey x) → ⊥
    go None f q = cc
    go (Some v) f q = let same : v ≡ x = cc in none y.0 (f ∙ ap Some same)

-- entries of a dict are keys with their values
pub keys-can : (w : Held) (es : Entries) → AllHold w (of_entries es) → AllHold w (of_pairs es)
unfolding Holds
keys-can w es h = (h.0, (h.1.0, ((λ i d l. h.1.1.0.known i (get_or (map (λ e. e.0) es) i d) (get-below (map (λ e. e.0) es) i d l)), tt)))

-- keys that are one are the same
one-like : (o p : Option Key) → is_one_key o p ≡ true → o ≡ p
one-like None p e = cc
one-like (Some (NumberKey n)) None e = cc
one-like (Some (TextKey x)) None e = cc
one-like (Some c) (Some d) e = ap Some (one-same c d e)

pair-end : (es : Entries) (e : PyObjectRef × PyObjectRef) (more : Entries) → (es ++ e ∷ []) ++ more ≡ es ++ e ∷ more
pair-end [] e more = refl
pair-end (x ∷ es) e more = ap (λ xs. x ∷ xs) (pair-end es e more)

key-after : (es : Entries) (e : PyObjectRef × PyObjectRef) (more : Entries) → slice_get (map (λ e. e.0) (es ++ e ∷ more)) (length es) ≡ Some e.0
key-after [] e more = refl
key-after (x ∷ es) e more = key-after es e more

key-before : (es more : Entries) (i : ℕ) (s : PyObjectRef) → slice_get (map (λ e. e.0) es) i ≡ Some s → slice_get (map (λ e. e.0) (es ++ more)) i ≡ Some s
key-before [] more i s q = cc
key-before (x ∷ es) more zero s q = q
key-before (x ∷ es) more (suc i) s q = key-before es more i s q

not-after : (es : Entries) (i : ℕ) (s : PyObjectRef) → slice_get (map (λ e. e.0) es) i ≡ Some s → i ≡ length es → ⊥
not-after [] i s q e = cc
not-after (x ∷ es) zero s q e = absurd (omega (arith, e))
not-after (x ∷ es) (suc i) s q e = not-after es i s q (omega (arith, e))

module _ (w : PlainWorld) where
  unlike-value : (k : PyObjectRef) (es : Entries) → ((i : ℕ) (s : PyObjectRef) → slice_get (map (λ e. e.0) es) i ≡ Some s → is_like w k s ≡ false) → value_of (is_like w k) es ≡ None
  unlike-value k [] u = refl
  unlike-value k (e ∷ es) u = ap (λ b. cond b (Some e.1) (value_of (is_like w k) es)) (u 0 e.0 refl) ∙ unlike-value k es (λ i s q. u (suc i) s q)

  each-last : (es more : Entries) → AreKeys (key_at w) (map (λ e. e.0) (es ++ more)) → fold (with_entry w) es more ≡ es ++ more
  each-last es [] h = sym (append-nil es)
  each-last es (e ∷ more) h =
      let here : with_entry w es e ≡ es ++ e ∷ [] = ap (put_under (is_like w e.0) e es) (unlike-value e.0 es (λ i s q. apart i s (is_like w e.0 s) q refl)) in
      ap (λ xs. fold (with_entry w) xs more) here
      ∙ each-last (es ++ e ∷ []) more (subst (λ xs. AreKeys (key_at w) (map (λ e. e.0) xs)) (sym (pair-end es e more)) h)
      ∙ pair-end es e more
    where
      apart : (i : ℕ) (s : PyObjectRef) (b : Bool) → slice_get (map (λ e. e.0) es) i ≡ Some s → is_like w e.0 s ≡ b → b ≡ false
      apart i s true q l = absurd (not-after es i s q (h.apart i (length es) s e.0 (key-before es (e ∷ more) i s q) (key-after es e more) (one-like (key_at w s) (key_at w e.0) l)))
      apart i s false q l = refl

-- where no two keys are alike, the entries of the dict are the keys with their values
pub entries-themselves : (t : Reading) (w : Held) (es : Entries) → AllHold w (of_entries es) → entries_from (plain t w) es ≡ es
unfolding Holds
entries-themselves t w es h = each-last (plain t w) [] es (keys-read t w (map (λ e. e.0) es) h.1.1.0)

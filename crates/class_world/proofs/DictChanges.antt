-- Dicts whose entries change, in a world.
use Rattle.class_world.proofs.Below.{ℕ, zero, suc, List, [], length, map, get_or, Some, None, Result, Ok, Err, OnOk, OnErr, refl, sym, ap, ◌∙◌, subst, arith, slice_get, slice_set, is_some, option_map, remove, PyObjectRef, Dict, Node as StoredNode, Payload, PyStrInterned, Classes, PyDictKey, PlainDict, empty_dict, put_at, dict_put, dict_pushed, dict_removed, ADict, with_datum_in, Entries, with_entries, keeps-itself, Held, dict_in, held_dict, dict_at, of_entries, of_keyed, IsDict, HasOther, Reading, places_of, datum, node_of, plain, AreMembers, GetsDict, IsNode, IsOf, AreNodes, KeysDiffer, KeysRead, Holding, home_of, class_in, held_key, AreRead, Holds, AllHold, Grows, Sound, of_class_ref, of_option, of_dict_ref, of_payload, of_node}
use Rattle.std.proofs.Common.{◌≡◌, ◌<◌, ◌∷◌, ◌++◌}
use Rattle.py_node.specs.declared.payload.Payload.TheVariants as payload
use Rattle.plain_machine.specs.Plain.{Node}
use Rattle.class_world.proofs.Claims.{opened-one, seen, all-grow, all-append, all-first, all-rest, each-get, got, no-nodes}
use Rattle.class_world.proofs.Growth.{Lasting, lasting, like-itself, grows, grows-lasts}
use Rattle.class_world.proofs.Changes.{fixed-grow, built_in-grow}
use Rattle.class_world.proofs.Defined.{set-length, each-set, stays-set, class-set}
use Rattle.class_world.proofs.DictEntries.{map-remove, map-end, keys-put, all-put, all-pushed, all-removed, keys-removed}
use Rattle.class_world.proofs.KeysRead.{read-pushed, read-removed}
use Rattle.class_world.proofs.SoundWorld.{no-keys-differ}

-- what a dict tells for ever
abbrev of_dicts : Lasting
of_dicts = record { home = Dict; key = None; class = None; params = None }

dict-lasting : (p : Payload) → home_of p ≡ Dict → lasting p ≡ of_dicts
dict-lasting payload.Object e = cc
dict-lasting (payload.Class d) e = cc
dict-lasting (payload.Number z) e = cc
dict-lasting (payload.Text s) e = cc
dict-lasting (payload.Tuple rs) e = cc
dict-lasting (payload.List rs) e = cc
dict-lasting (payload.Dict es) e = refl
dict-lasting (payload.Function f) e = cc
dict-lasting (payload.Method m) e = cc
dict-lasting (payload.NativeFunction f) e = cc
dict-lasting (payload.BuiltinMethod m) e = cc
dict-lasting (payload.MethodDescriptor m) e = cc
dict-lasting (payload.GetSet g) e = cc
dict-lasting (payload.ClassMethod r) e = cc
dict-lasting (payload.StaticMethod r) e = cc
dict-lasting (payload.Member m) e = cc
dict-lasting (payload.Property p) e = cc
dict-lasting (payload.Super s) e = cc
dict-lasting (payload.Iterator i) e = cc
dict-lasting (payload.Slice s) e = cc

pub none-read : (w : Held) → Holds w (KeysRead [] [])
unfolding Holds
none-read w = tt

-- a dict without keys
pub none-hold : (w : Held) → AllHold w (of_keyed empty_dict)
none-hold w = (none-read w, (no-nodes w, (no-nodes w, (no-keys-differ w, tt))))

payload-dict : (w : Held) (p : Payload) → AllHold w (of_payload p) → AllHold w (of_keyed (dict_in p))
payload-dict w payload.Object h = none-hold w
payload-dict w (payload.Class d) h = none-hold w
payload-dict w (payload.Number z) h = none-hold w
payload-dict w (payload.Text s) h = none-hold w
payload-dict w (payload.Tuple rs) h = none-hold w
payload-dict w (payload.List rs) h = none-hold w
payload-dict w (payload.Dict es) h = h
payload-dict w (payload.Function f) h = none-hold w
payload-dict w (payload.Method m) h = none-hold w
payload-dict w (payload.NativeFunction f) h = none-hold w
payload-dict w (payload.BuiltinMethod m) h = none-hold w
payload-dict w (payload.MethodDescriptor m) h = none-hold w
payload-dict w (payload.GetSet g) h = none-hold w
payload-dict w (payload.ClassMethod r) h = none-hold w
payload-dict w (payload.StaticMethod r) h = none-hold w
payload-dict w (payload.Member m) h = none-hold w
payload-dict w (payload.Property p) h = none-hold w
payload-dict w (payload.Super s) h = none-hold w
payload-dict w (payload.Iterator i) h = none-hold w
payload-dict w (payload.Slice s) h = none-hold w

-- a dict with its keys and entries
module _ (d : PlainDict) where
  has-lasting : (p : Payload) → IsDict p d → lasting p ≡ of_dicts
  has-lasting payload.Object h = absurd h
  has-lasting (payload.Class c) h = absurd h
  has-lasting (payload.Number z) h = absurd h
  has-lasting (payload.Text s) h = absurd h
  has-lasting (payload.Tuple rs) h = absurd h
  has-lasting (payload.List rs) h = absurd h
  has-lasting (payload.Dict xs) h = refl
  has-lasting (payload.Function f) h = absurd h
  has-lasting (payload.Method m) h = absurd h
  has-lasting (payload.NativeFunction f) h = absurd h
  has-lasting (payload.BuiltinMethod m) h = absurd h
  has-lasting (payload.MethodDescriptor m) h = absurd h
  has-lasting (payload.GetSet g) h = absurd h
  has-lasting (payload.ClassMethod r) h = absurd h
  has-lasting (payload.StaticMethod r) h = absurd h
  has-lasting (payload.Member m) h = absurd h
  has-lasting (payload.Property p) h = absurd h
  has-lasting (payload.Super s) h = absurd h
  has-lasting (payload.Iterator i) h = absurd h
  has-lasting (payload.Slice s) h = absurd h

  has-datum : (t : Reading) (p : Payload) → IsDict p d → datum t p ≡ ADict d.items
  has-datum t payload.Object h = absurd h
  has-datum t (payload.Class c) h = absurd h
  has-datum t (payload.Number z) h = absurd h
  has-datum t (payload.Text s) h = absurd h
  has-datum t (payload.Tuple rs) h = absurd h
  has-datum t (payload.List rs) h = absurd h
  has-datum t (payload.Dict xs) h = ap (λ (d : PlainDict). ADict d.items) h
  has-datum t (payload.Function f) h = absurd h
  has-datum t (payload.Method m) h = absurd h
  has-datum t (payload.NativeFunction f) h = absurd h
  has-datum t (payload.BuiltinMethod m) h = absurd h
  has-datum t (payload.MethodDescriptor m) h = absurd h
  has-datum t (payload.GetSet g) h = absurd h
  has-datum t (payload.ClassMethod r) h = absurd h
  has-datum t (payload.StaticMethod r) h = absurd h
  has-datum t (payload.Member m) h = absurd h
  has-datum t (payload.Property p) h = absurd h
  has-datum t (payload.Super s) h = absurd h
  has-datum t (payload.Iterator i) h = absurd h
  has-datum t (payload.Slice s) h = absurd h

  has-holds : (w : Held) (p : Payload) → IsDict p d → AllHold w (of_keyed d) → AllHold w (of_payload p)
  has-holds w payload.Object h k = absurd h
  has-holds w (payload.Class c) h k = absurd h
  has-holds w (payload.Number z) h k = absurd h
  has-holds w (payload.Text s) h k = absurd h
  has-holds w (payload.Tuple rs) h k = absurd h
  has-holds w (payload.List rs) h k = absurd h
  has-holds w (payload.Dict xs) h k = subst (λ d. AllHold w (of_keyed d)) (sym h) k
  has-holds w (payload.Function f) h k = absurd h
  has-holds w (payload.Method m) h k = absurd h
  has-holds w (payload.NativeFunction f) h k = absurd h
  has-holds w (payload.BuiltinMethod m) h k = absurd h
  has-holds w (payload.MethodDescriptor m) h k = absurd h
  has-holds w (payload.GetSet g) h k = absurd h
  has-holds w (payload.ClassMethod r) h k = absurd h
  has-holds w (payload.StaticMethod r) h k = absurd h
  has-holds w (payload.Member m) h k = absurd h
  has-holds w (payload.Property p) h k = absurd h
  has-holds w (payload.Super s) h k = absurd h
  has-holds w (payload.Iterator i) h k = absurd h
  has-holds w (payload.Slice s) h k = absurd h

-- what is no dict has no keys
pub no-dict : (p : Payload) → ((es : _) → p ≡ payload.Dict es → ⊥) → dict_in p ≡ empty_dict
no-dict payload.Object h = refl
no-dict (payload.Class d) h = refl
no-dict (payload.Number z) h = refl
no-dict (payload.Text s) h = refl
no-dict (payload.Tuple rs) h = refl
no-dict (payload.List rs) h = refl
no-dict (payload.Dict es) h = absurd (h es refl)
no-dict (payload.Function f) h = refl
no-dict (payload.Method m) h = refl
no-dict (payload.NativeFunction f) h = refl
no-dict (payload.BuiltinMethod m) h = refl
no-dict (payload.MethodDescriptor m) h = refl
no-dict (payload.GetSet g) h = refl
no-dict (payload.ClassMethod r) h = refl
no-dict (payload.StaticMethod r) h = refl
no-dict (payload.Member m) h = refl
no-dict (payload.Property p) h = refl
no-dict (payload.Super s) h = refl
no-dict (payload.Iterator i) h = refl
no-dict (payload.Slice s) h = refl

-- the dict that a world holds
module _ (w now : Held) (r : PyObjectRef) (n : StoredNode) (v : w ≡ now) where
  pub dict-seen : slice_get w.nodes r.0 ≡ Some n → held_dict now.nodes r ≡ dict_in n.payload
  dict-seen e = subst (λ u. held_dict u.nodes r ≡ dict_in n.payload) v (ap dict_at e)

  pub held-hold : slice_get w.nodes r.0 ≡ Some n → Sound w → AllHold now (of_keyed (held_dict now.nodes r))
  held-hold e s =
      let all = each-get w of_node w.nodes r.0 n e s.nodes in
      let here = payload-dict w n.payload (all-rest w (of_option of_dict_ref n.dict) _ all.1.1.1.1) in
      subst (λ d. AllHold now (of_keyed d)) (sym (dict-seen e)) (seen w now (of_keyed (dict_in n.payload)) v here)

  -- a dict by its number
  pub record IsDictThere : Type 0 where
    pub below : r.0 < length w.nodes
    pub home : home_of n.payload ≡ Dict
    pub same : held_dict now.nodes r ≡ dict_in n.payload
    pub holds : AllHold w (of_keyed (dict_in n.payload))

  pub dict-there : Sound w → Holds now (IsNode r) → Holds now (Holding r Dict) → n ≡ get_or w.nodes r.0 n → IsDictThere
  unfolding Holds
  dict-there s h k e =
      let here = opened-one w now (IsNode r) v h in
      let at = got w.nodes r.0 n here e in
      let all = each-get w of_node w.nodes r.0 n at s.nodes in
      let home : Some (home_of n.payload) ≡ Some Dict = sym (ap (option_map (λ (x : StoredNode). home_of x.payload)) at) ∙ opened-one w now (Holding r Dict) v k in
      record {
        below = here;
        home = cc;
        same = dict-seen at;
        holds = payload-dict w n.payload (all-rest w (of_option of_dict_ref n.dict) _ all.1.1.1.1);
      }

module _ (w : Held) (r : PyObjectRef) (n new : StoredNode) where
  abbrev pub changed : Held
  changed = record w { nodes = slice_set w.nodes r.0 new }

  same-lasting : (d : PlainDict) → home_of n.payload ≡ Dict → HasOther n new d → lasting new.payload ≡ lasting n.payload
  same-lasting d h o = has-lasting d new.payload o.3 ∙ sym (dict-lasting n.payload h)

  pub other-grows : (d : PlainDict) → n ≡ get_or w.nodes r.0 n → home_of n.payload ≡ Dict → HasOther n new d → Grows w changed
  other-grows d e h o =
      let l = set-length w.nodes r.0 new in
      grows w changed (keeps-itself w.log) refl refl (λ m x h. h) (omega arith) (λ m f h. h) (omega arith) (record { stays = stays-set w.classes w.nodes r.0 n new e (same-lasting d h o) (λ q. o.0) }) (like-itself w.classes)

  pub other-sound : (d : PlainDict) → r.0 < length w.nodes → n ≡ get_or w.nodes r.0 n → home_of n.payload ≡ Dict → HasOther n new d → AllHold w (of_keyed d) → Sound w → Sound changed
  other-sound x l e d o h s =
      let more = other-grows x e d o in
      let go = all-grow w changed more in
      let q = same-lasting x d o in
      let all = each-get w of_node w.nodes r.0 n (got w.nodes r.0 n l e) s.nodes in
      let class : AllHold w (of_class_ref new.class) = subst (λ c. AllHold w (of_class_ref c)) (sym o.0) (all.0, tt) in
      let of = subst (λ c. Holds w (IsOf c.0 (home_of n.payload))) (sym o.0) all.1.0 in
      let like = subst (λ b. Holds w (IsOf new.class.0 b)) (ap (λ (l : Lasting). l.home) (sym q)) of in
      let dict = subst (λ d. AllHold w (of_option of_dict_ref d)) (sym o.1) (all-first w (of_option of_dict_ref n.dict) _ all.1.1.1.1) in
      let members : Holds w (AreMembers new.class.0 new.members) = subst (λ c. Holds w (AreMembers c.0 new.members)) (sym o.0) (subst (λ ms. Holds w (AreMembers n.class.0 ms)) (sym o.2) all.1.1.0) in
      let gets : Holds w (GetsDict (class_in new.payload) new.class.0 (is_some new.dict)) = subst (λ o. Holds w (GetsDict o new.class.0 (is_some new.dict))) (ap (λ (l : Lasting). l.class) (sym q)) (subst (λ d. Holds w (GetsDict (class_in n.payload) new.class.0 (is_some d))) (sym o.1) (subst (λ c. Holds w (GetsDict (class_in n.payload) c.0 (is_some n.dict))) (sym o.0) all.1.1.1.0)) in
      let there : AllHold w (of_node new) = (class.0, (like, (members, (gets, all-append w (of_option of_dict_ref new.dict) _ dict (has-holds x w new.payload o.3 h))))) in
      let same : class_in new.payload ≡ class_in n.payload = ap (λ (l : Lasting). l.class) q in
      record { forms = go _ s.forms; below = s.below; nodes = go _ (each-set w of_node w.nodes r.0 new s.nodes there); classes = go _ s.classes; vars = go _ s.vars; scopes = go _ s.scopes; fixed = fixed-grow w changed s.fixed (grows-lasts w changed more); built_in = built_in-grow w changed s.built_in (grows-lasts w changed more); own = λ b. more.still _ (s.own b); flags = λ b. more.still _ (s.flags b); of_none = more.still _ s.of_none; unmarked = s.unmarked; standing = λ c e. more.still _ (s.standing c e); itself = λ m c q. s.itself m c (class-set w.nodes r.0 n new e same m c q); apart = s.apart; scopes_apart = s.scopes_apart; known = s.known; logged = s.logged }

  node-read : (t : Reading) (ks : Classes PyStrInterned) (d : PlainDict) → HasOther n new d → node_of t ks new ≡ record (node_of t ks n) { datum = ADict d.items }
  node-read t ks d o =
      let class = o.0 in
      let dict = o.1 in
      let members = o.2 in
      let datum = has-datum d t new.payload o.3 in
      λ i. record { class = (class i).0; dict = dict i; members = places_of ks (class i).0 (members i); datum = datum i }

  nodes-read : (t : Reading) (ks : Classes PyStrInterned) (d : PlainDict) (ns : List StoredNode) (i : ℕ) → i < length ns → n ≡ get_or ns i n → HasOther n new d → map (node_of t ks) (slice_set ns i new) ≡ with_datum_in (λ m. ADict d.items) (map (node_of t ks) ns) i
  nodes-read t ks d [] i l e o = absurd (omega arith)
  nodes-read t ks d (m ∷ ns) zero l e o =
      ap (λ x. x ∷ map (node_of t ks) ns) (node-read t ks d o)
      ∙ ap (λ (n : StoredNode). record (node_of t ks n) { datum = ADict d.items } ∷ map (node_of t ks) ns) e
  nodes-read t ks d (m ∷ ns) (suc i) l e o = ap (λ ms. node_of t ks m ∷ ms) (nodes-read t ks d ns i (omega arith) e o)

  pub other-read : (d : PlainDict) (now : Held) → w ≡ now → r.0 < length w.nodes → n ≡ get_or w.nodes r.0 n → HasOther n new d → (t : Reading) → plain t changed ≡ with_entries (plain t now) r d.items
  unfolding plain
  other-read d now v l e o t =
      subst (λ u. plain t changed ≡ with_entries (plain t u) r d.items) v
      (ap (λ (ns : List Node). record (plain t w) { nodes = ns }) (nodes-read t w.classes d w.nodes r.0 l e o))

  -- the dict is another one, or where memory ran out the same
  pub either-other : {A E : Type 0} (P : Type 0) (res : Result A E) (d more : PlainDict) → OnOk res (HasOther n new more) → OnErr res (HasOther n new d) → AllHold w (of_keyed d) → AllHold w (of_keyed more) → ((x : PlainDict) → HasOther n new x → AllHold w (of_keyed x) → P) → P
  either-other P (Ok a) d more o k h m go = go more o m
  either-other P (Err a) d more o k h m go = go d k h

-- entries of which one is another
entries-put : (w : Held) (es : Entries) (i : ℕ) (v : PyObjectRef) → AllHold w (of_entries es) → Holds w (IsNode v) → AllHold w (of_entries (put_at es i v))
unfolding Holds
entries-put w es i v h k =
    let keys = keys-put es i v in
    let there = subst (λ rs. Holds w (AreNodes rs)) (sym keys) h.0 in
    let values = all-put (λ r. r.0 < length w.nodes) es i v h.1.0 k in
    (there, (values, (subst (λ rs. Holds w (KeysDiffer rs)) (sym keys) h.1.1.0, tt)))

entries-removed : (w : Held) (es : Entries) (i : ℕ) → AllHold w (of_entries es) → AllHold w (of_entries (remove es i))
unfolding Holds
entries-removed w es i h =
    let keys = map-remove (λ e. e.0) es i in
    let there = subst (λ rs. Holds w (AreNodes rs)) (sym keys) (all-removed (λ r. r.0 < length w.nodes) (map (λ e. e.0) es) i h.0) in
    let values = subst (λ rs. Holds w (AreNodes rs)) (sym (map-remove (λ e. e.1) es i)) (all-removed (λ r. r.0 < length w.nodes) (map (λ e. e.1) es) i h.1.0) in
    (there, (values, (subst (λ rs. Holds w (KeysDiffer rs)) (sym keys) (keys-removed (held_key w.nodes) (map (λ e. e.0) es) i h.1.1.0), tt)))

pub entries-pushed : (w : Held) (es : Entries) (k v : PyObjectRef) → AllHold w (of_entries es) → Holds w (IsNode k) → Holds w (IsNode v) → Holds w (KeysDiffer (map (λ e. e.0) (es ++ (k, v) ∷ []))) → AllHold w (of_entries (es ++ (k, v) ∷ []))
unfolding Holds
entries-pushed w es k v h a b d =
    let there = subst (λ rs. Holds w (AreNodes rs)) (sym (map-end (λ e. e.0) es (k, v))) (all-pushed (λ r. r.0 < length w.nodes) (map (λ e. e.0) es) k h.0 a) in
    let values = subst (λ rs. Holds w (AreNodes rs)) (sym (map-end (λ e. e.1) es (k, v))) (all-pushed (λ r. r.0 < length w.nodes) (map (λ e. e.1) es) v h.1.0 b) in
    (there, (values, (d, tt)))

-- a dict with another value for a key, with one more key, and without a key
pub put-hold : (w : Held) (d : PlainDict) (i : ℕ) (v : PyObjectRef) → AllHold w (of_keyed d) → Holds w (IsNode v) → AllHold w (of_keyed (dict_put d i v))
put-hold w d i v h k = (subst (λ rs. Holds w (KeysRead d.keys rs)) (sym (keys-put d.items i v)) h.0, entries-put w d.items i v h.1 k)

pub removed-hold : (w : Held) (d : PlainDict) (i : ℕ) → AllHold w (of_keyed d) → AllHold w (of_keyed (dict_removed d i))
unfolding Holds
removed-hold w d i h =
    (subst (AreRead w.names w.nodes (remove d.keys i)) (sym (map-remove (λ e. e.0) d.items i)) (read-removed w.names w.nodes d.keys (map (λ e. e.0) d.items) i h.0), entries-removed w d.items i h.1)

pub pushed-hold : (w : Held) (d : PlainDict) (stored : PyDictKey) (k v : PyObjectRef) → AllHold w (of_keyed d) → Holds w (KeysRead (stored ∷ []) (k ∷ [])) → Holds w (IsNode k) → Holds w (IsNode v) → Holds w (KeysDiffer (map (λ e. e.0) (d.items ++ (k, v) ∷ []))) → AllHold w (of_keyed (dict_pushed d stored k v))
unfolding Holds
pushed-hold w d stored k v h r a b q =
    (subst (AreRead w.names w.nodes (d.keys ++ stored ∷ [])) (sym (map-end (λ e. e.0) d.items (k, v))) (read-pushed w.names w.nodes d.keys (map (λ e. e.0) d.items) stored k h.0 r.0), entries-pushed w d.items k v h.1 a b q)

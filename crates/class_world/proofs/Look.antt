-- What a world's tables say of a reading, and what the plain world has at a number.
use Rattle.class_world.proofs.Below.{ℕ, List, [], length, Option, Some, None, Bool, true, false, sym, ap, subst, slice_get, option_map, IsTrue, PyObjectRef, Node, Form, PyStrInterned, bit_and, SlotId, Known, known_texts, known_text, number_of, below, known-count, slice_get-get_or, slice_get_within, Class, class_at, has_flag, says_dict, entry, slot, candidates_of, goes_first, natives_of, entry-renamed, slot-renamed, candidates_of-renamed, goes_first-renamed, table_keys, node_at, text_keys, the_dict, Held, Reading, Reads, form_tree, node_of, spelled, plain, IsClass, Holds, AllHold, Sound, of_node, of_dict, of_class, of_each}
use Rattle.std.proofs.Common.{◌≡◌, ◌^◌, ◌<◌, ◌∷◌, ◌++◌}
use Rattle.std.specs.Prelude.{cond, eqb}
use Rattle.std.specs.Prelude.{◌==◌}
use Rattle.class_world.proofs.Claims.{got-map, each-get, seen, all-first, all-rest, get-end, get-pushed}

pub node-read : (w now : Held) (r : PyObjectRef) (n : Node) → w ≡ now → slice_get w.nodes r.0 ≡ Some n → (t : Reading) → node_at (plain t now) r ≡ Some (node_of t w.classes n)
unfolding plain
node-read w now r n v e t = subst (λ u. node_at (plain t u) r ≡ Some (node_of t w.classes n)) v (got-map (node_of t w.classes) w.nodes r.0 n e)

pub node-holds : (w now : Held) (r : PyObjectRef) (n : Node) → w ≡ now → Sound w → slice_get w.nodes r.0 ≡ Some n → AllHold now (of_node n)
node-holds w now r n v s e = seen w now (of_node n) v (each-get w of_node w.nodes r.0 n e s.nodes)

-- a reading of the longer store reads the shorter one
pub form-reads : (w now : Held) (f : Form) → w ≡ now → (t : Reading) → Reads t (record w { forms = w.forms ++ f ∷ [] }) → Reads t now
form-reads w now f v t r =
    subst (λ w. Reads t w) v (record { names = r.names; trees = λ n x e. r.trees n x (get-pushed w.forms f n x e) })

pub form-added : (w : Held) (f : Form) (t : Reading) → Reads t (record w { forms = w.forms ++ f ∷ [] }) → t.tree (length w.forms) ≡ form_tree t.text t.tree f
form-added w f t r = r.trees (length w.forms) f (get-end w.forms f)

-- whether a class that is there has a flag
abbrev pub flag_at : {K : Type 0} → ℕ → Option (Class K) → Bool
flag_at flag None = false
flag_at flag (Some k) = has_flag flag k

-- where a class gives dicts, the class of dicts is there
pub dict-there : (w now : Held) (c : ℕ) → w ≡ now → Sound w → IsTrue (says_dict (class_at w.classes c)) → Holds now (IsClass the_dict)
dict-there w now c v s h = subst (λ w. Holds w (IsClass the_dict)) v (go w.classes c s.classes h)
  where
    of : (b : Bool) → IsTrue b → AllHold w (of_dict b) → Holds w (IsClass the_dict)
    of true h p = p.0
    of false h p = cc

    go : (ks : List (Class PyStrInterned)) (c : ℕ) → AllHold w (of_each of_class ks) → IsTrue (says_dict (class_at ks c)) → Holds w (IsClass the_dict)
    go [] c p h = cc
    go (k ∷ ks) c p h = pick (eqb k.number c) (go ks c (all-rest w (of_class k) _ p)) h
      where
        pick : (b : Bool) → (IsTrue (says_dict (class_at ks c)) → Holds w (IsClass the_dict)) → IsTrue (says_dict (cond b (Some k) (class_at ks c))) → Holds w (IsClass the_dict)
        pick true more h = of (has_flag (2 ^ 40) k) h (all-first w (of_dict (has_flag (2 ^ 40) k)) _ (all-first w (of_class k) (of_each of_class ks) p).1.1)
        pick false more h = more h

-- the flags of a class that is there
pub flags-read : (ks : List (Class PyStrInterned)) (c flags flag : ℕ) → option_map (λ k. k.flags) (class_at ks c) ≡ Some flags → flag_at flag (class_at ks c) ≡ (bit_and flags flag == flag)
flags-read ks c flags flag e = go (class_at ks c) e
  where
    go : (o : Option (Class PyStrInterned)) → option_map (λ (k : Class PyStrInterned). k.flags) o ≡ Some flags → flag_at flag o ≡ (bit_and flags flag == flag)
    go None e = cc
    go (Some k) e = let same : k.flags ≡ flags = cc in ap (λ n. bit_and n flag == flag) same

-- each known name stands at its number
pub known-stands : (x : Known) → slice_get known_texts (number_of x) ≡ Some (known_text x)
unfolding known_text
known-stands x = let b = below x in slice_get-get_or known_texts (number_of x) [] (subst (λ n. number_of x < n) (sym known-count) b)

-- the known names are read as they are
pub known-read : (w : Held) (t : Reading) → ((n : ℕ) (x : List ℕ) → slice_get known_texts n ≡ Some x → slice_get w.names n ≡ Some x) → Reads t w → (x : Known) → known_text x ≡ t.text (number_of x)
known-read w t s r x = sym (r.names (number_of x) (known_text x) (s (number_of x) (known_text x) (known-stands x)))

-- and they are names of the world
pub known-within : (w : Held) → ((n : ℕ) (x : List ℕ) → slice_get known_texts n ≡ Some x → slice_get w.names n ≡ Some x) → (x : Known) (r : PyStrInterned) → r ≡ record { 0 = number_of x } → r.0 < length w.names
known-within w s x r e =
    let l = slice_get_within w.names (number_of x) (known_text x) (s (number_of x) (known_text x) (known-stands x)) in
    subst (λ (n : PyStrInterned). n.0 < length w.names) (sym e) l

pub entry-seen : (w now : Held) (c : ℕ) (s : SlotId) → w ≡ now → Sound w → (t : Reading) → Reads t now → entry text_keys natives_of (plain t now).classes c s ≡ entry table_keys natives_of w.classes c s
unfolding plain
entry-seen w now c s v sound t r =
    let reads = subst (λ w. Reads t w) (sym v) r in
    subst (λ u. entry text_keys natives_of (plain t u).classes c s ≡ entry table_keys natives_of w.classes c s) v
    (entry-renamed (spelled t) table_keys text_keys (λ a b. t.same a.0 b.0) (known-read w t sound.known reads) natives_of w.classes c s)

-- slots and candidates are read alike by texts and by numbers
pub slot-seen : (w now : Held) (c : ℕ) (s : SlotId) → w ≡ now → Sound w → (t : Reading) → Reads t now → slot text_keys natives_of (plain t now).classes c s ≡ slot table_keys natives_of w.classes c s
unfolding plain
slot-seen w now c s v sound t r =
    let reads = subst (λ w. Reads t w) (sym v) r in
    subst (λ u. slot text_keys natives_of (plain t u).classes c s ≡ slot table_keys natives_of w.classes c s) v
    (slot-renamed (spelled t) table_keys text_keys (λ a b. t.same a.0 b.0) (known-read w t sound.known reads) natives_of w.classes c s)

pub goes-first-seen : (w now : Held) (right : SlotId) (c d : ℕ) → w ≡ now → Sound w → (t : Reading) → Reads t now → goes_first text_keys (plain t now).classes right c d ≡ goes_first table_keys w.classes right c d
unfolding plain
goes-first-seen w now right c d v sound t r =
    let reads = subst (λ w. Reads t w) (sym v) r in
    subst (λ u. goes_first text_keys (plain t u).classes right c d ≡ goes_first table_keys w.classes right c d) v
    (goes_first-renamed (spelled t) table_keys text_keys (λ a b. t.same a.0 b.0) (known-read w t sound.known reads) w.classes right c d)

pub candidates-seen : (w now : Held) (left right : SlotId) (c d : ℕ) → w ≡ now → Sound w → (t : Reading) → Reads t now → candidates_of text_keys natives_of (plain t now).classes left right c d ≡ candidates_of table_keys natives_of w.classes left right c d
unfolding plain
candidates-seen w now left right c d v sound t r =
    let reads = subst (λ w. Reads t w) (sym v) r in
    subst (λ u. candidates_of text_keys natives_of (plain t u).classes left right c d ≡ candidates_of table_keys natives_of w.classes left right c d) v
    (candidates_of-renamed (spelled t) table_keys text_keys (λ a b. t.same a.0 b.0) (known-read w t sound.known reads) natives_of w.classes left right c d)

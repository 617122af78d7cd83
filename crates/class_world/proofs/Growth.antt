-- Worlds that have grown, and claims that hold still.
use Rattle.class_world.proofs.Below.{ℕ, suc, List, [], length, Option, Some, None, refl, sym, ap, ◌∙◌, subst, arith, length-append, slice_get, is_some, is_none, option_map, option_and_then, BuiltIn, PyStrInterned, Class, class_at, is_class, lin, layout, layout_along, member_count, members_in, place_count, says_dict, has_dict, is_heap_at, heap_type, PyTypeRef, bit_and, says_so, at-before, lin-classes, lin-push, layout-agrees, along-there, place_count-alike, is_solid-push, held_by, is_offset, Key, TextKey, AreKeys, offset-push, PyObjectRef, PyDictKey, AllByRecursion, Node, Payload, Form, Change, Keeps, keeps-itself, keeps-on, Held, Claim, IsNode, AreNodes, IsExpression, AreExpressions, IsName, AreNames, IsClass, IsOf, Holding, Standing, CanBeKeys, KeysDiffer, KeysRead, HasForm, HasParams, HasValues, AreMembers, IsOffset, HasFlags, GetsDict, OfStatic, class_ref_at, flags_at, StandsThere, params_in, held_params, AreFilled, home_of, home_at, key_in, held_key, read_key, AreRead, class_in, held_class, Holds, Lasts, Grows}
use Rattle.std.proofs.Common.{◌≡◌, ◌≤◌, ◌∷◌, ◌++◌}
use Rattle.std.specs.Prelude.{Bool, true, false, ◌&&◌, ◌==◌}
use Rattle.py_node.specs.declared.dict.PyDictKey.TheVariants as dict_key
use Rattle.class_world.proofs.Claims.{get-pushed}
use Rattle.class_world.proofs.Homes.{held_by-push}

-- what stands in a table stands there still
abbrev Stays : {A : Type 0} → List A → List A → Type 0
Stays {A} old new = (n : ℕ) (x : A) → slice_get old n ≡ Some x → slice_get new n ≡ Some x

stays-length : {A : Type 0} (old new : List A) → Stays old new → length old ≤ length new
stays-length [] new s = omega arith
stays-length (x ∷ old) [] s = absurd (nothing (s 0 x refl))
  where
    nothing : None ≡ Some x → ⊥
    nothing e = cc
stays-length (x ∷ old) (y ∷ new) s = let rest = stays-length old new (λ n z e. s (suc n) z e) in omega arith

-- what a payload tells for ever: whose like its object is, the key that it is, the class that it stands for, and its parameters
pub record Lasting : Type 0 where
  pub home : BuiltIn
  pub key : Option Key
  pub class : Option ℕ
  pub params : Option (List PyStrInterned)

abbrev pub lasting : Payload → Lasting
lasting p = record { home = home_of p; key = key_in p; class = class_in p; params = params_in p }

-- each node tells what it told, and is of the class that it was of where no script made that
pub record Keep (ks : List (Class PyStrInterned)) (old new : List Node) : Type 0 where
  pub stays : (n : ℕ) (x : Node) → slice_get old n ≡ Some x → (y : Node) × (slice_get new n ≡ Some y) × (lasting y.payload ≡ lasting x.payload) × (is_heap_at (class_at ks x.class.0) ≡ false → y.class ≡ x.class)

pub record Like (old new : List (Class PyStrInterned)) : Type 0 where
  pub held : (c : ℕ) (b : BuiltIn) → held_by old c ≡ Some b → held_by new c ≡ Some b
  pub there : (c : ℕ) → is_class old c ≡ true → is_class new c ≡ true
  pub layouts : (c : ℕ) (xs : List ℕ) → layout old c ≡ Some xs → layout new c ≡ Some xs
  pub counts : (c : ℕ) → is_class old c ≡ true → member_count (class_at new c) ≡ member_count (class_at old c)
  pub offsets : (c : ℕ) (o : Option ℕ) → is_offset old c o ≡ true → is_offset new c o ≡ true
  pub flags : (c : ℕ) → is_class old c ≡ true → flags_at new c ≡ flags_at old c

-- what the flags say of dicts
unfoldable pub says : Option ℕ → Bool
says None = false
says (Some n) = says_so n

pub says-dict : (t : List (Class PyStrInterned)) (c : ℕ) → has_dict t c ≡ says (flags_at t c)
unfolding says
says-dict t c = go (class_at t c)
  where
    go : (o : Option (Class PyStrInterned)) → says_dict o ≡ says (option_map (λ (k : Class PyStrInterned). k.flags) o)
    go None = refl
    go (Some k) = refl

pub dict-still : (old new : List (Class PyStrInterned)) → Like old new → (c : ℕ) → is_class old c ≡ true → has_dict new c ≡ has_dict old c
dict-still old new l c h = says-dict new c ∙ ap says (l.flags c h) ∙ sym (says-dict old c)

-- whether a script made a class is told by its flags
unfoldable pub scripted : Option ℕ → Bool
scripted None = false
scripted (Some n) = bit_and n heap_type == heap_type

heap-says : (t : List (Class PyStrInterned)) (c : ℕ) → is_heap_at (class_at t c) ≡ scripted (flags_at t c)
unfolding scripted
heap-says t c = go (class_at t c)
  where
    go : (o : Option (Class PyStrInterned)) → is_heap_at o ≡ scripted (option_map (λ (k : Class PyStrInterned). k.flags) o)
    go None = refl
    go (Some k) = refl

heap-still : (old new : List (Class PyStrInterned)) → Like old new → (c : ℕ) → is_class old c ≡ true → is_heap_at (class_at new c) ≡ is_heap_at (class_at old c)
heap-still old new l c h = heap-says new c ∙ ap scripted (l.flags c h) ∙ sym (heap-says old c)

-- a class with flags is there
flagged : (o : Option (Class PyStrInterned)) (n : ℕ) → option_map (λ (k : Class PyStrInterned). k.flags) o ≡ Some n → is_some o ≡ true
flagged None n e = cc
flagged (Some k) n e = refl

pub like-itself : (ks : List (Class PyStrInterned)) → Like ks ks
like-itself ks = record { held = λ c b h. h; there = λ c h. h; layouts = λ c xs h. h; counts = λ c h. refl; offsets = λ c o h. h; flags = λ c h. refl }

pub keep-itself : (ks : List (Class PyStrInterned)) (ns : List Node) → Keep ks ns ns
keep-itself ks ns = record { stays = λ n x e. (x, e, refl, λ h. refl) }

there-push : (ks : List (Class PyStrInterned)) (k : Class PyStrInterned) (c : ℕ) → is_class ks c ≡ true → is_class (ks ++ k ∷ []) c ≡ true
there-push ks k c e = ap is_some (at-before ks k c e) ∙ e

-- a class keeps its layout
layout-push : (ks : List (Class PyStrInterned)) (k : Class PyStrInterned) (c : ℕ) (xs : List ℕ) → layout ks c ≡ Some xs → layout (ks ++ k ∷ []) c ≡ Some xs
layout-push ks k c xs h = go (lin ks c) refl h
  where
    go : (o : Option (List ℕ)) → lin ks c ≡ o → option_and_then (λ line. Some (layout_along ks line)) o ≡ Some xs → layout (ks ++ k ∷ []) c ≡ Some xs
    go None e q = cc
    go (Some line) e q =
        sym (layout-agrees ks (ks ++ k ∷ []) c (e ∙ sym (lin-push ks k c line e)) (λ ls x q m. sym (is_solid-push ks k x (lin-classes ks c ls x q m)))) ∙ h

pub like-push : (ks : List (Class PyStrInterned)) (k : Class PyStrInterned) → Like ks (ks ++ k ∷ [])
like-push ks k = record { held = held_by-push ks k; there = there-push ks k; layouts = layout-push ks k; counts = λ c h. ap member_count (at-before ks k c h); offsets = offset-push ks k; flags = λ c h. ap (option_map (λ (k : Class PyStrInterned). k.flags)) (at-before ks k c h) }

pub keep-push : (ks : List (Class PyStrInterned)) (ns : List Node) (x : Node) → Keep ks ns (ns ++ x ∷ [])
keep-push ks ns x = record { stays = λ n y e. (y, get-pushed ns x n y e, refl, λ h. refl) }

-- what is read of a node, and follows from what it tells for ever, is read still
still-read : {B : Type 0} (f : Lasting → Option B) (of : Option Node → Option B) → of None ≡ None → ((x : Node) → of (Some x) ≡ f (lasting x.payload)) → {ks : List (Class PyStrInterned)} (old new : List Node) → Keep ks old new → (n : ℕ) (b : B) → of (slice_get old n) ≡ Some b → of (slice_get new n) ≡ Some b
still-read {B} f of nothing read {ks} old new g n b h = go (slice_get old n) refl h
  where
    go : (o : Option Node) → slice_get old n ≡ o → of o ≡ Some b → of (slice_get new n) ≡ Some b
    go None e h = let absent : None ≡ Some b = sym nothing ∙ h in cc absent
    go (Some x) e h = let y = g.stays n x e in ap of y.1 ∙ read y.0 ∙ ap f y.2 ∙ sym (read x) ∙ h

home-still : {ks : List (Class PyStrInterned)} (old new : List Node) → Keep ks old new → (n : ℕ) (b : BuiltIn) → home_at old n ≡ Some b → home_at new n ≡ Some b
home-still = still-read (λ l. Some l.home) (option_map (λ (x : Node). home_of x.payload)) refl (λ x. refl)

key-still : {ks : List (Class PyStrInterned)} (old new : List Node) → Keep ks old new → (r : PyObjectRef) (k : Key) → held_key old r ≡ Some k → held_key new r ≡ Some k
key-still old new g r = still-read (λ l. l.key) (option_and_then (λ (x : Node). key_in x.payload)) refl (λ x. refl) old new g r.0

class-still : {ks : List (Class PyStrInterned)} (old new : List Node) → Keep ks old new → (r : PyObjectRef) (c : ℕ) → held_class old r ≡ Some c → held_class new r ≡ Some c
class-still old new g r = still-read (λ l. l.class) (option_and_then (λ (x : Node). class_in x.payload)) refl (λ x. refl) old new g r.0

params-still : {ks : List (Class PyStrInterned)} (old new : List Node) → Keep ks old new → (r : PyObjectRef) (ps : List PyStrInterned) → held_params old r ≡ Some ps → held_params new r ≡ Some ps
params-still old new g r = still-read (λ l. l.params) (option_and_then (λ (x : Node). params_in x.payload)) refl (λ x. refl) old new g r.0

values-still : {ks : List (Class PyStrInterned)} (old new : List Node) → Keep ks old new → (r : PyObjectRef) (vars : List (PyStrInterned × PyObjectRef)) → AreFilled vars (held_params old r) → AreFilled vars (held_params new r)
values-still old new g r vars h = go (held_params old r) refl h
  where
    go : (o : Option (List PyStrInterned)) → held_params old r ≡ o → AreFilled vars o → AreFilled vars (held_params new r)
    go None e h = absurd h
    go (Some ps) e h = subst (AreFilled vars) (sym (params-still old new g r ps e)) h

known-key : (o : Option Key) → is_some o ≡ true → (k : Key) × (o ≡ Some k)
known-key None e = cc
known-key (Some k) e = (k, refl)

key-keep : {ks : List (Class PyStrInterned)} (old new : List Node) → Keep ks old new → (r : PyObjectRef) → is_some (held_key old r) ≡ true → is_some (held_key new r) ≡ true
key-keep old new g r h = let a = known-key (held_key old r) h in ap is_some (key-still old new g r a.0 a.1)

keys-keep : {ks : List (Class PyStrInterned)} (old new : List Node) → Keep ks old new → (rs : List PyObjectRef) → AreKeys (held_key old) rs → AreKeys (held_key new) rs
keys-keep old new g rs h = record {
  known = λ i r e. let a = known-key (held_key old r) (h.known i r e) in ap is_some (key-still old new g r a.0 a.1);
  apart = λ i j r s e f q.
      let a = known-key (held_key old r) (h.known i r e) in
      let b = known-key (held_key old s) (h.known j s f) in
      let same : held_key old r ≡ held_key old s = let p = key-still old new g r a.0 a.1 in let x = key-still old new g s b.0 b.1 in cc (a.1, b.1, p, x, q) in
      h.apart i j r s e f same;
}

-- the key that is stored says what it said
reads-still : (old new : List (List ℕ)) → Stays old new → (k : PyDictKey) (c : Key) → read_key old k ≡ Some c → read_key new k ≡ Some c
reads-still old new s (dict_key.Number z) c h = h
reads-still old new s (dict_key.Text x) c h = go (slice_get old x.0) refl h
  where
    go : (o : Option (List ℕ)) → slice_get old x.0 ≡ o → option_map TextKey o ≡ Some c → option_map TextKey (slice_get new x.0) ≡ Some c
    go None e h = cc
    go (Some y) e h = ap (option_map TextKey) (s x.0 y e) ∙ h

read-still : {ls : List (Class PyStrInterned)} (old new : List (List ℕ)) → Stays old new → (ns ms : List Node) → Keep ls ns ms → (ks : List PyDictKey) (rs : List PyObjectRef) → AreRead old ns ks rs → AreRead new ms ks rs
read-still old new s ns ms g [] [] h = tt
read-still old new s ns ms g [] (r ∷ rs) h = absurd h
read-still old new s ns ms g (k ∷ ks) [] h = absurd h
read-still old new s ns ms g (k ∷ ks) (r ∷ rs) h =
    ((h.0.0, reads-still old new s k h.0.0 h.0.1, key-still ns ms g r h.0.0 h.0.2), read-still old new s ns ms g ks rs h.1)

stands-still : (n m : ℕ) → n ≤ m → (o : Option PyObjectRef) → StandsThere n o → StandsThere m o
stands-still n m l None h = h
stands-still n m l (Some r) h = omega arith

members-still : (n m : ℕ) → n ≤ m → (ms : List (Option PyObjectRef)) → AllByRecursion (StandsThere n) ms → AllByRecursion (StandsThere m) ms
members-still n m l [] h = h
members-still n m l (o ∷ ms) h = (stands-still n m l o h.0, members-still n m l ms h.1)

-- a class whose places can be counted keeps its layout, and has as many still
pub layout-still : (old new : List (Class PyStrInterned)) → Like old new → (c k : ℕ) → place_count old c ≡ Some k → layout new c ≡ layout old c
layout-still old new l c k e = go (layout old c) refl e
  where
    go : (o : Option (List ℕ)) → layout old c ≡ o → option_map (members_in old) o ≡ Some k → layout new c ≡ layout old c
    go None q e = cc
    go (Some xs) q e = l.layouts c xs q ∙ sym q

pub count-still : (old new : List (Class PyStrInterned)) → Like old new → (c k : ℕ) → place_count old c ≡ Some k → place_count new c ≡ Some k
count-still old new l c k e =
    place_count-alike new old c c (layout-still old new l c k e) (λ x h. l.counts x (along-there old c x h)) ∙ e

static-still : (ks : List (Class PyStrInterned)) (old new : List Node) → Keep ks old new → (n c : ℕ) → class_ref_at old n ≡ Some c → is_heap_at (class_at ks c) ≡ false → class_ref_at new n ≡ Some c
static-still ks old new g n c h heap = go (slice_get old n) refl h
  where
    go : (o : Option Node) → slice_get old n ≡ o → option_map (λ (x : Node). x.class.0) o ≡ Some c → class_ref_at new n ≡ Some c
    go None e h = cc
    go (Some x) e h =
        let here : x.class.0 ≡ c = cc in
        let y = g.stays n x e in
        ap (option_map (λ (x : Node). x.class.0)) y.1 ∙ ap (λ (k : PyTypeRef). Some k.0) (y.3 (ap (λ c. is_heap_at (class_at ks c)) here ∙ heap)) ∙ h

grows-at : (old new : Held) → Stays old.names new.names → length old.forms ≤ length new.forms → Stays old.forms new.forms → length old.nodes ≤ length new.nodes → Keep old.classes old.nodes new.nodes → Like old.classes new.classes → (c : Claim) → Holds old c → Holds new c
unfolding Holds
grows-at old new x e s n p l (IsNode r) h = omega arith
grows-at old new x e s n p l (AreNodes rs) h = λ i d m. let below = h i d m in omega arith
grows-at old new x e s n p l (IsExpression m) h = omega arith
grows-at old new x e s n p l (AreExpressions es) h = λ i d m. let below = h i d m in omega arith
grows-at old new x e s n p l (IsName m) h = let longer = stays-length old.names new.names x in omega arith
grows-at old new x e s n p l (AreNames xs) h = λ i d m. let longer = stays-length old.names new.names x in let below = h i d m in omega arith
grows-at old new x e s n p l (IsClass c) h = l.there c h
grows-at old new x e s n p l (IsOf c b) h = l.held c b h
grows-at old new x e s n p l (Holding r b) h = home-still old.nodes new.nodes p r.0 b h
grows-at old new x e s n p l (Standing c r) h = class-still old.nodes new.nodes p r c h
grows-at old new x e s n p l (CanBeKeys rs) h = λ i d m. key-keep old.nodes new.nodes p _ (h i d m)
grows-at old new x e s n p l (KeysDiffer rs) h = keys-keep old.nodes new.nodes p rs h
grows-at old new x e s n p l (KeysRead ks rs) h = read-still old.names new.names x old.nodes new.nodes p ks rs h
grows-at old new x e s n p l (HasForm m test) h = (h.0, s m.0 h.0 h.1, h.2)
grows-at old new x e s n p l (HasParams r ps) h = params-still old.nodes new.nodes p r ps h
grows-at old new x e s n p l (HasValues r vars) h = values-still old.nodes new.nodes p r vars h
grows-at old new x e s n p l (AreMembers c ms) h = (count-still old.classes new.classes l c (length ms) h.0, members-still (length old.nodes) (length new.nodes) n ms h.1)
grows-at old new x e s n p l (IsOffset c o) h = l.offsets c o h
grows-at old new x e s n p l (HasFlags c m) h = l.flags c (flagged (class_at old.classes c) m h) ∙ h
grows-at old new x e s n p l (OfStatic r c) h =
    (static-still old.classes old.nodes new.nodes p r.0 c h.0 h.2, l.there c h.1, heap-still old.classes new.classes l c h.1 ∙ h.2)
grows-at old new x e s n p l (GetsDict o c b) h = (l.there c h.0, h.1 ∙ sym (ap (λ v. is_none o && v) (dict-still old.classes new.classes l c h.0)))

same-log : (old new : List Change) → old ≡ new → Keeps old new
same-log old new e = subst (Keeps old) e (keeps-itself old)

-- where no table is shorter
lasts : (old new : Held) → old.log ≡ new.log → Stays old.names new.names → length old.forms ≤ length new.forms → Stays old.forms new.forms → length old.nodes ≤ length new.nodes → Keep old.classes old.nodes new.nodes → Like old.classes new.classes → Lasts old new
lasts old new log x e s n p l = record { still = grows-at old new x e s n p l; log = same-log old.log new.log log }

-- and the same bodies run, and the same notes stand
pub grows : (old new : Held) → Keeps old.log new.log → old.scopes ≡ new.scopes → old.calls ≡ new.calls → Stays old.names new.names → length old.forms ≤ length new.forms → Stays old.forms new.forms → length old.nodes ≤ length new.nodes → Keep old.classes old.nodes new.nodes → Like old.classes new.classes → Grows old new
grows old new log b q x e s n p l = record { still = grows-at old new x e s n p l; log = log; bodies = ap length (sym b); notes = sym q }

pub grows-lasts : (old new : Held) → Grows old new → Lasts old new
grows-lasts old new g = record { still = g.still; log = g.log }

pub grows-itself : (w : Held) → Grows w w
grows-itself w = record { still = λ c h. h; log = keeps-itself w.log; bodies = refl; notes = refl }

pub grows-on : (a b c : Held) → Grows a b → Grows b c → Grows a c
grows-on a b c g h = record { still = λ k p. h.still k (g.still k p); log = keeps-on a.log b.log c.log g.log h.log; bodies = h.bodies ∙ g.bodies; notes = h.notes ∙ g.notes }

pub lasts-on : (a b c : Held) → Lasts a b → Lasts b c → Lasts a c
lasts-on a b c g h = record { still = λ k p. h.still k (g.still k p); log = keeps-on a.log b.log c.log g.log h.log }

-- where the tables are the same
pub same-lasts : (old new : Held) → old.log ≡ new.log → old.names ≡ new.names → old.forms ≡ new.forms → old.nodes ≡ new.nodes → old.classes ≡ new.classes → Lasts old new
same-lasts old new log x e n k =
    let b = ap length e in
    let d = ap length n in
    lasts old new log (λ m y h. subst (λ ns. slice_get ns m ≡ Some y) x h) (omega arith) (λ m f h. subst (λ fs. slice_get fs m ≡ Some f) e h) (omega arith) (subst (λ ns. Keep old.classes old.nodes ns) n (keep-itself old.classes old.nodes)) (subst (λ ks. Like old.classes ks) k (like-itself old.classes))

pub grows-seen : (w now new : Held) → w ≡ now → Grows w new → Grows now new
grows-seen w now new e g = subst (λ w. Grows w new) e g

pub lasts-seen : (w now new : Held) → w ≡ now → Lasts w new → Lasts now new
lasts-seen w now new e g = subst (λ w. Lasts w new) e g

pub node-grows : (w : Held) (n : Node) → Grows w (record w { nodes = w.nodes ++ n ∷ [] })
node-grows w n = let l = length-append w.nodes (n ∷ []) in grows w (record w { nodes = w.nodes ++ n ∷ [] }) (keeps-itself w.log) refl refl (λ m x h. h) (omega arith) (λ m f h. h) (omega arith) (keep-push w.classes w.nodes n) (like-itself w.classes)

pub form-grows : (w : Held) (f : Form) → Grows w (record w { forms = w.forms ++ f ∷ [] })
form-grows w f = let l = length-append w.forms (f ∷ []) in grows w (record w { forms = w.forms ++ f ∷ [] }) (keeps-itself w.log) refl refl (λ m x h. h) (omega arith) (λ m g h. get-pushed w.forms f m g h) (omega arith) (keep-itself w.classes w.nodes) (like-itself w.classes)

pub names-grow : (w : Held) (names : List (List ℕ)) → Stays w.names names → Grows w (record w { names = names })
names-grow w names s = grows w (record w { names = names }) (keeps-itself w.log) refl refl s (omega arith) (λ m f h. h) (omega arith) (keep-itself w.classes w.nodes) (like-itself w.classes)

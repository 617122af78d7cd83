-- The world of a new machine: own attribute by own attribute, its classes and its nodes grow together.
use Rattle.class_world.proofs.Below.{ℕ, suc, true, false, cond, List, [], length, fold, Option, Some, None, Ok, refl, sym, ap, ◌∙◌, subst, arith, length-append, option_map, bit_and, length-map, Attr, BuiltIn, Known, Node, PyObjectRef, PyStrInterned, PyTypeRef, is_same_name, place_of, flags_of, built_in_flags, all_built_ins, fixed_none, fixed_node_count, known_text, known_texts, number_of, own_attrs, Class, Classes, class_at, with_class_attr, place_count, says_dict, has_dict, built_in_classes, place-first, has_dict-renamed, says_so, Numbered, value_number, number_past, with_own, with_all_own, with_each_own, start_classes, keeps-itself, logged-first, PlainWorld, holds_as, attr_class, attr_datum, is_made, with_attr, with_attrs, bare, start, ref, with_node, next_node, with_own_attr, Held, Reading, Reads, datum, spelled, node_of, plain, IsName, IsNode, IsClass, IsOf, Holds, AllHold, SoundWith, Sound, flags_at, home_of, class_in, of_payload, start_nodes, own_payload, own_node, with_own_node, with_own_nodes, opening_nodes}
use Rattle.std.proofs.Common.{◌≡◌, ◌+◌, ◌<◌, ◌≤◌, ◌∷◌, ◌++◌}
use Rattle.std.specs.Prelude.{◌==◌}
use Rattle.py_node.specs.declared.attr.Attr.TheVariants as attr
use Rattle.py_node.specs.BuiltIns.{has_dict as dict_flag}
use Rattle.plain_machine.specs.World.{has_dict as plain_has_dict}
use Rattle.class_world.proofs.Added.{object-sound, object-read}
use Rattle.class_world.proofs.ClassChanges.{set-like, set-sound, set-read}
use Rattle.class_world.proofs.Growth.{count-still}
use Rattle.class_world.proofs.Look.{known-read, known-within}
use Rattle.class_world.proofs.StartSound.{started-bare, started-sound, started-plain}

-- a world that knows the first names, with these classes and nodes
abbrev pub opened : Classes PyStrInterned → List Node → Held
opened ks ns = record { names = known_texts; forms = []; nodes = ns; classes = ks; vars = []; scopes = []; calls = []; log = [] }

-- what an own attribute holds, by computing

own-datum : (t : Reading) (b : BuiltIn) (x : PyStrInterned) (a : Attr) → datum t (own_payload b x a) ≡ attr_datum b (t.text x.0) a
own-datum t b x attr.New = refl
own-datum t b x (attr.Method e) = refl
own-datum t b x (attr.ClassMethod e) = refl
own-datum t b x (attr.ReadOnly p) = refl
own-datum t b x (attr.Settable p) = refl
own-datum t b x (attr.Part d) = refl
own-datum t b x (attr.SettablePart d) = refl
own-datum t b x attr.NoHash = refl

own-home : (b : BuiltIn) (x : PyStrInterned) (a : Attr) → holds_as (attr_class a) ≡ home_of (own_payload b x a)
own-home b x attr.New = refl
own-home b x (attr.Method e) = refl
own-home b x (attr.ClassMethod e) = refl
own-home b x (attr.ReadOnly p) = refl
own-home b x (attr.Settable p) = refl
own-home b x (attr.Part d) = refl
own-home b x (attr.SettablePart d) = refl
own-home b x attr.NoHash = refl

own-other : (b : BuiltIn) (x : PyStrInterned) (a : Attr) → class_in (own_payload b x a) ≡ None
own-other b x attr.New = refl
own-other b x (attr.Method e) = refl
own-other b x (attr.ClassMethod e) = refl
own-other b x (attr.ReadOnly p) = refl
own-other b x (attr.Settable p) = refl
own-other b x (attr.Part d) = refl
own-other b x (attr.SettablePart d) = refl
own-other b x attr.NoHash = refl

own-holds : (w : Held) (b : BuiltIn) (x : PyStrInterned) (a : Attr) → Holds w (IsName x) → Holds w (IsClass (place_of b)) → Holds w (IsNode (ref (place_of b))) → AllHold w (of_payload (own_payload b x a))
own-holds w b x attr.New n c r = (n, (r, tt))
own-holds w b x (attr.Method e) n c r = (c, (n, tt))
own-holds w b x (attr.ClassMethod e) n c r = (c, (n, tt))
own-holds w b x (attr.ReadOnly p) n c r = (c, (n, tt))
own-holds w b x (attr.Settable p) n c r = (c, (n, tt))
own-holds w b x (attr.Part d) n c r = (c, (n, tt))
own-holds w b x (attr.SettablePart d) n c r = (c, (n, tt))
own-holds w b x attr.NoHash n c r = tt

attr-plain : (a : Attr) → says_so (flags_of (attr_class a)) ≡ false
unfolding flags_of built_in_flags place_of
attr-plain attr.New = refl
attr-plain (attr.Method e) = refl
attr-plain (attr.ClassMethod e) = refl
attr-plain (attr.ReadOnly p) = refl
attr-plain (attr.Settable p) = refl
attr-plain (attr.Part d) = refl
attr-plain (attr.SettablePart d) = refl
attr-plain attr.NoHash = refl

-- a class whose flags say so gives its objects no dict
no-dict : (t : Classes PyStrInterned) (c n : ℕ) → flags_at t c ≡ Some n → says_so n ≡ false → has_dict t c ≡ false
no-dict t c n e s = go (class_at t c) e
  where
    go : (o : Option (Class PyStrInterned)) → option_map (λ (k : Class PyStrInterned). k.flags) o ≡ Some n → says_dict o ≡ false
    go None e = refl
    go (Some k) e = let f : k.flags ≡ n = cc in ap (λ m. bit_and m dict_flag == dict_flag) f ∙ s

-- a name is one still where the names are the same
name-stays : (v w : Held) (x : PyStrInterned) → v.names ≡ w.names → Holds v (IsName x) → Holds w (IsName x)
unfolding Holds
name-stays v w x e h = subst (λ (xs : List (List ℕ)). x.0 < length xs) e h

-- a node that is added is there, and so is None
last-there : (w : Held) (d : Node) → Holds (record w { nodes = w.nodes ++ d ∷ [] }) (IsNode (ref (length w.nodes)))
unfolding Holds
last-there w d = let l = length-append w.nodes (d ∷ []) in omega (arith, l)

none-there : (w : Held) → 27 ≤ length w.nodes → Holds w (IsNode (ref fixed_none))
unfolding Holds
none-there w l = omega (arith, l)

-- what a world under way is: as many nodes as it counts, sound but for its log, and what the plain machine has then
pub record Opens (s : Numbered) (ns : List Node) (p : PlainWorld) : Type 0 where
  pub count : length ns ≡ s.1
  pub sound : SoundWith (Unit {0}) (opened s.0 ns)
  pub plain_is : (t : Reading) → Reads t (opened s.0 ns) → plain t (opened s.0 ns) ≡ p
  -- no built-in class gives its objects places
  pub placeless : (b : BuiltIn) → place_count s.0 (place_of b) ≡ Some 0

module _ (b : BuiltIn) (x : Known) (a : Attr) (ks : Classes PyStrInterned) (ns : List Node) (s : SoundWith (Unit {0}) (opened ks ns)) (placeless : (c : BuiltIn) → place_count ks (place_of c) ≡ Some 0) where
  abbrev w : Held
  w = opened ks ns

  abbrev name : PyStrInterned
  name = record { 0 = number_of x }

  abbrev class : PyTypeRef
  class = record { 0 = place_of (attr_class a) }

  abbrev more : List Node
  more = ns ++ own_node b name a ∷ []

  named : Holds w (IsName name)
  unfolding Holds
  named = known-within w s.known x name refl

  class-there : (c : BuiltIn) → Holds w (IsClass (place_of c))
  unfolding Holds
  class-there c = s.built_in (place_of c) (place-first c)

  node-there : Holds w (IsNode (ref (place_of b)))
  unfolding Holds
  node-there = let few = place-first b in let many = s.fixed in omega (arith, few, many)

  dictless : has_dict ks (place_of (attr_class a)) ≡ false
  unfolding Holds
  dictless = no-dict ks (place_of (attr_class a)) (flags_of (attr_class a)) (s.flags (attr_class a)) (attr-plain a)

  pub object-added : SoundWith (Unit {0}) (opened ks more)
  object-added =
      object-sound w class [] (own_payload b name a) None (placeless (attr_class a), λ n. refl) dictless tt tt (class-there (attr_class a))
      (subst (λ h. Holds w (IsOf (place_of (attr_class a)) h)) (own-home b name a) (s.own (attr_class a))) (own-other b name a) (own-holds w b name a named (class-there b) node-there) s

  plain-dictless : (t : Reading) → plain_has_dict (plain t w) (place_of (attr_class a)) ≡ false
  unfolding plain
  plain-dictless t = has_dict-renamed (spelled t) ks (place_of (attr_class a)) ∙ dictless

  text-is : (t : Reading) → Reads t w → t.text (number_of x) ≡ known_text x
  text-is t r = sym (known-read w t s.known r x)

  pub object-seen : (t : Reading) → Reads t w → plain t (opened ks more) ≡ with_node (plain t w) (place_of (attr_class a)) (attr_datum b (known_text x) a)
  object-seen t r =
      object-read w class [] (own_payload b name a) t None (placeless (attr_class a), λ n. refl) tt (plain-dictless t)
      ∙ ap (with_node (plain t w) (place_of (attr_class a))) (own-datum t b name a ∙ ap (λ y. attr_datum b y a) (text-is t r))

  pub next-is : (t : Reading) → next_node (plain t w) (place_of (attr_class a)) ≡ ref (length ns)
  unfolding plain
  next-is t =
      ap (λ d. ref (cond d (length (plain t w).nodes + 1) (length (plain t w).nodes))) (plain-dictless t) ∙ ap ref (length-map ns (node_of t ks))

  -- the attribute is set
  module _ (ms : List Node) (r : PyObjectRef) (m : SoundWith (Unit {0}) (opened ks ms)) (there : Holds (opened ks ms) (IsNode r)) where
    abbrev set : Classes PyStrInterned
    set = with_class_attr is_same_name ks (place_of b) name r

    pub attr-added : SoundWith (Unit {0}) (opened set ms)
    attr-added =
        set-sound {A = Unit {0}} {E = Unit {0}} (opened ks ms) (place_of b) name r set [] (keeps-itself []) tt (Ok tt) refl tt m (name-stays (opened ks ns) (opened ks ms) name refl named) there

    pub attr-placeless : (c : BuiltIn) → place_count set (place_of c) ≡ Some 0
    attr-placeless c = count-still ks set (set-like {A = Unit {0}} {E = Unit {0}} (opened ks ms) (place_of b) name r set (Ok tt) refl tt) (place_of c) 0 (placeless c)

    pub attr-seen : (t : Reading) → Reads t w → plain t (opened set ms) ≡ with_own_attr (plain t (opened ks ms)) (place_of b) (known_text x) r
    attr-seen t q =
        set-read {A = Unit {0}} {E = Unit {0}} (opened ks ms) (place_of b) name r set [] (opened ks ms) (Ok tt) refl refl m.nodes t
        ∙ ap (λ y. with_own_attr (plain t (opened ks ms)) (place_of b) y r) (text-is t q)

-- one own attribute: an object is made for it
made-step : (b : BuiltIn) (x : Known) (a : Attr) (s : Numbered) (ns : List Node) (p : PlainWorld) → is_made a ≡ true → value_number s.1 a ≡ s.1 → number_past s.1 a ≡ suc s.1 → Opens s ns p → Opens (with_own b s (x, a)) (with_own_node b ns (x, a)) (with_attr b p (x, a))
unfolding with_own with_own_node with_attr
made-step b x a s ns p m v n h =
    let more = ns ++ own_node b (record { 0 = number_of x }) a ∷ [] in
    let nodes : with_own_node b ns (x, a) ≡ more = ap (λ y. cond y more ns) m in
    let value : value_number s.1 a ≡ length ns = v ∙ sym h.count in
    let added = object-added b x a s.0 ns h.sound h.placeless in
    let r = ref (length ns) in
    let there = last-there (opened s.0 ns) (own_node b (record { 0 = number_of x }) a) in
    let at : with_own b s (x, a) ≡ (with_class_attr is_same_name s.0 (place_of b) (record { 0 = number_of x }) r, suc s.1) =
    λ i. (with_class_attr is_same_name s.0 (place_of b) (record { 0 = number_of x }) (record { 0 = value i }), n i) in
    subst (λ u. Opens u (with_own_node b ns (x, a)) (with_attr b p (x, a))) (sym at) (subst (λ ms. Opens (with_class_attr is_same_name s.0 (place_of b) (record { 0 = number_of x }) r, suc s.1) ms (with_attr b p (x, a))) (sym nodes) (record {
      count = let l = length-append ns (own_node b (record { 0 = number_of x }) a ∷ []) in let k = h.count in omega (arith, l, k);
      sound = attr-added b x a s.0 ns h.sound h.placeless more r added there;
      placeless = attr-placeless b x a s.0 ns h.sound h.placeless more r added there;
      plain_is = λ t q.
          let before : Reads t (opened s.0 ns) = record { names = q.names; trees = q.trees } in
          let same = h.plain_is t before in
          attr-seen b x a s.0 ns h.sound h.placeless more r added there t before
          ∙ ap (λ w. with_own_attr w (place_of b) (known_text x) r) (object-seen b x a s.0 ns h.sound h.placeless t before)
          ∙ ap (λ y. with_own_attr (with_node (plain t (opened s.0 ns)) (place_of (attr_class a)) (attr_datum b (known_text x) a)) (place_of b) (known_text x) y) (sym (next-is b x a s.0 ns h.sound h.placeless t))
          ∙ ap (λ w. with_own_attr (with_node w (place_of (attr_class a)) (attr_datum b (known_text x) a)) (place_of b) (known_text x) (next_node w (place_of (attr_class a)))) same
          ∙ ap (λ y. with_own_attr (cond y (with_node p (place_of (attr_class a)) (attr_datum b (known_text x) a)) p) (place_of b) (known_text x) (cond y (next_node p (place_of (attr_class a))) (ref fixed_none))) (sym m);
    }))

-- or it holds None
none-step : (b : BuiltIn) (x : Known) (s : Numbered) (ns : List Node) (p : PlainWorld) → Opens s ns p → Opens (with_own b s (x, attr.NoHash)) (with_own_node b ns (x, attr.NoHash)) (with_attr b p (x, attr.NoHash))
unfolding with_own with_own_node with_attr
none-step b x s ns p h =
    let r = ref fixed_none in
    let there = none-there (opened s.0 ns) h.sound.fixed in record {
      count = h.count;
      sound = attr-added b x attr.NoHash s.0 ns h.sound h.placeless ns r h.sound there;
      placeless = attr-placeless b x attr.NoHash s.0 ns h.sound h.placeless ns r h.sound there;
      plain_is = λ t q.
          let before : Reads t (opened s.0 ns) = record { names = q.names; trees = q.trees } in
          attr-seen b x attr.NoHash s.0 ns h.sound h.placeless ns r h.sound there t before ∙ ap (λ w. with_own_attr w (place_of b) (known_text x) r) (h.plain_is t before);
    }

own-step : (b : BuiltIn) (x : Known) (a : Attr) (s : Numbered) (ns : List Node) (p : PlainWorld) → Opens s ns p → Opens (with_own b s (x, a)) (with_own_node b ns (x, a)) (with_attr b p (x, a))
own-step b x attr.New s ns p h = made-step b x attr.New s ns p refl refl refl h
own-step b x (attr.Method e) s ns p h = made-step b x (attr.Method e) s ns p refl refl refl h
own-step b x (attr.ClassMethod e) s ns p h = made-step b x (attr.ClassMethod e) s ns p refl refl refl h
own-step b x (attr.ReadOnly e) s ns p h = made-step b x (attr.ReadOnly e) s ns p refl refl refl h
own-step b x (attr.Settable e) s ns p h = made-step b x (attr.Settable e) s ns p refl refl refl h
own-step b x (attr.Part e) s ns p h = made-step b x (attr.Part e) s ns p refl refl refl h
own-step b x (attr.SettablePart e) s ns p h = made-step b x (attr.SettablePart e) s ns p refl refl refl h
own-step b x attr.NoHash s ns p h = none-step b x s ns p h

own-steps : (b : BuiltIn) (own : List (Known × Attr)) (s : Numbered) (ns : List Node) (p : PlainWorld) → Opens s ns p → Opens (fold (with_own b) s own) (fold (with_own_node b) ns own) (fold (with_attr b) p own)
unfolding with_own with_own_node with_attr
own-steps b [] s ns p h = h
own-steps b (a ∷ own) s ns p h =
    own-steps b own (with_own b s a) (with_own_node b ns a) (with_attr b p a) (own-step b a.0 a.1 s ns p h)

all-steps : (bs : List BuiltIn) (s : Numbered) (ns : List Node) (p : PlainWorld) → Opens s ns p → Opens (fold with_all_own s bs) (fold with_own_nodes ns bs) (fold with_attrs p bs)
all-steps [] s ns p h = h
all-steps (b ∷ bs) s ns p h =
    all-steps bs (with_all_own s b) (with_own_nodes ns b) (with_attrs p b) (own-steps b (own_attrs b) s ns p h)

started-count : length start_nodes ≡ fixed_node_count
unfolding all_built_ins
started-count = refl

first-opens : Opens (built_in_classes, fixed_node_count) start_nodes bare
first-opens = record { count = started-count; sound = started-sound; plain_is = λ t r. started-plain t; placeless = started-bare }

all-open : Opens (with_each_own (built_in_classes, fixed_node_count)) (fold with_own_nodes start_nodes all_built_ins) (fold with_attrs bare all_built_ins)
all-open = all-steps all_built_ins (built_in_classes, fixed_node_count) start_nodes bare first-opens

opening-but-log : SoundWith (Unit {0}) (opened start_classes opening_nodes)
unfolding start_classes opening_nodes
opening-but-log = all-open.sound

-- the log is that of these classes
pub opening-sound : Sound (opened start_classes opening_nodes)
opening-sound =
    let s = opening-but-log in record { forms = s.forms; below = s.below; nodes = s.nodes; classes = s.classes; vars = s.vars; scopes = s.scopes; apart = s.apart; scopes_apart = s.scopes_apart; standing = s.standing; itself = s.itself; fixed = s.fixed; built_in = s.built_in; own = s.own; flags = s.flags; of_none = s.of_none; unmarked = s.unmarked; known = s.known; logged = logged-first }

pub opening-plain : (t : Reading) → Reads t (opened start_classes opening_nodes) → plain t (opened start_classes opening_nodes) ≡ start
unfolding start_classes opening_nodes start
opening-plain t r = all-open.plain_is t r

-- The world of a new machine is sound, and is the plain machine's.
use Rattle.class_world.proofs.Below.{ℕ, zero, suc, Bool, true, false, cond, List, [], length, Option, Some, None, refl, sym, ap, subst, arith, map, ltb, is_some, pos, option_map, option_and_then, IsDistinct, eqb-true, eqb-false, ltb-true, Payload, Object, Number, PyStrInterned, PyTypeRef, BuiltIn, holds_as, held_by, place_of, base_of, flags_of, built_in_bases, built_in_flags, all_built_ins, has_dict, linear, least_order, arrangements, all_arrangements, known_texts, Class, class_at, is_class, has_flag, lin, renamed, layout_along, member_count, members_in, place_count, built_class, fixed_nodes as plain_fixed_nodes, bare, the_dict, the_none_type, the_not_implemented_type, the_bool, no_members, none, Held, type_ref, plain_node, class_node, start_nodes, Reading, datum, node_of, spelled, plain, Standing, HasFlags, OfStatic, GetsDict, held_class, flags_at, is_marked_heap, Holds, AllHold, SoundWith, of_node, of_dict, of_class, of_each, split}
use Rattle.std.proofs.Common.{◌≡◌, ◌+◌, ◌^◌, ◌<◌, ◌≤◌, ◌∷◌, ◌++◌}
use Rattle.std.specs.Prelude.{◌&&◌, eqb}
use Rattle.py_node.specs.declared.payload.Payload.TheVariants.{Class as ClassPayload}
use Rattle.py_node.specs.declared.built_in.BuiltIn.TheVariants as built_in
use Rattle.plain_machine.specs.Start.{class_node as plain_class_node}
use Rattle.class_world.specs.StartNodes.{fixed_nodes}
use Rattle.class_world.proofs.Claims.{each-append, all-append}
use Rattle.class_world.proofs.Homes.{by_line}
use Rattle.class_world.proofs.SamePlaces.{none-read}

-- whether each class has a place below the number
abbrev places_below : ℕ → List BuiltIn → Bool
places_below n [] = true
places_below n (b ∷ bs) = ltb (place_of b) n && places_below n bs

abbrev built : BuiltIn → Class PyStrInterned
built b = built_class b

module _ (w : Held) where
  nodes-hold : (n : ℕ) (bs : List BuiltIn) → places_below n bs ≡ true → ((c : ℕ) → c < n → is_class w.classes c ≡ true) → 1 < n → held_by w.classes 1 ≡ Some built_in.TypeType → place_count w.classes 1 ≡ Some 0 → AllHold w (of_each of_node (map class_node bs))
  unfolding Holds
  nodes-hold n [] h l o m e = tt
  nodes-hold n (b ∷ bs) h l o m e =
      let both = split (ltb (place_of b) n) (places_below n bs) h in
      let below = ltb-true (place_of b) n both.0 in
      (l 1 o, (m, ((e, tt), ((l 1 o, refl), (l (place_of b) below, nodes-hold n bs both.1 l o m e)))))

  fixed-hold : ((c : ℕ) → c < 23 → is_class w.classes c ≡ true) → held_by w.classes 2 ≡ Some built_in.Object → held_by w.classes 3 ≡ Some built_in.Object → held_by w.classes 5 ≡ Some built_in.Int → has_dict w.classes 2 ≡ false → has_dict w.classes 3 ≡ false → has_dict w.classes 5 ≡ false → place_count w.classes 2 ≡ Some 0 → place_count w.classes 3 ≡ Some 0 → place_count w.classes 5 ≡ Some 0 → AllHold w (of_each of_node fixed_nodes)
  unfolding Holds
  fixed-hold l a b c d e f p q r =
      let at : (n : ℕ) → n < 23 → has_dict w.classes n ≡ false → Holds w (GetsDict None n false) = λ n k g. (l n k, sym g) in
      (l 2 (omega arith), (a, ((p, tt), (at 2 (omega arith) d, (l 3 (omega arith), (b, ((q, tt), (at 3 (omega arith) e, (l 5 (omega arith), (c, ((r, tt), (at 5 (omega arith) f, (l 5 (omega arith), (c, ((r, tt), (at 5 (omega arith) f, tt))))))))))))))))

  dict-holds : (b : Bool) → is_class w.classes the_dict ≡ true → AllHold w (of_dict b)
  unfolding Holds
  dict-holds true l = (l, tt)
  dict-holds false l = tt

  classes-hold : (n : ℕ) (bs : List BuiltIn) → places_below n bs ≡ true → is_class w.classes the_dict ≡ true → n ≤ length w.nodes → AllHold w (of_each of_class (map built bs))
  unfolding Holds
  classes-hold n [] h l k = tt
  classes-hold n (b ∷ bs) h l k =
      let both = split (ltb (place_of b) n) (places_below n bs) h in
      let below = ltb-true (place_of b) n both.0 in
      (omega (arith, below, k), ((λ i d l. absurd (omega arith)), all-append w (of_dict (has_flag (2 ^ 40) (built b)) ++ []) _ (all-append w (of_dict (has_flag (2 ^ 40) (built b))) [] (dict-holds (has_flag (2 ^ 40) (built b)) l) tt) (classes-hold n bs both.1 l k)))

-- the world of the names that are known, the built-in classes and their nodes
abbrev pub started : Held
started = record { names = known_texts; forms = []; nodes = start_nodes; classes = map built all_built_ins; vars = []; scopes = []; calls = []; log = [] }

-- by computing each linearisation
started-own : (b : BuiltIn) → held_by started.classes (place_of b) ≡ Some (holds_as b)
unfolding all_built_ins built_in_bases place_of base_of linear least_order all_arrangements arrangements
started-own built_in.Object = refl
started-own built_in.TypeType = refl
started-own built_in.NoneType = refl
started-own built_in.NotImplementedType = refl
started-own built_in.Int = refl
started-own built_in.Bool = refl
started-own built_in.Str = refl
started-own built_in.Tuple = refl
started-own built_in.List = refl
started-own built_in.Dict = refl
started-own built_in.Function = refl
started-own built_in.Method = refl
started-own built_in.BuiltinFunctionOrMethod = refl
started-own built_in.BuiltinMethod = refl
started-own built_in.MethodDescriptor = refl
started-own built_in.GetSetDescriptor = refl
started-own built_in.MemberDescriptor = refl
started-own built_in.Property = refl
started-own built_in.ClassMethod = refl
started-own built_in.StaticMethod = refl
started-own built_in.Super = refl
started-own built_in.Iterator = refl
started-own built_in.Slice = refl

-- no built-in class gives its objects places
none-own : (bs : List BuiltIn) (c : ℕ) → member_count (class_at (map built bs) c) ≡ 0
none-own [] c = refl
none-own (b ∷ bs) c = go (eqb (place_of b) c) (none-own bs c)
  where
    go : (v : Bool) → member_count (class_at (map built bs) c) ≡ 0 → member_count (cond v (Some (built b)) (class_at (map built bs) c)) ≡ 0
    go true h = refl
    go false h = h

none-in : (t : List (Class PyStrInterned)) → ((c : ℕ) → member_count (class_at t c) ≡ 0) → (line : List ℕ) → members_in t line ≡ 0
none-in t h [] = refl
none-in t h (c ∷ cs) =
    let here = h c in
    let rest = none-in t h cs in
    omega (arith, here, rest)

none-counted : (t : List (Class PyStrInterned)) → ((c : ℕ) → member_count (class_at t c) ≡ 0) → (c : ℕ) (b : BuiltIn) → held_by t c ≡ Some b → place_count t c ≡ Some 0
none-counted t h c b e = go (lin t c) e
  where
    go : (o : Option (List ℕ)) → by_line o ≡ Some b → option_map (members_in t) (option_and_then (λ line. Some (layout_along t line)) o) ≡ Some 0
    go None e = cc
    go (Some line) e = ap Some (none-in t h (layout_along t line))

pub started-bare : (b : BuiltIn) → place_count started.classes (place_of b) ≡ Some 0
started-bare b = none-counted started.classes (none-own all_built_ins) (place_of b) (holds_as b) (started-own b)

-- None is of its class, by computing
started-none : Holds started (OfStatic none the_none_type)
unfolding all_built_ins place_of flags_of built_in_flags Holds
started-none = (refl, refl, refl)

-- the flags of each class, by computing
started-flags : (b : BuiltIn) → Holds started (HasFlags (place_of b) (flags_of b))
unfolding all_built_ins place_of flags_of built_in_flags Holds
started-flags built_in.Object = refl
started-flags built_in.TypeType = refl
started-flags built_in.NoneType = refl
started-flags built_in.NotImplementedType = refl
started-flags built_in.Int = refl
started-flags built_in.Bool = refl
started-flags built_in.Str = refl
started-flags built_in.Tuple = refl
started-flags built_in.List = refl
started-flags built_in.Dict = refl
started-flags built_in.Function = refl
started-flags built_in.Method = refl
started-flags built_in.BuiltinFunctionOrMethod = refl
started-flags built_in.BuiltinMethod = refl
started-flags built_in.MethodDescriptor = refl
started-flags built_in.GetSetDescriptor = refl
started-flags built_in.MemberDescriptor = refl
started-flags built_in.Property = refl
started-flags built_in.ClassMethod = refl
started-flags built_in.StaticMethod = refl
started-flags built_in.Super = refl
started-flags built_in.Iterator = refl
started-flags built_in.Slice = refl

-- none of them is a script's class
no-script : (b : BuiltIn) → is_marked_heap (flags_of b) ≡ false
unfolding place_of flags_of built_in_flags
no-script built_in.Object = refl
no-script built_in.TypeType = refl
no-script built_in.NoneType = refl
no-script built_in.NotImplementedType = refl
no-script built_in.Int = refl
no-script built_in.Bool = refl
no-script built_in.Str = refl
no-script built_in.Tuple = refl
no-script built_in.List = refl
no-script built_in.Dict = refl
no-script built_in.Function = refl
no-script built_in.Method = refl
no-script built_in.BuiltinFunctionOrMethod = refl
no-script built_in.BuiltinMethod = refl
no-script built_in.MethodDescriptor = refl
no-script built_in.GetSetDescriptor = refl
no-script built_in.MemberDescriptor = refl
no-script built_in.Property = refl
no-script built_in.ClassMethod = refl
no-script built_in.StaticMethod = refl
no-script built_in.Super = refl
no-script built_in.Iterator = refl
no-script built_in.Slice = refl

starts-unmarked : (bs : List BuiltIn) (c n : ℕ) → flags_at (map built bs) c ≡ Some n → is_marked_heap n ≡ false
starts-unmarked [] c n e = cc
starts-unmarked (b ∷ bs) c n e = go (eqb (place_of b) c) e (starts-unmarked bs c n)
  where
    go : (v : Bool) → option_map (λ k. k.flags) (cond v (Some (built b)) (class_at (map built bs) c)) ≡ Some n → (flags_at (map built bs) c ≡ Some n → is_marked_heap n ≡ false) → is_marked_heap n ≡ false
    go true e h = let same : flags_of b ≡ n = cc in subst (λ m. is_marked_heap m ≡ false) same (no-script b)
    go false e h = h e

started-plain_2 : has_dict started.classes 2 ≡ false
unfolding all_built_ins place_of flags_of built_in_flags
started-plain_2 = refl

started-plain_3 : has_dict started.classes 3 ≡ false
unfolding all_built_ins place_of flags_of built_in_flags
started-plain_3 = refl

started-plain_5 : has_dict started.classes 5 ≡ false
unfolding all_built_ins place_of flags_of built_in_flags
started-plain_5 = refl

-- the node of each class, by computing
started-stands : (b : BuiltIn) → Holds started (Standing (place_of b) (record { 0 = place_of b }))
unfolding all_built_ins place_of Holds
started-stands built_in.Object = refl
started-stands built_in.TypeType = refl
started-stands built_in.NoneType = refl
started-stands built_in.NotImplementedType = refl
started-stands built_in.Int = refl
started-stands built_in.Bool = refl
started-stands built_in.Str = refl
started-stands built_in.Tuple = refl
started-stands built_in.List = refl
started-stands built_in.Dict = refl
started-stands built_in.Function = refl
started-stands built_in.Method = refl
started-stands built_in.BuiltinFunctionOrMethod = refl
started-stands built_in.BuiltinMethod = refl
started-stands built_in.MethodDescriptor = refl
started-stands built_in.GetSetDescriptor = refl
started-stands built_in.MemberDescriptor = refl
started-stands built_in.Property = refl
started-stands built_in.ClassMethod = refl
started-stands built_in.StaticMethod = refl
started-stands built_in.Super = refl
started-stands built_in.Iterator = refl
started-stands built_in.Slice = refl

-- whether each class has its place, counted from a number
abbrev places_from : ℕ → List BuiltIn → Bool
places_from n [] = true
places_from n (b ∷ bs) = eqb (place_of b) n && places_from (suc n) bs

-- each number below is that of a class, and only those are
there-from : (n : ℕ) (bs : List BuiltIn) → places_from n bs ≡ true → (c : ℕ) → n ≤ c → c < n + length bs → is_class (map built bs) c ≡ true
there-from n [] h c l m = absurd (omega arith)
there-from n (b ∷ bs) h c l m = go (eqb (place_of b) c) refl (there-from (suc n) bs (split (eqb (place_of b) n) (places_from (suc n) bs) h).1 c)
  where
    go : (v : Bool) → eqb (place_of b) c ≡ v → (suc n ≤ c → c < suc n + length bs → is_class (map built bs) c ≡ true) → is_some (cond v (Some (built b)) (class_at (map built bs) c)) ≡ true
    go true e more = refl
    go false e more =
        let both = split (eqb (place_of b) n) (places_from (suc n) bs) h in
        let here = eqb-true (place_of b) n both.0 in
        let away = eqb-false (place_of b) c e in
        more (omega (arith, here, away, l)) (omega arith)

places-stand : (n : ℕ) (bs : List BuiltIn) → places_from n bs ≡ true → (c : ℕ) → is_class (map built bs) c ≡ true → Holds started (Standing c (record { 0 = c }))
places-stand n [] h c e = cc
places-stand n (b ∷ bs) h c e = go (eqb (place_of b) c) refl e (places-stand (suc n) bs (split (eqb (place_of b) n) (places_from (suc n) bs) h).1 c)
  where
    go : (v : Bool) → eqb (place_of b) c ≡ v → is_some (cond v (Some (built b)) (class_at (map built bs) c)) ≡ true → (is_class (map built bs) c ≡ true → Holds started (Standing c (record { 0 = c }))) → Holds started (Standing c (record { 0 = c }))
    go true i e more = subst (λ m. Holds started (Standing m (record { 0 = m }))) (eqb-true (place_of b) c i) (started-stands b)
    go false i e more = more e

-- each node that is a class has the class's number
fixed-none : (n c : ℕ) → held_class fixed_nodes (record { 0 = n }) ≡ Some c → ⊥
fixed-none zero c e = cc
fixed-none (suc zero) c e = cc
fixed-none (suc (suc zero)) c e = cc
fixed-none (suc (suc (suc zero))) c e = cc
fixed-none (suc (suc (suc (suc n)))) c e = cc

classes-itself : (k : ℕ) (bs : List BuiltIn) → places_from k bs ≡ true → (n c : ℕ) → held_class (map class_node bs ++ fixed_nodes) (record { 0 = n }) ≡ Some c → k + n ≡ c
classes-itself k [] h n c e = absurd (fixed-none n c e)
classes-itself k (b ∷ bs) h zero c e =
    let same : place_of b ≡ c = cc in
    let here = eqb-true (place_of b) k (split (eqb (place_of b) k) (places_from (suc k) bs) h).0 in
    omega arith
classes-itself k (b ∷ bs) h (suc n) c e = let rest = classes-itself (suc k) bs (split (eqb (place_of b) k) (places_from (suc k) bs) h).1 n c e in omega arith

started-there : (c : ℕ) → c < 23 → is_class started.classes c ≡ true
unfolding all_built_ins place_of
started-there c l = there-from 0 all_built_ins refl c (omega arith) (omega arith)

-- but for its log, which is that of the classes with their own attributes
pub started-sound : SoundWith (Unit {0}) started
unfolding all_built_ins place_of Holds IsDistinct
started-sound = record {
  forms = tt;
  below = λ n x e. cc;
  nodes = each-append started of_node (map class_node all_built_ins) fixed_nodes (nodes-hold started 23 all_built_ins refl started-there (omega arith) (started-own built_in.TypeType) (started-bare built_in.TypeType)) (fixed-hold started started-there (started-own built_in.NoneType) (started-own built_in.NotImplementedType) (started-own built_in.Bool) started-plain_2 started-plain_3 started-plain_5 (started-bare built_in.NoneType) (started-bare built_in.NotImplementedType) (started-bare built_in.Bool));
  classes = classes-hold started 23 all_built_ins refl (started-there the_dict (omega arith)) (omega arith);
  vars = tt;
  scopes = tt;
  fixed = omega arith;
  built_in = started-there;
  own = started-own;
  flags = started-flags;
  of_none = started-none;
  unmarked = starts-unmarked all_built_ins;
  apart = tt;
  scopes_apart = λ i d l. absurd (omega arith);
  standing = λ c e. places-stand 0 all_built_ins refl c e;
  itself = λ n c e. let p = classes-itself 0 all_built_ins refl n c e in omega arith;
  known = λ n x e. e;
  logged = tt;
}

module _ (t : Reading) where
  bare-read : (ks : List (Class PyStrInterned)) (c : PyTypeRef) (p : Payload) → node_of t ks (plain_node c p) ≡ record { class = c.0; dict = None; members = no_members; datum = datum t p }
  bare-read ks c p = let none = none-read ks c.0 [] (λ n. refl) in λ i. record { class = c.0; dict = None; members = none i; datum = datum t p }

  nodes-read : (ks : List (Class PyStrInterned)) (bs : List BuiltIn) → map (node_of t ks) (map class_node bs ++ fixed_nodes) ≡ map plain_class_node bs ++ plain_fixed_nodes
  nodes-read ks [] =
      let none = bare-read ks (record { 0 = the_none_type }) Object in
      let not_implemented = bare-read ks (record { 0 = the_not_implemented_type }) Object in
      let falsehood = bare-read ks (record { 0 = the_bool }) (Number (pos 0)) in
      let truth = bare-read ks (record { 0 = the_bool }) (Number (pos 1)) in
      λ i. none i ∷ not_implemented i ∷ falsehood i ∷ truth i ∷ []
  nodes-read ks (b ∷ bs) =
      let here = bare-read ks type_ref (ClassPayload (record { 0 = place_of b })) in
      let rest = nodes-read ks bs in
      λ i. here i ∷ rest i

  classes-read : (bs : List BuiltIn) → renamed (spelled t) (map built bs) ≡ map built_class bs
  classes-read [] = refl
  classes-read (b ∷ bs) = ap (λ ks. built_class b ∷ ks) (classes-read bs)

  pub started-plain : plain t started ≡ bare
  unfolding plain
  started-plain = let n = nodes-read started.classes all_built_ins in let k = classes-read all_built_ins in cc

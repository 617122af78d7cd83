-- The class form: names with their values, and the new objects of a class.
use Rattle.proto_call.proofs.Below.{ℕ, zero, suc, List, [], length, take, drop, map, Some, None, Ok, Err, arith, refl, sym, ap, ◌∙◌, subst, slice_get, Result, IfOk, IfSome, nat_le, length-map, Text, OutOfMemory, Step, Ask, Task, PyObjectRef, PyStrInterned, PlainWorld, Bindings, AText, ATuple, DoCall, ToCall, Said, Asks, filled, TooLong, Row, start, end, fault, most_items, with_node, next_node, Held, Reading, Reads, bindings, spelled, plain, task_of, World, Grows, Holds, AllHold, IsName, IsNode, AreNodes, of_each, of_binding, of_option, of_node_ref, each-get, no-nodes, more-nodes, node-in, map-push, Pairs, keyed, metaclass, given_metaclass, other_keywords, on_keywords, unrepeated, with_dict, call_with, class_by, class_say, class_within, the_str, the_tuple, EvalKept, Pass, Goes, ArePairs, Steps, Point, eval_group, eval_stands, asks-follow}
use Rattle.std.proofs.Common.{◌≡◌, ◌∷◌, ◌++◌}
use Rattle.std.specs.Prelude.{Option, true, cond}

pub drop-all : {A : Type 0} (xs : List A) → drop (length xs) xs ≡ []
drop-all [] = refl
drop-all (x ∷ xs) = drop-all xs

-- what is said of the entry at a place
pub entry-holds : (w : Held) (es : List (PyStrInterned × PyObjectRef)) (i : ℕ) (e : PyStrInterned × PyObjectRef) → AllHold w (of_each of_binding es) → slice_get es i ≡ Some e → Holds w (IsName e.0) × Holds w (IsNode e.1)
entry-holds w es i e h k = let b = each-get w of_binding es i e k h in (b.0, b.1.0)

pub drop-got : {A : Type 0} (xs : List A) (i : ℕ) (x : A) → slice_get xs i ≡ Some x → drop i xs ≡ x ∷ drop (suc i) xs
drop-got [] i x e = cc
drop-got (y ∷ xs) zero x e = let same : y ≡ x = cc in ap (λ z. z ∷ xs) same
drop-got (y ∷ xs) (suc i) x e = drop-got xs i x e

-- one text more
pub keyed-next : (t : Reading) (u new : PlainWorld) (ps : Pairs) (es : List (PyStrInterned × PyObjectRef)) (i : ℕ) (e : PyStrInterned × PyObjectRef) (key : PyObjectRef) → drop i es ≡ e ∷ drop (suc i) es → new ≡ with_node u the_str (AText (t.text e.0.0)) → key ≡ next_node u the_str → keyed u ps (bindings t (drop i es)) ≡ keyed new (ps ++ (key, e.1) ∷ []) (bindings t (drop (suc i) es))
keyed-next t u new ps es i e key d w k =
    ap (λ es. keyed u ps (bindings t es)) d
    ∙ ap (λ n. keyed n (ps ++ (next_node u the_str, e.1) ∷ []) (bindings t (drop (suc i) es))) (sym w)
    ∙ ap (λ r. keyed new (ps ++ (r, e.1) ∷ []) (bindings t (drop (suc i) es))) (sym k)

pub pairs-grow : (old new : Held) (ps : Pairs) → Grows old new → ArePairs old ps → ArePairs new ps
pairs-grow old new ps g h = (g.still _ h.0, g.still _ h.1)

pub pairs-push : (w : Held) (ps : Pairs) (key value : PyObjectRef) → ArePairs w ps → Holds w (IsNode key) → Holds w (IsNode value) → ArePairs w (ps ++ (key, value) ∷ [])
pairs-push w ps key value h k v = (
  subst (λ rs. Holds w (AreNodes rs)) (sym (map-push (λ p. p.0) ps (key, value))) (more-nodes w (map (λ p. p.0) ps) key h.0 k),
  subst (λ rs. Holds w (AreNodes rs)) (sym (map-push (λ p. p.1) ps (key, value))) (more-nodes w (map (λ p. p.1) ps) value h.1 v),
)

-- the metaclass that is called, and the new objects and the keywords that it is called with
pub class-made : (u0 u1 u2 u3 : PlainWorld) (x : Text) (bs : List PyObjectRef) (kw es : Bindings) (meta name bases dict : PyObjectRef) → metaclass u0 (given_metaclass kw) (slice_get bs 0) ≡ meta → u1 ≡ with_node u0 the_str (AText x) → name ≡ next_node u0 the_str → u2 ≡ with_node u1 the_tuple (ATuple bs) → bases ≡ next_node u1 the_tuple → with_dict (keyed u2 [] es) ≡ (u3, dict) → class_by u0 x bs kw es ≡ Asks u3 [] (ToCall (DoCall meta (name ∷ bases ∷ dict ∷ []) (other_keywords kw)))
class-made u0 u1 u2 u3 x bs kw es meta name bases dict m e1 n1 e2 n2 k =
    let first = metaclass u0 (given_metaclass kw) (slice_get bs 0) in
    let others = other_keywords kw in
    ap (λ v. call_with first (next_node u0 the_str) (next_node v the_tuple) others (with_dict (keyed (with_node v the_tuple (ATuple bs)) [] es))) (sym e1)
    ∙ ap (λ v. call_with first (next_node u0 the_str) (next_node u1 the_tuple) others (with_dict (keyed v [] es))) (sym e2)
    ∙ ap (call_with first (next_node u0 the_str) (next_node u1 the_tuple) others) k
    ∙ ap (λ c. call_with c (next_node u0 the_str) (next_node u1 the_tuple) others (u3, dict)) m
    ∙ ap (λ r. call_with meta r (next_node u1 the_tuple) others (u3, dict)) (sym n1)
    ∙ ap (λ r. call_with meta name r others (u3, dict)) (sym n2)

-- where neither the bases nor the entries are too many, nothing else is asked
pub within-is : (u : PlainWorld) (x : Text) (bs : List PyObjectRef) (kw es : Bindings) → nat_le (length bs) most_items ≡ true → nat_le (length es) most_items ≡ true → start (class_by u x bs kw es) (end u) ≡ class_within u x bs kw es
within-is u x bs kw es b e =
    let row : Row = start (class_by u x bs kw es) (end u) in
    let late : Row = end u (fault TooLong) in
    ap (λ v. cond v row late) (sym e) ∙ ap (λ v. cond v (cond (nat_le (length es) most_items) row late) late) (sym b)

-- what a class says once its keywords and its entries have their values
pub class-said : (t : Reading) (u : PlainWorld) (x : Text) (n : ℕ) (keys names : List PyStrInterned) (vs bs given rest : List PyObjectRef) (kw entries : Bindings) → bs ≡ take n vs → given ≡ take (length keys) (drop n vs) → rest ≡ drop (length keys) (drop n vs)
    → unrepeated [] (map (spelled t) keys) given ≡ Some kw → entries ≡ filled [] (map (spelled t) names) rest → class_within u x bs kw entries ≡ class_say u x n (map (spelled t) keys) (map (spelled t) names) vs
class-said t u x n keys names vs bs given rest kw entries b g r k e =
    let ks = map (spelled t) keys in
    let ns = map (spelled t) names in
    let long : length ks ≡ length keys = length-map keys (spelled t) in
    let all : entries ≡ filled [] ns (drop (length ks) (drop n vs)) = e ∙ ap (filled [] ns) (r ∙ ap (λ m. drop m (drop n vs)) (sym long)) in
    let once : unrepeated [] ks (take (length ks) (drop n vs)) ≡ Some kw = ap (unrepeated [] ks) (ap (λ m. take m (drop n vs)) long ∙ sym g) ∙ k in
    ap (λ bs. class_within u x bs kw entries) b
    ∙ ap (λ es. class_within u x (take n vs) kw es) all
    ∙ ap (λ o. on_keywords u o (λ kw. class_within u x (take n vs) kw (filled [] ns (drop (length ks) (drop n vs))))) (sym once)

pub given-holds : (w : Held) (o : Option PyObjectRef) → IfSome o (λ r. Holds w (IsNode r)) → AllHold w (of_option of_node_ref o)
given-holds w None h = tt
given-holds w (Some r) h = (h, tt)

-- parts of lists of nodes
module _ (w : Held) where
  pub cons-nodes : (r : PyObjectRef) (rs : List PyObjectRef) → Holds w (IsNode r) → Holds w (AreNodes rs) → Holds w (AreNodes (r ∷ rs))
  unfolding Holds
  cons-nodes r rs h k zero d l = h
  cons-nodes r rs h k (suc i) d l = k i d (omega arith)

  tail-nodes : (r : PyObjectRef) (rs : List PyObjectRef) → Holds w (AreNodes (r ∷ rs)) → Holds w (AreNodes rs)
  unfolding Holds
  tail-nodes r rs h i d l = h (suc i) d (omega arith)

  pub take-nodes : (n : ℕ) (rs : List PyObjectRef) → Holds w (AreNodes rs) → Holds w (AreNodes (take n rs))
  take-nodes zero rs h = no-nodes w
  take-nodes (suc n) [] h = no-nodes w
  take-nodes (suc n) (r ∷ rs) h = cons-nodes r (take n rs) (node-in w (r ∷ rs) 0 r h refl) (take-nodes n rs (tail-nodes r rs h))

  pub drop-nodes : (n : ℕ) (rs : List PyObjectRef) → Holds w (AreNodes rs) → Holds w (AreNodes (drop n rs))
  drop-nodes zero rs h = h
  drop-nodes (suc n) [] h = h
  drop-nodes (suc n) (r ∷ rs) h = drop-nodes n rs (tail-nodes r rs h)

  pub first-holds : (rs : List PyObjectRef) → Holds w (AreNodes rs) → AllHold w (of_option of_node_ref (slice_get rs 0))
  first-holds [] h = tt
  first-holds (r ∷ rs) h = (node-in w (r ∷ rs) 0 r h refl, tt)

-- a step that a row takes, by another name of the row
pub takes-same : (a b : Reading → PlainWorld → Row) (old new : World) (r : Result (Step EvalKept) OutOfMemory) → ((t : Reading) → a t ≡ b t) → IfOk r (λ step. Goes a old new step) → IfOk r (λ step. Goes b old new step)
takes-same a b old new (Ok step) e h = λ t r. let here = h t r in (here.0, subst (λ (row : Point). Steps (eval_stands t) t row (row (plain t old) []) step new) (e t) here.1)
takes-same a b old new (Err x) e h = tt

-- what is asked at once, and passed on
pub asks-takes : (old new : World) (said : Reading → PlainWorld → Said) (asked : Task) → ((t : Reading) → Reads t new → Reads t old × (said t (plain t old) ≡ Asks (plain t new) [] (task_of t asked))) → Goes (λ t u. start (said t u) (end u)) old new (Ask asked Pass)
asks-takes old new said asked h = asks-follow eval_group (λ t u. start (said t u) (end u)) said old new [] asked Pass h (λ t u s more. refl)

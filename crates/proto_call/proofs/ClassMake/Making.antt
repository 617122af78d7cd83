-- The steps of the making of a class.
use Rattle.proto_call.proofs.Below.{ℕ, zero, suc, Bool, true, false, cond, List, [], length, take, get_or, Option, Some, None, Ok, Err, refl, sym, ap, ◌∙◌, subst, arith, map, filter, not, option_map, slice_get, option_or, OutOfMemory, Cause, PyObjectRef, PyStrInterned, PyTypeRef, Step, is_same_name, value_of, Text, known_text, Class, refused_layout, refused_order, PlainWorld, Bindings, DoMakeClass, Said, Ends, fault, noting, heap_class, slot_members, ref, is_text, text_keys, with_new_class, Held, World, Reading, Reads, bindings, plain, Steps, qualified, refused_name, refused_heap, IsNode, AreNodes, Holds, AllHold, Grows, of_binding, of_each, Leaves, no-nodes, grows-on, ClassKept, Space, attrs_in, class_job_say, by_slots, made_unless, new_class, refusal, tell, values_of, whole_class, with_functions, with_own_members, Bound, Makes, class_stands, of_class_kept}
use Rattle.std.proofs.Common.{◌≡◌, ◌<◌, ◌∷◌, ◌++◌, Result, IfOk}
use Rattle.py_node.specs.declared.known.Known.TheVariants as known
use Rattle.plain_machine.specs.Plain.{Made}
use Rattle.proto_call.specs.ClassMake.Say.{made}

-- functions are defined by a class, one after another
pub record Defining (old now : World) (class : PyTypeRef) (rest all : List PyObjectRef) : Type 0 where
  pub set : (t : Reading) → with_functions class.0 (plain t now) rest ≡ with_functions class.0 (plain t old) all
  pub reads : (t : Reading) → Reads t now → Reads t old
  pub grows : Grows old now

-- what was read, or came about, before a step of the making
module _ (kw : Bound) (said other : Reading → PlainWorld → Said) (old mid new : World) where
  pub makes-from : (step : Step ClassKept) → ((t : Reading) → Reads t mid → Reads t old × (other t (plain t mid) ≡ said t (plain t old))) → Makes kw other mid new step → Makes kw said old new step
  makes-from step e h = λ meta args t r.
      let k = h meta args t r in
      let f = e t k.0 in
      (f.0, subst (λ s. Steps (class_stands t) t (λ u. class_job_say u (DoMakeClass meta args (bindings t kw))) s step new) f.1 k.1)

  pub goes-from : (r : Result (Step ClassKept) OutOfMemory) → ((t : Reading) → Reads t mid → Reads t old × (other t (plain t mid) ≡ said t (plain t old))) → IfOk r (λ step. Makes kw other mid new step) → IfOk r (λ step. Makes kw said old new step)
  goes-from (Ok step) e h = makes-from step e h
  goes-from (Err x) e h = tt

pub leaves-from : (old mid new : Held) (r : Result (Step ClassKept) OutOfMemory) → Grows old mid → Leaves of_class_kept mid new r → Leaves of_class_kept old new r
leaves-from old mid new r g h = (grows-on old mid new g h.0, h.1)

-- keywords without one
pub without-read : (t : Reading) (kw : Bound) (x : PyStrInterned) (text : Text) → t.text x.0 ≡ text → bindings t (filter (λ k. not (is_same_name k.0 x)) kw) ≡ filter (λ k. not (is_text k.0 text)) (bindings t kw)
without-read t [] x text e = refl
without-read t (k ∷ kw) x text e =
    let h = without-read t kw x text e in
    let f : is_text (t.text k.0.0) text ≡ is_same_name k.0 x = ap (is_text (t.text k.0.0)) (sym e) ∙ t.same k.0.0 x.0 in
    split (is_same_name k.0 x) (is_text (t.text k.0.0) text) (sym f) h
  where
    split : (a b : Bool) → a ≡ b → bindings t (filter (λ k. not (is_same_name k.0 x)) kw) ≡ filter (λ k. not (is_text k.0 text)) (bindings t kw) → bindings t (cond (not a) (k ∷ filter (λ k. not (is_same_name k.0 x)) kw) (filter (λ k. not (is_same_name k.0 x)) kw)) ≡ cond (not b) ((t.text k.0.0, k.1) ∷ filter (λ k. not (is_text k.0 text)) (bindings t kw)) (filter (λ k. not (is_text k.0 text)) (bindings t kw))
    split true true e h = h
    split false false e h = ap (λ ks. (t.text k.0.0, k.1) ∷ ks) h
    split true false e h = cc
    split false true e h = cc

pub filter-holds : (w : Held) (bs : Bound) (x : PyStrInterned) → AllHold w (of_each of_binding bs) → AllHold w (of_each of_binding (filter (λ k. not (is_same_name k.0 x)) bs))
filter-holds w [] x h = tt
filter-holds w (b ∷ bs) x h = go (is_same_name b.0 x) (filter-holds w bs x h.1.1)
  where
    go : (q : Bool) → AllHold w (of_each of_binding (filter (λ k. not (is_same_name k.0 x)) bs)) → AllHold w (of_each of_binding (cond (not q) (b ∷ filter (λ k. not (is_same_name k.0 x)) bs) (filter (λ k. not (is_same_name k.0 x)) bs)))
    go true k = k
    go false k = (h.0, (h.1.0, k))

-- lists of nodes
pub node-at : (w : Held) (rs : List PyObjectRef) (i : ℕ) (d : PyObjectRef) → i < length rs → Holds w (AreNodes rs) → Holds w (IsNode (get_or rs i d))
unfolding Holds
node-at w rs i d l h = h i d l

pub first-node : (w : Held) (r : PyObjectRef) (rs : List PyObjectRef) → Holds w (IsNode r) → Holds w (AreNodes rs) → Holds w (AreNodes (r ∷ rs))
unfolding Holds
first-node w r rs h k = λ i d l. go i d l
  where
    go : (i : ℕ) (d : PyObjectRef) → i < length (r ∷ rs) → (get_or (r ∷ rs) i d).0 < length w.nodes
    go zero d l = h
    go (suc i) d l = k i d (omega arith)

pub values-hold : (w : Held) (bs : Bound) → AllHold w (of_each of_binding bs) → Holds w (AreNodes (map (λ a. a.1) bs))
values-hold w [] h = no-nodes w
values-hold w (b ∷ bs) h = first-node w b.1 (map (λ a. a.1) bs) h.1.0 (values-hold w bs h.1.1)

pub values-are : (w : Held) (bs : Bound) (rs : List PyObjectRef) → AllHold w (of_each of_binding bs) → rs ≡ map (λ a. a.1) bs → Holds w (AreNodes rs)
values-are w bs rs h e = subst (λ rs. Holds w (AreNodes rs)) (sym e) (values-hold w bs h)

pub values-read : (t : Reading) (bs : Bound) → values_of (bindings t bs) ≡ values_of bs
values-read t [] = refl
values-read t (b ∷ bs) = ap (λ rs. b.1 ∷ rs) (values-read t bs)

pub map-got : {A B : Type 0} (f : A → B) (xs : List A) (i : ℕ) (x : A) → slice_get xs i ≡ Some x → map f (take (suc i) xs) ≡ map f (take i xs) ++ f x ∷ []
map-got f [] i x e = cc
map-got f (y ∷ xs) zero x e = let same : y ≡ x = cc in ap (λ z. f z ∷ []) same
map-got f (y ∷ xs) (suc i) x e = ap (λ zs. f y ∷ zs) (map-got f xs i x e)

pub take-got : {A : Type 0} (xs : List A) (i : ℕ) (x : A) → slice_get xs i ≡ Some x → take (suc i) xs ≡ take i xs ++ x ∷ []
take-got [] i x e = cc
take-got (y ∷ xs) zero x e = let same : y ≡ x = cc in ap (λ z. z ∷ []) same
take-got (y ∷ xs) (suc i) x e = ap (λ zs. y ∷ zs) (take-got xs i x e)

-- a class's own attributes
pub attrs-read : (o : Option (Class Text)) (bs : Bindings) → option_map (λ k. k.attrs) o ≡ Some bs → attrs_in o ≡ bs
attrs-read None bs e = cc
attrs-read (Some k) bs e = cc

-- bases that are allowed together are refused for their order alone
pub refused-next : (u : PlainWorld) (bases : List ℕ) (bs : Bindings) (o : Option Cause) → refused_layout u.classes bases ≡ None → o ≡ refused_heap u bases bs → refusal u bases bs ≡ o
refused-next u bases bs o e f =
    sym (ap (λ l. option_or (option_or l (refused_order u.classes bases)) (refused_name u (qualified bs))) e) ∙ sym f

-- what `__slots__` is of a class to be
pub made-slots : (meta : ℕ) (name : Text) (bases : List ℕ) (kw : Bindings) (s : Space) (o : Option PyObjectRef) → value_of (λ y. is_text y (known_text known.Slots)) s.1 ≡ o → by_slots o meta name bases kw s ≡ made meta name bases kw s
unfolding made
made-slots meta name bases kw s o e = ap (λ o. by_slots o meta name bases kw s) (sym e)

pub made-refused : (u : PlainWorld) (cause : Cause) (why : Option Cause) (meta : ℕ) (name : Text) (bases : List ℕ) (slots : Option (List Text)) (kw bs : Bindings) → why ≡ Some cause → Ends u (fault cause) ≡ made_unless why meta name bases slots kw (u, bs)
unfolding made_unless
made-refused u cause why meta name bases slots kw bs e = ap (λ o. made_unless o meta name bases slots kw (u, bs)) (sym e)

-- a class that is made and told of
pub made-new : (u v f w : PlainWorld) (why : Option Cause) (meta : ℕ) (name : Text) (bases : List ℕ) (slots : Option (List Text)) (kw bs : Bindings) (c : ℕ) (vs : List PyObjectRef) → why ≡ None → v ≡ with_new_class u meta (heap_class text_keys u.classes name (length u.nodes) bases bs slots) → f ≡ with_functions c v vs → w ≡ with_own_members c (slot_members text_keys slots) f → vs ≡ values_of bs → c ≡ length u.nodes → noting (Made (ref c)) (tell w (ref c) kw []) ≡ made_unless why meta name bases slots kw (u, bs)
unfolding made_unless whole_class
made-new u v f w why meta name bases slots kw bs c vs none made functions members ev ec =
    let new : v ≡ new_class u meta name bases bs slots = made in
    let defines : f ≡ with_functions (length u.nodes) (new_class u meta name bases bs slots) (values_of bs) = functions ∙ (λ i. with_functions (ec i) (new i) (ev i)) in
    let all : w ≡ whole_class u meta name bases bs slots = members ∙ (λ i. with_own_members (ec i) (slot_members text_keys slots) (defines i)) in
    (λ i. noting (Made (ref (ec i))) (tell (all i) (ref (ec i)) kw [])) ∙ ap (λ o. made_unless o meta name bases slots kw (u, bs)) (sym none)

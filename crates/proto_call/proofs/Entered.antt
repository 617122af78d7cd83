-- The steps of the row of a body are what the row says.
use Rattle.proto_call.proofs.Below.{ℕ, zero, suc, true, false, cond, List, [], length, get_or, map, Option, Some, None, refl, sym, ap, ◌∙◌, subst, arith, rules, tests, Vec, PyObjectRef, PyStrInterned, Function, ArgCount, TooLong, Step, value_of, with_value, is_same_name, Text, ATuple, PlainWorld, DoBody, Said, Ends, datum_at, is_text, with_node, next_node, fault, World, Held, Reading, Reads, spelled, bindings, plain, Steps, IsNode, Holds, AllHold, of_option, of_node_ref, value-read, CallKept, call_job_say, is_empty, but_last, last_of, left_over, rest_fits, single, with_keywords, all_filled, when_filled, by_keywords, by_place, body_by, value_text, shown, the_tuple, filled, call_stands, Begins, Enters, RunsAs, datum_of, opened_of, by_keywords_of, by_place_of}
use Rattle.std.proofs.Common.{◌≡◌, ◌∷◌, IfSome}
use Rattle.std.specs.Prelude.{◌==◌}
use Rattle.py_node.specs.declared.task.CallTask.TheVariants as call

-- what is decided in a later world follows for the earlier one, where it is the same there
pub enters-by : (said other : Reading → PlainWorld → Said) (old mid new : World) (step : Step CallKept) → ((t : Reading) → Reads t mid → Reads t old) → ((t : Reading) → Reads t mid → said t (plain t mid) ≡ other t (plain t old)) → Enters said mid new step → Enters other old new step
enters-by said other old mid new step reads same h = λ f args kw t r.
    let k = h f args kw t r in
    (reads t k.0, subst (λ s. Steps (call_stands t) t (λ u. call_job_say u (DoBody f args (kw t))) s step new) (same t k.0) k.1)

-- every parameter has a value
pub filled-opens : (t : Reading) (u : PlainWorld) (g : Function) (f : PyObjectRef) (before vars kw : List (PyStrInterned × PyObjectRef)) (xs : List PyStrInterned) → map (spelled t) xs ≡ single g.rest (map (spelled t) g.params.items) → Some (bindings t vars) ≡ with_keywords (map (spelled t) xs) (bindings t before) (bindings t kw) → all_filled (bindings t vars) (map (spelled t) xs) ≡ true → opened_of g f vars t u ≡ by_keywords_of g f before kw t u
filled-opens t u g f before vars kw xs names more all =
    let x = spelled t g.name in
    let ps = map (spelled t) g.params.items in
    let keyed = when_filled u f x ps g.rest (t.tree g.body.0) in
    let here = ap (λ ys. with_keywords ys (bindings t before) (bindings t kw)) (sym names) ∙ sym more in
    let test = ap (all_filled (bindings t vars)) (sym names) ∙ all in
    sym (ap keyed here ∙ ap (λ b. cond b (opened_of g f vars t u) (Ends u (fault ArgCount))) test)

-- the last parameter takes the rest
pub rest-fills : (t : Reading) (u v : PlainWorld) (g : Function) (f : PyObjectRef) (args : List PyObjectRef) (vars kw : List (PyStrInterned × PyObjectRef)) → g.rest ≡ true → rest_fits (map (spelled t) g.params.items) args ≡ true → v ≡ with_node u the_tuple (ATuple (left_over (but_last (map (spelled t) g.params.items)) args)) → bindings t vars ≡ with_value is_text (filled [] (but_last (map (spelled t) g.params.items)) args) (last_of (map (spelled t) g.params.items)) (next_node u the_tuple) → by_keywords_of g f vars kw t v ≡ by_place_of g f args kw t u
rest-fills t u v g f args vars kw rest fits made filling =
    let x = spelled t g.name in
    let ps = map (spelled t) g.params.items in
    let whole = by_keywords (with_node u the_tuple (ATuple (left_over (but_last ps) args))) f x ps true (t.tree g.body.0) (with_value is_text (filled [] (but_last ps) args) (last_of ps) (next_node u the_tuple)) (bindings t kw) in
    let keyed : by_keywords_of g f vars kw t v ≡ whole = λ i. by_keywords (made i) f x ps (rest i) (t.tree g.body.0) (filling i) (bindings t kw) in
    keyed ∙ sym (ap (λ b. cond b whole (Ends u (fault TooLong))) fits) ∙ ap (λ b. by_place u f x ps b (t.tree g.body.0) args (bindings t kw)) (sym rest)

-- or there are too many
pub rest-refused : (t : Reading) (u : PlainWorld) (g : Function) (f : PyObjectRef) (args : List PyObjectRef) (kw : List (PyStrInterned × PyObjectRef)) → g.rest ≡ true → rest_fits (map (spelled t) g.params.items) args ≡ false → by_place_of g f args kw t u ≡ Ends u (fault TooLong)
rest-refused t u g f args kw rest fits =
    let x = spelled t g.name in
    let ps = map (spelled t) g.params.items in
    ap (λ b. by_place u f x ps b (t.tree g.body.0) args (bindings t kw)) rest
    ∙ ap (λ b. cond b (by_keywords (with_node u the_tuple (ATuple (left_over (but_last ps) args))) f x ps true (t.tree g.body.0) (with_value is_text (filled [] (but_last ps) args) (last_of ps) (next_node u the_tuple)) (bindings t kw)) (Ends u (fault TooLong))) fits

-- each parameter takes one argument, and none is left over
pub all-fill : (t : Reading) (u : PlainWorld) (g : Function) (f : PyObjectRef) (args : List PyObjectRef) (vars kw : List (PyStrInterned × PyObjectRef)) → g.rest ≡ false → is_empty (left_over (map (spelled t) g.params.items) args) ≡ true → bindings t vars ≡ filled [] (map (spelled t) g.params.items) args → by_keywords_of g f vars kw t u ≡ by_place_of g f args kw t u
all-fill t u g f args vars kw rest none filling =
    let x = spelled t g.name in
    let ps = map (spelled t) g.params.items in
    let keyed : by_keywords_of g f vars kw t u ≡ by_keywords u f x ps false (t.tree g.body.0) (filled [] ps args) (bindings t kw) = λ i. by_keywords u f x ps (rest i) (t.tree g.body.0) (filling i) (bindings t kw) in
    let test = ap (λ b. cond b (by_keywords u f x ps false (t.tree g.body.0) (filled [] ps args) (bindings t kw)) (Ends u (fault ArgCount))) none in
    keyed ∙ sym test ∙ ap (λ b. by_place u f x ps b (t.tree g.body.0) args (bindings t kw)) (sym rest)

pub empty-is : {A : Type 0} (xs : List A) → is_empty xs ≡ (length xs == 0)
empty-is [] = refl
empty-is (x ∷ xs) = search (tests, rules)

-- a body begins as that of the function that was read
pub body-begins : (old new : World) (f : PyObjectRef) (args : Vec PyObjectRef) (kw : Vec (PyStrInterned × PyObjectRef)) (o : Option Function) (step : Step CallKept) → ((t : Reading) → RunsAs (datum_at (plain t old) f) (datum_of t o)) → Enters (λ t u. body_by u (datum_of t o) f args.items (bindings t kw.items)) old new step → Begins (call.Body f args kw) old new step
unfolding call_job_say
body-begins old new f args kw o step runs h = λ t r.
    let k = h f args.items (λ t. bindings t kw.items) t r in
    (k.0, subst (λ s. Steps (call_stands t) t (λ u. call_job_say u (DoBody f args.items (bindings t kw.items))) s step new) (sym (runs t (plain t old) f args.items (bindings t kw.items))) k.1)

pub last-read : (f : PyStrInterned → Text) (xs : List PyStrInterned) (n : ℕ) (x : PyStrInterned) → suc n ≡ length xs → x ≡ get_or xs n x → f x ≡ last_of (map f xs)
last-read f [] n x l e = absurd (omega arith)
last-read f (y ∷ []) zero x l e = ap f e
last-read f (y ∷ []) (suc n) x l e = absurd (omega arith)
last-read f (y ∷ (z ∷ xs)) zero x l e = absurd (omega arith)
last-read f (y ∷ (z ∷ xs)) (suc n) x l e = last-read f (z ∷ xs) n x (omega arith) e

pub some-holds : (w : Held) (o : Option PyObjectRef) → IfSome o (λ r. Holds w (IsNode r)) → AllHold w (of_option of_node_ref o)
some-holds w None h = tt
some-holds w (Some r) h = (h, tt)

-- the text of a parameter's value, by its name
pub shown-read : (t : Reading) (u : PlainWorld) (vars : List (PyStrInterned × PyObjectRef)) (x : PyStrInterned) (o : Option PyObjectRef) → o ≡ value_of (λ k. is_same_name k x) vars → value_text u o ≡ shown u (bindings t vars) (spelled t x)
shown-read t u vars x o e = ap (value_text u) (e ∙ sym (value-read t vars x))

pub texts-read : (f : Text → Text) (g : PyStrInterned → Text) (xs : List PyStrInterned) → map (λ x. f (g x)) xs ≡ map f (map g xs)
texts-read f g [] = refl
texts-read f g (x ∷ xs) = ap (λ ys. f (g x) ∷ ys) (texts-read f g xs)

-- The parts that a class is made from, as they are read.
use Rattle.proto_call.proofs.Below.{ℕ, suc, take, true, false, cond, List, [], length, drop, get_or, Option, Some, None, Ok, Err, refl, sym, ap, ◌∙◌, subst, arith, not, eqb, is_some, IfSome, eqb-true, true≢false, OutOfMemory, PyObjectRef, PyTypeRef, New, TypeNative, Cause, NullInName, TypeArgs, MroEntries, known_text, Raised as Fault, Answer, Step, End, Text, natives_of, entry, numbers, refused_layout, PlainWorld, Bindings, Asks, Chose, DoGetAttr, DoMakeClass, DoType, Said, Ends, ToAttribute, ToCall, DoNew, class_number, type_object, value, fault, pass, datum_at, text_keys, Held, World, Reading, bindings, plain, EndsAs, Steps, IsNode, AreNodes, Holds, node-in, ClassKept, Entries, class_job_say, by_bases, by_classes, by_one, by_parts, by_winner, called_with, classes_of, dict_of, from_three, namespace, on_bases, on_layout, text_of, three_of, tuple_of, type_by, type_call, type_new, type_new_of, with_namespace, winner, has_null, Bound, Makes, Types, class_group, class_stands, ends-follow}
use Rattle.proto_call.specs.ClassMake.Rows.{Goes}
use Rattle.std.proofs.Common.{◌≡◌, ◌≤◌, ◌-◌, ◌∷◌, Result, IfOk}
use Rattle.std.specs.Prelude.{◌&&◌}
use Rattle.proto_call.specs.ClassMake.Say.{one_of}

-- the bases: allowed together, or not
pub bases-read : (u v : PlainWorld) (meta : ℕ) (name : Text) (bases : List ℕ) (es ds : Entries) (kw : Bindings) (o : Option Bindings) → v ≡ u → refused_layout u.classes bases ≡ None → namespace u ds ≡ o → ds ≡ es → with_namespace v meta name bases o kw ≡ on_bases u meta name bases es kw
bases-read u v meta name bases es ds kw o e f g h =
    let o-is : o ≡ namespace u es = sym g ∙ ap (namespace u) h in
    (λ i. with_namespace (e i) meta name bases (o-is i) kw) ∙ ap (λ r. on_layout u r meta name bases es kw) (sym f)

pub bases-refused : (u : PlainWorld) (meta : ℕ) (name : Text) (bases : List ℕ) (es : Entries) (kw : Bindings) (cause : Cause) → refused_layout u.classes bases ≡ Some cause → Ends u (fault cause) ≡ on_bases u meta name bases es kw
bases-refused u meta name bases es kw cause e = ap (λ r. on_layout u r meta name bases es kw) (sym e)

pub winner-goes : (u : PlainWorld) (meta : ℕ) (o : Option ℕ) (c : ℕ) (name : Text) (bases : List ℕ) (es : Entries) (args : List PyObjectRef) (kw : Bindings) → o ≡ Some c → not (eqb c meta) && is_some (entry text_keys natives_of u.classes c New) ≡ false → on_bases u c name bases es kw ≡ by_winner u meta o name bases es args kw
winner-goes u meta o c name bases es args kw e f =
    sym (ap (λ b. cond b (pass u (ToCall (DoNew c c args kw))) (on_bases u c name bases es kw)) f) ∙ ap (λ o. by_winner u meta o name bases es args kw) (sym e)

-- none, some one of which is no class, or classes
pub none-goes : (u : PlainWorld) (meta : ℕ) (name : Text) (bs : List PyObjectRef) (cs : List PyTypeRef) (c : PyTypeRef) (es : Entries) (args : List PyObjectRef) (kw : Bindings) → eqb (length bs) 0 ≡ true → cs ≡ c ∷ [] → c.0 ≡ 0 → on_bases u meta name (numbers cs) es kw ≡ by_bases u meta name bs es args kw
none-goes u meta name [] cs c es args kw l e f = ap (λ (cs : List PyTypeRef). on_bases u meta name (numbers cs) es kw) e ∙ ap (λ c. on_bases u meta name (c ∷ []) es kw) f
none-goes u meta name (b ∷ bs) cs c es args kw l e f = let no : length (b ∷ bs) ≡ 0 = eqb-true (length (b ∷ bs)) 0 l in absurd (omega (arith, no))

pub other-goes : (u : PlainWorld) (meta : ℕ) (name : Text) (bs : List PyObjectRef) (b : PyObjectRef) (es : Entries) (args : List PyObjectRef) (kw : Bindings) → eqb (length bs) 0 ≡ false → classes_of u bs ≡ Err b → Asks u (Chose 0 ∷ []) (ToAttribute (DoGetAttr b (known_text MroEntries))) ≡ by_bases u meta name bs es args kw
other-goes u meta name [] b es args kw l e = let no : true ≡ false = l in absurd (true≢false no)
other-goes u meta name (a ∷ bs) b es args kw l e = ap (λ r. by_classes u meta name (a ∷ bs) r es args kw) (sym e)

pub classes-go : (u : PlainWorld) (meta : ℕ) (name : Text) (bs : List PyObjectRef) (cs : List ℕ) (o : Option ℕ) (es : Entries) (args : List PyObjectRef) (kw : Bindings) → eqb (length bs) 0 ≡ false → classes_of u bs ≡ Ok cs → winner u meta bs ≡ o → by_winner u meta o name cs es args kw ≡ by_bases u meta name bs es args kw
classes-go u meta name [] cs o es args kw l e f = let no : true ≡ false = l in absurd (true≢false no)
classes-go u meta name (a ∷ bs) cs o es args kw l e f =
    ap (λ o. by_winner u meta o name cs es args kw) (sym f) ∙ ap (λ r. by_classes u meta name (a ∷ bs) r es args kw) (sym e)

pub parts-go : (u : PlainWorld) (meta : ℕ) (n : Option Text) (b : Option (List PyObjectRef)) (d : Option (Entries)) (name : Text) (bases : List PyObjectRef) (es : Entries) (args : List PyObjectRef) (kw : Bindings) → n ≡ Some name → b ≡ Some bases → d ≡ Some es → has_null name ≡ false → by_bases u meta name bases es args kw ≡ by_parts u meta n b d args kw
parts-go u meta n b d name bases es args kw e f g h =
    sym (ap (λ q. cond q (Ends u (fault NullInName)) (by_bases u meta name bases es args kw)) h) ∙ (λ i. by_parts u meta (sym e i) (sym f i) (sym g i) args kw)

pub three-go : (u : PlainWorld) (meta : ℕ) (o : Option (PyObjectRef × (PyObjectRef × PyObjectRef))) (n b d : PyObjectRef) (name : Option Text) (bases : Option (List PyObjectRef)) (es : Option (Entries)) (args : List PyObjectRef) (kw : Bindings) → o ≡ Some (n, (b, d)) → text_of (datum_at u n) ≡ name → tuple_of (datum_at u b) ≡ bases → dict_of (datum_at u d) ≡ es → by_parts u meta name bases es args kw ≡ from_three u meta o args kw
three-go u meta o n b d name bases es args kw e f g h =
    (λ i. by_parts u meta (sym f i) (sym g i) (sym h i) args kw) ∙ ap (λ o. from_three u meta o args kw) (sym e)

pub three-hold : (w : Held) (args : List PyObjectRef) → Holds w (AreNodes args) → IfSome (three_of args) (λ p. Holds w (IsNode p.0) × (Holds w (IsNode p.1.0) × Holds w (IsNode p.1.1)))
three-hold w [] h = tt
three-hold w (a ∷ []) h = tt
three-hold w (a ∷ (b ∷ [])) h = tt
three-hold w (a ∷ (b ∷ (d ∷ []))) h =
    let all = a ∷ (b ∷ (d ∷ [])) in (node-in w all 0 a h refl, (node-in w all 1 b h refl, node-in w all 2 d h refl))
three-hold w (a ∷ (b ∷ (d ∷ (e ∷ args)))) h = tt

pub one-holds : (w : Held) (args : List PyObjectRef) (kw : Bound) → Holds w (AreNodes args) → IfSome (one_of args kw) (λ r. Holds w (IsNode r))
one-holds w [] kw h = tt
one-holds w (a ∷ []) [] h = node-in w (a ∷ []) 0 a h refl
one-holds w (a ∷ []) (k ∷ kw) h = tt
one-holds w (a ∷ (b ∷ args)) kw h = tt

pub one-read : (t : Reading) (args : List PyObjectRef) (kw : Bound) → one_of args (bindings t kw) ≡ one_of args kw
one-read t [] kw = refl
one-read t (a ∷ []) [] = refl
one-read t (a ∷ []) (k ∷ kw) = refl
one-read t (a ∷ (b ∷ args)) kw = refl

pub class-of : (u : PlainWorld) (meta : ℕ) (o : Option PyObjectRef) (r : PyObjectRef) (x : PyObjectRef) (args : List PyObjectRef) (kw : Bindings) → o ≡ Some r → eqb meta 1 ≡ true → type_object u r ≡ x → Ends u (value x) ≡ by_one u meta o args kw
class-of u meta o r x args kw e f g =
    ap (λ y. Ends u (value y)) (sym g) ∙ sym (ap (λ b. cond b (Ends u (value (type_object u r))) (Ends u (fault TypeArgs))) f) ∙ ap (λ o. by_one u meta o args kw) (sym e)

pub no-type : (u : PlainWorld) (meta : ℕ) (o : Option PyObjectRef) (r : PyObjectRef) (args : List PyObjectRef) (kw : Bindings) → o ≡ Some r → eqb meta 1 ≡ false → Ends u (fault TypeArgs) ≡ by_one u meta o args kw
no-type u meta o r args kw e f =
    sym (ap (λ b. cond b (Ends u (value (type_object u r))) (Ends u (fault TypeArgs))) f) ∙ ap (λ o. by_one u meta o args kw) (sym e)

pub from-args : (u : PlainWorld) (meta : ℕ) (o : Option PyObjectRef) (p : Option (PyObjectRef × (PyObjectRef × PyObjectRef))) (args : List PyObjectRef) (kw : Bindings) → o ≡ None → p ≡ three_of args → from_three u meta p args kw ≡ by_one u meta o args kw
from-args u meta o p args kw e f =
    ap (λ p. from_three u meta p args kw) f ∙ ap (λ o. by_one u meta o args kw) (sym e)

-- the row begins
pub makes-begin : (meta : ℕ) (args : List PyObjectRef) (kw : Bound) (o : Option PyObjectRef) (old new : World) (r : Result (Step ClassKept) OutOfMemory) → o ≡ one_of args kw → IfOk r (λ step. Makes kw (λ t u. by_one u meta o args (bindings t kw)) old new step) → IfOk r (λ step. Goes (λ t u. class_job_say u (DoMakeClass meta args (bindings t kw))) old new step)
unfolding class_job_say
makes-begin meta args kw o old new (Err x) e h = tt
makes-begin meta args kw o old new (Ok step) e h = λ t q.
    let k = h meta args t q in
    (k.0, subst (λ o. Steps (class_stands t) t (λ u. class_job_say u (DoMakeClass meta args (bindings t kw))) (by_one (plain t old) meta o args (bindings t kw)) step new) (e ∙ sym (one-read t args kw)) k.1)

pub types-begin : (n m : TypeNative) (args : List PyObjectRef) (kw : Bound) (old new : World) (r : Result (Step ClassKept) OutOfMemory) → n ≡ m → IfOk r (λ step. Types (λ t u. type_by u m args (bindings t kw)) old new step) → IfOk r (λ step. Goes (λ t u. class_job_say u (DoType n args (bindings t kw))) old new step)
unfolding class_job_say
types-begin n m args kw old new (Err x) e h = tt
types-begin n m args kw old new (Ok step) e h =
    subst (λ n. Goes (λ t u. class_job_say u (DoType n args (bindings t kw))) old new step) (sym e) (λ t q. h m args kw t q)

-- the first argument, and the rest
pub rest-nodes : (w : Held) (rs : List PyObjectRef) → Holds w (AreNodes rs) → Holds w (AreNodes (drop 1 rs))
unfolding Holds
rest-nodes w [] h = h
rest-nodes w (r ∷ rs) h = λ i d l. h (suc i) d (omega arith)

take-all : {A : Type 0} (xs : List A) → take (length xs) xs ≡ xs
take-all [] = refl
take-all (x ∷ xs) = ap (λ ys. x ∷ ys) (take-all xs)

pub rest-is : (rs : List PyObjectRef) → take (length rs - 1) (drop 1 rs) ≡ drop 1 rs
rest-is [] = refl
rest-is (r ∷ rs) = let e : length (r ∷ rs) - 1 ≡ length rs = omega arith in ap (λ n. take n rs) e ∙ take-all rs

pub first-goes : (u : PlainWorld) (args rest : List PyObjectRef) (kw : Bindings) (d : PyObjectRef) (o : Option ℕ) → 1 ≤ length args → class_number (datum_at u (get_or args 0 d)) ≡ o → rest ≡ drop 1 args → type_new_of u o rest kw ≡ type_new u args kw
first-goes u [] rest kw d o l e f = absurd (omega arith)
first-goes u (c ∷ args) rest kw d o l e f = λ i. type_new_of u (sym e i) (f i) kw

pub types-from : (said other : Reading → PlainWorld → Said) (old new : World) (step : Step ClassKept) → ((t : Reading) → other t (plain t old) ≡ said t (plain t old)) → Types other old new step → Types said old new step
types-from said other old new step e h = λ n args kw t q.
    let k = h n args kw t q in
    (k.0, subst (λ s. Steps (class_stands t) t (λ u. class_job_say u (DoType n args (bindings t kw))) s step new) (e t) k.1)

-- a native of `type` that asks no task
pub ends-types : (F : Reading → PlainWorld → Said) (old new : World) (r : Result Answer Fault) → EndsAs F old new r → Types F old new (End r)
ends-types F old new r h = λ n args kw. ends-follow class_group (λ t u. class_job_say u (DoType n args (bindings t kw))) F old new r h

-- a call by name
pub call-goes : (u : PlainWorld) (args rest : List PyObjectRef) (kw : Bindings) (d : PyObjectRef) (o : Option ℕ) → 1 ≤ length args → class_number (datum_at u (get_or args 0 d)) ≡ o → rest ≡ drop 1 args → called_with u o rest kw ≡ type_call u args kw
call-goes u [] rest kw d o l e f = absurd (omega arith)
call-goes u (c ∷ args) rest kw d o l e f = λ i. called_with u (sym e i) (f i) kw

-- Items that are asked in turn.
use Rattle.native_containers.proofs.Below.{suc, [], length, get_or, drop, zip, Ok, refl, sym, ap, ◌∙◌, subst, arith, drop_all, drop-cons, CompareNative, CompareTask, Raised as Fault, PyObjectRef, Answer, Value, Step, Ask, End, PlainWorld, ToCompare, ReadObjects, Told, Asks, Ends, noting, truth, World, Reading, compare_job, ended_of, plain, ComparedKept, Objects, Pairs, asked, both_read, by_turns, in_turn, turns_of, Compares, TakesTurn, compared_stands, compared_group, asks-follow, ends-follow, goes-as, steps-noting, items_compared}
use Rattle.std.proofs.Common.{◌≡◌, ◌+◌, ◌<◌, ◌≤◌, ◌∷◌}
use Rattle.std.specs.Prelude.{Result}
use Rattle.py_node.specs.declared.task.Task.TheVariants as task
use Rattle.native_containers.specs.declared.native_compare.way.Turns.TheVariants as turns
use Rattle.native_containers.specs.NativeCompare.Containers.{answered}
use Rattle.row_kit.specs.Points as points
use Rattle.native_containers.specs.NativeCompare.Rows.{Resumes, left}

-- the items that are left are those at this place and those after it
pub left-here : (k later : ComparedKept) (x y : PyObjectRef) → k.next < length k.first.items → k.next < length k.second.items → later.first ≡ k.first → later.second ≡ k.second → later.next ≡ k.next + 1 → x ≡ get_or k.first.items k.next x → y ≡ get_or k.second.items k.next y → left k ≡ (x, y) ∷ left later
left-here k later x y a b first second next x-is y-is =
    let next-is : suc k.next ≡ later.next = omega arith in
    let rest = ap (λ n. zip (drop n k.first.items) (drop n k.second.items)) next-is
    ∙ ap (λ v. zip (drop later.next v.items) (drop later.next k.second.items)) (sym first)
    ∙ ap (λ v. zip (drop later.next later.first.items) (drop later.next v.items)) (sym second) in
    ap (λ xs. zip xs (drop k.next k.second.items)) (drop-cons k.first.items k.next x a)
    ∙ ap (λ ys. zip (get_or k.first.items k.next x ∷ drop (suc k.next) k.first.items) ys) (drop-cons k.second.items k.next y b)
    ∙ ap (λ ps. (get_or k.first.items k.next x, get_or k.second.items k.next y) ∷ ps) rest
    ∙ ap (λ v. (v, get_or k.second.items k.next y) ∷ left later) (sym x-is)
    ∙ ap (λ v. (x, v) ∷ left later) (sym y-is)

nothing : Objects
nothing = []

zip-none : (xs : Objects) → zip xs nothing ≡ []
unfolding nothing
zip-none [] = refl
zip-none (x ∷ xs) = refl

pub none-first : (k : ComparedKept) → length k.first.items ≤ k.next → left k ≡ []
none-first k l = ap (λ xs. zip xs (drop k.next k.second.items)) (drop_all k.next k.first.items l)

pub none-second : (k : ComparedKept) → length k.second.items ≤ k.next → left k ≡ []
unfolding nothing
none-second k l = ap (λ ys. zip (drop k.next k.first.items) ys) (drop_all k.next k.second.items l) ∙ zip-none (drop k.next k.first.items)

-- two items are asked
pub asks-two : (k later : ComparedKept) (w : World) (x y : PyObjectRef) (job : CompareTask) → left k ≡ (x, y) ∷ left later → later.way ≡ k.way → later.last ≡ k.last → compare_job job ≡ asked k.way x y → TakesTurn k w (Ask (task.Compare job) later)
asks-two k later w x y job here way last asks =
    let row = λ (ps : Pairs). λ (t : Reading). λ (u : PlainWorld). in_turn u k.way k.last ps in
    let asking = asks-follow compared_group (row ((x, y) ∷ left later)) (λ t u. row ((x, y) ∷ left later) t u []) w w [] (task.Compare job) later (λ t q. (q, ap (λ other. Asks (plain t w) [] (ToCompare other)) (sym asks))) (λ t u r more. ap (λ m. answered u m k.last r (in_turn u m k.last (left later)) more) (sym way) ∙ ap (λ b. answered u later.way b r (in_turn u later.way b (left later)) more) (sym last)) in
    subst (λ ps. points.Goes compared_group (row ps) w w (Ask (task.Compare job) later)) (sym here) asking

-- none are left
pub asks-none : (k : ComparedKept) (w : World) (o : PyObjectRef) → left k ≡ [] → o ≡ truth k.last → TakesTurn k w (End (Ok (Value o)))
asks-none k w o over is =
    let row = λ (ps : Pairs). λ (t : Reading). λ (u : PlainWorld). in_turn u k.way k.last ps in
    subst (λ ps. points.Goes compared_group (row ps) w w (End (Ok (Value o)))) (sym over)
    (ends-follow compared_group (row []) (λ t u. row [] t u []) w w (Ok (Value o)) (λ t q. (q, ap (λ b. Ends (plain t w) (ended_of (Ok (Value b)))) (sym is))))

-- two lists that were read are compared
read-goes : (n : CompareNative) (xs ys : Objects) (w : World) (step : Step ComparedKept) → points.Goes compared_group (λ t u. items_compared u n xs ys) w w step → Compares n (λ t u. both_read u n xs ys) w step
read-goes n xs ys w step h = λ row on t q.
    let k = h t q in
    let second = λ (u : PlainWorld). λ (more : Told). row t u (ReadObjects xs ∷ more) in (
      k.0,
      steps-noting (compared_group.stands t) t second (row t) (ReadObjects xs) (λ u more. refl) (noting (ReadObjects ys) (items_compared (plain t w) n xs ys [])) step w
          (steps-noting (compared_group.stands t) t (λ u. items_compared u n xs ys) second (ReadObjects ys) (λ u more. on t u xs ys more) (items_compared (plain t w) n xs ys []) step w k.1),
    )

-- in turn
pub compares-turns : (n : CompareNative) (k : ComparedKept) (w : World) (step : Step ComparedKept) → turns_of n (length k.first.items) (length k.second.items) ≡ turns.Each k.way k.last → k.next ≡ 0 → TakesTurn k w step → Compares n (λ t u. both_read u n k.first.items k.second.items) w step
compares-turns n k w step is start takes =
    let xs = k.first.items in
    let ys = k.second.items in
    let all : zip xs ys ≡ left k = ap (λ i. zip (drop i xs) (drop i ys)) (sym start) in
    read-goes n xs ys w step (goes-as compared_group (λ t u. in_turn u k.way k.last (left k)) (λ t u. items_compared u n xs ys)
    (λ t u more. ap (λ c. by_turns u c (zip xs ys) more) is ∙ ap (λ ps. in_turn u k.way k.last ps more) all) w w step takes)

-- an answer after which the comparison goes on
pub resumes-turn : (k : ComparedKept) (r : Result Answer Fault) (w : World) (step : Step ComparedKept) → ((u : PlainWorld) (more : Told) → answered u k.way k.last (ended_of r) (in_turn u k.way k.last (left k)) more ≡ in_turn u k.way k.last (left k) more) → TakesTurn k w step → Resumes k r w w step
resumes-turn k r w step on takes =
    goes-as compared_group (λ t u. in_turn u k.way k.last (left k)) (λ t. compared_stands t k (ended_of r)) (λ t. on) w w step takes

-- or ends
pub resumes-end : (k : ComparedKept) (r s : Result Answer Fault) (w : World) → ((u : PlainWorld) (more : Told) → answered u k.way k.last (ended_of r) (in_turn u k.way k.last (left k)) more ≡ Ends u (ended_of s)) → Resumes k r w w (End s)
resumes-end k r s w ends =
    let row = λ (t : Reading). compared_stands t k (ended_of r) in
    ends-follow compared_group row (λ t u. row t u []) w w s (λ t q. (q, ends (plain t w) []))

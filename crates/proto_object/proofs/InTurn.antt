-- Items that are asked one after another.
use Rattle.proto_object.proofs.Below.{ℕ, zero, suc, List, [], drop, refl, sym, ap, ◌∙◌, arith, false, Some, None, Ok, slice_get, Vec, PyObjectRef, Truth, PlainWorld, Told, ReadObjects, noting, World, Reading, plain, Goes, Point, Held, AllHold, AreNodes, IsNode, Holds, of_object_task, says, any_of, Each, Turn, InstanceOf, SubclassOf, Derives, asked_of, object_group, of_turn, turn_job, turn_rest, turn_step, goes-noting}
use Rattle.std.proofs.Common.{◌≡◌, ◌+◌, ◌∷◌, ◌++◌}
use Rattle.proto_object.specs.Rows.{Resumes}

-- what is left after one item
left-after : {A : Type 0} (xs : List A) (n : ℕ) (r : A) (rs : List A) → drop n xs ≡ r ∷ rs → drop (suc n) xs ≡ rs
left-after [] zero r rs e = cc
left-after [] (suc n) r rs e = cc
left-after (x ∷ xs) zero r rs e = cc
left-after (x ∷ xs) (suc n) r rs e = left-after xs n r rs e

pub left-next : {A : Type 0} (xs : List A) (n : ℕ) (r : A) (rs : List A) → drop n xs ≡ r ∷ rs → drop (n + 1) xs ≡ rs
left-next xs n r rs e =
    let next : n + 1 ≡ suc n = omega arith in
    ap (λ m. drop m xs) next ∙ left-after xs n r rs e

-- a row that goes over items from here on takes its turn
pub takes-turn : (w : World) (turn : Turn) (items : Vec PyObjectRef) (n : ℕ) (rs : List PyObjectRef) → drop n items.items ≡ rs → Goes object_group (λ t u. any_of u (turn_job turn) says rs) w w (turn_step turn rs (Each turn items (n + 1)))
takes-turn w turn items n [] e = λ t q. (q, (refl, refl))
takes-turn w turn items n (r ∷ rs) e = λ t q.
    (q, (refl, refl, λ u s more. ap (λ l. turn_rest u turn l s more) (sym (left-next items.items n r rs e))))

-- an item does not count: the next one is asked
pub next-goes : (w : World) (turn : Turn) (items : Vec PyObjectRef) (n : ℕ) → Resumes (Each turn items n) (Ok (Truth false)) w w (turn_step turn (drop n items.items) (Each turn items (n + 1)))
next-goes w turn items n = takes-turn w turn items n (drop n items.items) refl

-- the objects of a tuple are read once, and each is asked
pub reads-each : (w : World) (turn : Turn) (items : Vec PyObjectRef) (whole : Reading → Point) → ((t : Reading) (u : PlainWorld) (more : Told) → whole t u (ReadObjects items.items ∷ more) ≡ any_of u (turn_job turn) says items.items more) → ((t : Reading) → whole t (plain t w) [] ≡ noting (ReadObjects items.items) (any_of (plain t w) (turn_job turn) says items.items [])) → Goes object_group whole w w (turn_step turn items.items (Each turn items 1))
reads-each w turn items whole on is =
    goes-noting object_group (λ t u. any_of u (turn_job turn) says items.items) whole (ReadObjects items.items) on w w (turn_step turn items.items (Each turn items 1)) is (takes-turn w turn items 0 items.items refl)

-- the item at a place, and those after it
pub drop-got : {A : Type 0} (xs : List A) (i : ℕ) (x : A) → slice_get xs i ≡ Some x → drop i xs ≡ x ∷ drop (i + 1) xs
drop-got [] i x e = cc
drop-got (y ∷ xs) zero x e = let same : y ≡ x = cc in ap (λ z. z ∷ xs) same
drop-got (y ∷ xs) (suc i) x e =
    let next : i + 1 ≡ suc i = omega arith in
    let later : suc i + 1 ≡ suc (suc i) = omega arith in
    drop-got xs i x e ∙ ap (λ n. x ∷ drop n xs) next ∙ ap (λ n. x ∷ drop n (y ∷ xs)) (sym later)

pub drop-none : {A : Type 0} (xs : List A) (i : ℕ) → slice_get xs i ≡ None → drop i xs ≡ []
drop-none [] zero e = refl
drop-none [] (suc i) e = refl
drop-none (y ∷ xs) zero e = cc
drop-none (y ∷ xs) (suc i) e = drop-none xs i e

-- what is asked of an item that is there, and what is kept meanwhile
pub asked-holds : (w : Held) (turn : Turn) (r : PyObjectRef) (items : List PyObjectRef) → AllHold w (of_turn turn) → Holds w (IsNode r) → Holds w (AreNodes items) → AllHold w (of_object_task (asked_of turn r) ++ (AreNodes items ∷ of_turn turn))
asked-holds w (InstanceOf o) r items h k a = (h.0, (k, (a, h)))
asked-holds w (SubclassOf d) r items h k a = (h.0, (k, (a, h)))
asked-holds w (Derives c) r items h k a = (k, (h.0, (a, h)))

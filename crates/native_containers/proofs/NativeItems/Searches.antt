-- How a search goes from one item to the next.
use Rattle.native_containers.proofs.Below.{◌∙◌, ℕ, zero, suc, Option, Some, None, List, [], Ok, drop, refl, sym, ap, add-one, false, slice_get, Vec, IdEq, PyObjectRef, Truth, Value, Bindings, AsTruth, Answered, DoIdEq, Ends, ReadObjects, ToCompare, ToNative, truth, value, read_objects, World, Reading, plain, items_at, Sequence, Searching, is_among, look_for, Does, item_stands, next_asked, searcher_of, item_job_say, PlainWorld, Ended, Told, item_group, asks-follow, on_truth, cond, end, true}
use Rattle.std.proofs.Common.{◌≡◌, ◌+◌, ◌∷◌}
use Rattle.py_node.specs.declared.task.Task.TheVariants as task
use Rattle.native_containers.specs.declared.native_items.get.Sequence.TheVariants as sequence
use Rattle.native_containers.specs.NativeItems.Rows.{Resumes}
use Rattle.native_containers.proofs.NativeItems.Steps.{asks-does, ends-does, ends-resumes}

-- what is left at a place
rest-none : (xs : List PyObjectRef) (n : ℕ) → slice_get xs n ≡ None → drop n xs ≡ []
rest-none [] zero h = refl
rest-none [] (suc n) h = refl
rest-none (x ∷ xs) zero h = cc
rest-none (x ∷ xs) (suc n) h = rest-none xs n h

rest-some : (xs : List PyObjectRef) (n : ℕ) (r : PyObjectRef) → slice_get xs n ≡ Some r → drop n xs ≡ r ∷ drop (suc n) xs
rest-some [] zero r h = cc
rest-some [] (suc n) r h = cc
rest-some (x ∷ xs) zero r h = cc
rest-some (x ∷ xs) (suc n) r h = rest-some xs n r h

-- the first item is asked, as soon as all are read
first-alike : (s : Sequence) (o x r : PyObjectRef) (rest : List PyObjectRef) (items : Vec PyObjectRef) → items.items ≡ r ∷ rest → (t : Reading) (kw : Bindings) (u : PlainWorld) (a : Ended) (more : Told) → item_job_say u (ToNative (searcher_of s) (o ∷ x ∷ []) kw) (ReadObjects (r ∷ rest) ∷ (Answered a ∷ more)) ≡ item_stands t (Searching x items 1) a u more
unfolding item_job_say
first-alike sequence.Tuple o x r rest items e t kw u a more = ap (λ l. on_truth u a (λ b. cond b (end u (value (truth true))) (is_among u x (drop 1 l))) more) (sym e)
first-alike sequence.List o x r rest items e t kw u a more = ap (λ l. on_truth u a (λ b. cond b (end u (value (truth true))) (is_among u x (drop 1 l))) more) (sym e)

search-of : (s : Sequence) (o x : PyObjectRef) (items : Vec PyObjectRef) (w : World) (rs : List PyObjectRef) → items.items ≡ rs → ((t : Reading) → items_at (plain t w) o ≡ rs) → Does (searcher_of s) (o ∷ x ∷ []) (λ t u. look_for u o x []) w w (next_asked x items 0 (slice_get rs 0))
search-of s o x items w [] e same =
    ends-does (searcher_of s) (o ∷ x ∷ []) (λ t u. look_for u o x []) (λ t u. Ends u (value (truth false))) w w (Ok (Value (truth false)))
    (λ t. ap (λ l. read_objects l (is_among (plain t w) x) []) (same t)) (λ t q. (q, refl))
search-of s o x items w (r ∷ rest) e same =
    asks-does (searcher_of s) (o ∷ x ∷ []) (λ t u. look_for u o x []) w (ReadObjects (r ∷ rest) ∷ []) (task.Compare (IdEq r x)) (ToCompare (DoIdEq r x)) (Searching x items 1)
    (λ t. ap (λ l. read_objects l (is_among (plain t w) x) []) (same t)) (λ t q. refl) (first-alike s o x r rest items e)

pub search-begins : (s : Sequence) (o x : PyObjectRef) (items : Vec PyObjectRef) (w : World) → ((t : Reading) → items_at (plain t w) o ≡ items.items) → Does (searcher_of s) (o ∷ x ∷ []) (λ t u. look_for u o x []) w w (next_asked x items 0 (slice_get items.items 0))
search-begins s o x items w same = search-of s o x items w items.items refl same

-- the next one is asked, if there is one
search-on : (x : PyObjectRef) (items : Vec PyObjectRef) (next : ℕ) (w : World) (got : Option PyObjectRef) → slice_get items.items next ≡ got → Resumes (Searching x items next) (Ok (Truth false)) w w (next_asked x items next got)
search-on x items next w None e =
    ends-resumes (Searching x items next) (Ok (Truth false)) (λ t u. Ends u (value (truth false))) w w (Ok (Value (truth false)))
    (λ t. ap (λ l. is_among (plain t w) x l []) (rest-none items.items next e)) (λ t q. (q, refl))
search-on x items next w (Some r) e =
    let rest = rest-some items.items next r e in
    let row = λ (t : Reading). item_stands t (Searching x items next) (Ok (AsTruth false)) in
    asks-follow item_group row (λ t u. row t u []) w w [] (task.Compare (IdEq r x)) (Searching x items (next + 1))
    (λ t q. (q, ap (λ l. is_among (plain t w) x l []) rest))
    (λ t u a more.
    ap (λ l. is_among u x l (Answered a ∷ more)) rest
    ∙ ap (λ n. on_truth u a (λ b. cond b (end u (value (truth true))) (is_among u x (drop n items.items))) more) (sym (add-one next)))

pub search-goes : (x : PyObjectRef) (items : Vec PyObjectRef) (next : ℕ) (w : World) → Resumes (Searching x items next) (Ok (Truth false)) w w (next_asked x items next (slice_get items.items next))
search-goes x items next w = search-on x items next w (slice_get items.items next) refl

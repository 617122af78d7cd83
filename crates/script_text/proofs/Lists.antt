-- Lists that are read item by item.
use Rattle.script_text.proofs.Below.{ℕ, zero, suc, List, [], length, get_or, drop, map, cond, true, Option, Some, None, Ok, ok_or, String, string_bytes, Vec, Box, Global, refl, ap, sym, ◌∙◌, arith, rules, length-map, depth, items_depth, view, items_view, Value, CallParts, ClassParts, Expr, Call, Class, Op, the_lemmas, Command, Word, TCall, TClass, TOp, entry, entries_of, trees_of, tree_of, pair_of, expr_of, exprs_of, pair_in, pairs_in, entry_of, entries_in, named, named_entries, call, class, operation, command_trees, allows, Arity}
use Rattle.std.proofs.Common.{◌≡◌, ◌+◌, ◌<◌, ◌≤◌, ◌∷◌, ◌++◌}
use Rattle.script_text.proofs.JsonText.Lists.{onto, turn}

-- an item is no deeper than its list
pub depth-item : (vs : List Value) (i : ℕ) (v : Value) → i < length vs → depth (view (get_or vs i v)) ≤ items_depth (items_view vs)
depth-item [] i v h = omega arith
depth-item (x ∷ xs) zero v h = omega arith
depth-item (x ∷ xs) (suc i) v h = let deeper = depth-item xs i v (omega arith) in omega (arith, deeper)

pub depth-here : (vs : List Value) (i : ℕ) (v : Value) → i < length vs → v ≡ get_or vs i v → depth (view v) ≤ items_depth (items_view vs)
depth-here vs i v h is =
    let same : depth (view v) ≡ depth (view (get_or vs i v)) = ap (λ w. depth (view w)) is in
    let within : depth (view (get_or vs i v)) ≤ items_depth (items_view vs) = depth-item vs i v h in
    omega (arith, same, within)

pub exprs-turn : (vs : List Value) (i : ℕ) (v : Value) (found : List Expr) (e : Expr) → i < length vs → v ≡ get_or vs i v → expr_of (view v) ≡ Some (tree_of e)
    → exprs_of (items_view vs) ≡ onto (map tree_of found) (exprs_of (items_view (drop i vs)))
    → exprs_of (items_view vs) ≡ onto (map tree_of (found ++ e ∷ [])) (exprs_of (items_view (drop (i + 1) vs)))
unfolding exprs_of
exprs-turn vs i v found e = turn (λ w. expr_of (view w)) (λ ws. exprs_of (items_view ws)) tree_of (λ w ws. refl) vs i v found e (exprs_of (items_view vs))

pub commands-turn : (vs : List Value) (i : ℕ) (v : Value) (found : List Command) (k : Command) → i < length vs → v ≡ get_or vs i v → expr_of (view v) ≡ Some (tree_of k.expr)
    → exprs_of (items_view vs) ≡ onto (command_trees found) (exprs_of (items_view (drop i vs)))
    → exprs_of (items_view vs) ≡ onto (command_trees (found ++ k ∷ [])) (exprs_of (items_view (drop (i + 1) vs)))
unfolding exprs_of
commands-turn vs i v found k = turn (λ w. expr_of (view w)) (λ ws. exprs_of (items_view ws)) (λ (k : Command). tree_of k.expr) (λ w ws. refl) vs i v found k (exprs_of (items_view vs))

pub entries-turn : (vs : List Value) (i : ℕ) (v : Value) (found : List (String Global × Expr)) (e : String Global × Expr) → i < length vs → v ≡ get_or vs i v → entry_of (view v) ≡ Some (named e)
    → entries_in (items_view vs) ≡ onto (map named found) (entries_in (items_view (drop i vs)))
    → entries_in (items_view vs) ≡ onto (map named (found ++ e ∷ [])) (entries_in (items_view (drop (i + 1) vs)))
unfolding entries_in
entries-turn vs i v found e = turn (λ w. entry_of (view w)) (λ ws. entries_in (items_view ws)) named (λ w ws. refl) vs i v found e (entries_in (items_view vs))

pub pairs-turn : (vs : List Value) (i : ℕ) (v : Value) (found : List (Expr × Expr)) (p : Expr × Expr) → i < length vs → v ≡ get_or vs i v → pair_in (view v) ≡ Some (pair_of p)
    → pairs_in (items_view vs) ≡ onto (map pair_of found) (pairs_in (items_view (drop i vs)))
    → pairs_in (items_view vs) ≡ onto (map pair_of (found ++ p ∷ [])) (pairs_in (items_view (drop (i + 1) vs)))
unfolding pairs_in
pairs-turn vs i v found p = turn (λ w. pair_in (view w)) (λ ws. pairs_in (items_view ws)) pair_of (λ w ws. refl) vs i v found p (pairs_in (items_view vs))

entries-named : (fs : List (String Global × Expr)) → entries_of (map (λ e. (e.0, tree_of e.1)) fs) ≡ named_entries (map named fs)
entries-named [] = refl
entries-named (f ∷ fs) = ap (entry (string_bytes f.0) (tree_of f.1)) (entries-named fs)

-- a call that was read
pub call-tree : (b : Box (CallParts (String Global) Expr) Global)
    → tree_of (Call b) ≡ call (tree_of b.value.function) (map tree_of b.value.args.items) (map named b.value.keywords.items)
call-tree b =
    let seen : tree_of (Call b) ≡ TCall (tree_of b.value.function) (trees_of (map tree_of b.value.args.items))
    (entries_of (map (λ (e : String Global × Expr). (e.0, tree_of e.1)) b.value.keywords.items)) =
    search (rules, the_lemmas) in
    seen ∙ ap (TCall (tree_of b.value.function) (trees_of (map tree_of b.value.args.items))) (entries-named b.value.keywords.items)

-- a class that was read
pub class-tree : (b : Box (ClassParts (String Global) Expr) Global)
    → tree_of (Class b) ≡ class (string_bytes b.value.name) (map tree_of b.value.bases.items) (map named b.value.entries.items) (map named b.value.keywords.items)
class-tree b =
    let seen : tree_of (Class b) ≡ TClass (string_bytes b.value.name) (trees_of (map tree_of b.value.bases.items))
    (entries_of (map (λ (e : String Global × Expr). (e.0, tree_of e.1)) b.value.keywords.items)) (entries_of (map (λ (e : String Global × Expr). (e.0, tree_of e.1)) b.value.entries.items)) =
    search (rules, the_lemmas) in
    seen ∙ ap (λ ks. TClass (string_bytes b.value.name) (trees_of (map tree_of b.value.bases.items)) ks (entries_of (map (λ (e : String Global × Expr). (e.0, tree_of e.1)) b.value.entries.items))) (entries-named b.value.keywords.items)
    ∙ ap (TClass (string_bytes b.value.name) (trees_of (map tree_of b.value.bases.items)) (named_entries (map named b.value.keywords.items))) (entries-named b.value.entries.items)

-- an operation that was read: its word is known, and it takes so many operands
pub op-tree : (row : Word × Arity) (operands : Vec Expr Global) → allows row.1 (length operands.items) ≡ true → operation (Some row) (Some (map tree_of operands.items)) ≡ Some (tree_of (Op row.0 operands))
op-tree row operands h =
    let seen : tree_of (Op row.0 operands) ≡ TOp row.0 (trees_of (map tree_of operands.items)) = search (rules, the_lemmas) in
    let enough : allows row.1 (length (map tree_of operands.items)) ≡ true = ap (allows row.1) (length-map operands.items tree_of) ∙ h in
    ap (λ b. cond b (Some (TOp row.0 (trees_of (map tree_of operands.items)))) None) enough ∙ ap Some (sym seen)

-- what was found where this gives no refusal
pub found : {A E : Type 0} (o : Option A) (e : E) (a : A) → ok_or o e ≡ Ok a → o ≡ Some a
found None e a h = cc
found (Some b) e a h = let same : b ≡ a = cc in ap Some same

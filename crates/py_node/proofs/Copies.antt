-- An expression with entries stands for the tree that its names and parts say.
use Rattle.py_node.proofs.Below.{List, [], map, String, string_bytes, refl, rules, sym, ap, ◌∙◌, Global, Box, CallParts, ClassParts, Expr, the_lemmas, Call, Class, Text, Tree, TCall, TClass, Entries, no_entries, entry, entries_of, trees_of, tree_of, part_of}
use Rattle.std.proofs.Common.{◌≡◌, ◌∷◌}

entries_by : List (Text × Tree) → Entries
entries_by [] = no_entries
entries_by (p ∷ ps) = entry p.0 p.1 (entries_by ps)

entries_parts : (fs : List (String Global × Expr)) → entries_of (map (λ p. (p.0, tree_of p.1)) fs) ≡ entries_by (map part_of fs)
unfolding entries_by
entries_parts [] = refl
entries_parts (f ∷ fs) = ap (λ es. entry (string_bytes f.0) (tree_of f.1) es) (entries_parts fs)

-- entries of the same parts stand for the same
same_entries : (gs hs : List (String Global × Expr)) → map part_of gs ≡ map part_of hs
    → entries_of (map (λ p. (p.0, tree_of p.1)) gs) ≡ entries_of (map (λ p. (p.0, tree_of p.1)) hs)
same_entries gs hs parts = entries_parts gs ∙ ap entries_by parts ∙ sym (entries_parts hs)

tree_of-Call : (b : Box (CallParts (String Global) Expr))
    → tree_of (Call b) ≡ TCall (tree_of b.value.function) (trees_of (map tree_of b.value.args.items)) (entries_of (map (λ p. (p.0, tree_of p.1)) b.value.keywords.items))
tree_of-Call b = search (rules, the_lemmas)

-- a call in a box is that of its parts, which are copies
pub same_call : (a b : Box (CallParts (String Global) Expr)) (v : CallParts (String Global) Expr) → a.value ≡ v → tree_of v.function ≡ tree_of b.value.function
    → map tree_of v.args.items ≡ map tree_of b.value.args.items → map part_of v.keywords.items ≡ map part_of b.value.keywords.items
    → tree_of (Call a) ≡ tree_of (Call b)
same_call a b v boxed function arguments parts =
    let called : tree_of a.value.function ≡ tree_of b.value.function = ap (λ (v : CallParts (String Global) Expr). tree_of v.function) boxed ∙ function in
    let args : map tree_of a.value.args.items ≡ map tree_of b.value.args.items = ap (λ (v : CallParts (String Global) Expr). map tree_of v.args.items) boxed ∙ arguments in
    let keywords = same_entries a.value.keywords.items b.value.keywords.items (ap (λ (v : CallParts (String Global) Expr). map part_of v.keywords.items) boxed ∙ parts) in
    let whole : TCall (tree_of a.value.function) (trees_of (map tree_of a.value.args.items)) _ ≡ TCall (tree_of b.value.function) (trees_of (map tree_of b.value.args.items)) _ =
    λ i. TCall (called i) (trees_of (args i)) (keywords i) in
    tree_of-Call a ∙ whole ∙ sym (tree_of-Call b)

tree_of-Class : (b : Box (ClassParts (String Global) Expr))
    → tree_of (Class b)
    ≡ TClass (string_bytes b.value.name) (trees_of (map tree_of b.value.bases.items)) (entries_of (map (λ p. (p.0, tree_of p.1)) b.value.keywords.items)) (entries_of (map (λ p. (p.0, tree_of p.1)) b.value.entries.items))
tree_of-Class b = search (rules, the_lemmas)

pub same_class : (a b : Box (ClassParts (String Global) Expr)) (v : ClassParts (String Global) Expr) → a.value ≡ v → string_bytes v.name ≡ string_bytes b.value.name
    → map tree_of v.bases.items ≡ map tree_of b.value.bases.items
    → map part_of v.keywords.items ≡ map part_of b.value.keywords.items → map part_of v.entries.items ≡ map part_of b.value.entries.items
    → tree_of (Class a) ≡ tree_of (Class b)
same_class a b v boxed name above given parts =
    let named : string_bytes a.value.name ≡ string_bytes b.value.name = ap (λ (v : ClassParts (String Global) Expr). string_bytes v.name) boxed ∙ name in
    let bases : map tree_of a.value.bases.items ≡ map tree_of b.value.bases.items = ap (λ (v : ClassParts (String Global) Expr). map tree_of v.bases.items) boxed ∙ above in
    let keywords = same_entries a.value.keywords.items b.value.keywords.items (ap (λ (v : ClassParts (String Global) Expr). map part_of v.keywords.items) boxed ∙ given) in
    let inside = same_entries a.value.entries.items b.value.entries.items (ap (λ (v : ClassParts (String Global) Expr). map part_of v.entries.items) boxed ∙ parts) in
    let whole : TClass (string_bytes a.value.name) (trees_of (map tree_of a.value.bases.items)) _ _ ≡ TClass (string_bytes b.value.name) (trees_of (map tree_of b.value.bases.items)) _ _ =
    λ i. TClass (named i) (trees_of (bases i)) (keywords i) (inside i) in
    tree_of-Class a ∙ whole ∙ sym (tree_of-Class b)

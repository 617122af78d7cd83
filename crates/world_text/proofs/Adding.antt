-- A store that has more has what it had, and lists of its parts grow by one.
use Rattle.world_text.proofs.Below.{ℕ, List, [], length, get_or, map, take, take_all, String, string_bytes, Result, Ok, Err, IfOk, refl, ap, ◌∙◌, subst, Global, Expr, ExprRef, PyStrInterned, Form, Text, Tree, tree_of, part_of, pair_of, texts_of, Held, Reading, Reads, form_tree, IsName, AreNames, IsExpression, AreExpressions, Holds, grows-itself, grows-on, map-next, names-push, no-names, Adds, HasName, HasNames, HasTree, HasTrees, HasPairs, HasEntries, HasForm}
use Rattle.std.proofs.Common.{◌≡◌, ◌+◌, ◌<◌, ◌≤◌, ◌∷◌, ◌++◌}
use Rattle.world_text.proofs.Parts.{no-expressions, expressions-push, keys-push, values-push, entry-names-push, entry-expressions-push}

pub adds-itself : (w : Held) → Adds w w
adds-itself w = record { same = λ t. refl; reads = λ t r. r; grows = grows-itself w }

pub adds-on : {a b c : Held} → Adds a b → Adds b c → Adds a c
adds-on {a} {b} {c} g h = record { same = λ t. h.same t ∙ g.same t; reads = λ t r. g.reads t (h.reads t r); grows = grows-on a b c g.grows h.grows }

module _ {a b : Held} (g : Adds a b) where
  pub name-stays : {x : PyStrInterned} {s : Text} → HasName a x s → HasName b x s
  name-stays {x} h = record { there = g.grows.still (IsName x) h.there; read = λ t r. h.read t (g.reads t r) }

  pub names-stay : {xs : List PyStrInterned} {ss : List Text} → HasNames a xs ss → HasNames b xs ss
  names-stay {xs} h = record { there = g.grows.still (AreNames xs) h.there; read = λ t r. h.read t (g.reads t r) }

  pub tree-stays : {n : ExprRef} {e : Tree} → HasTree a n e → HasTree b n e
  tree-stays {n} h = record { there = g.grows.still (IsExpression n) h.there; read = λ t r. h.read t (g.reads t r) }

  pub trees-stay : {ns : List ExprRef} {es : List Tree} → HasTrees a ns es → HasTrees b ns es
  trees-stay {ns} h = record { there = g.grows.still (AreExpressions ns) h.there; read = λ t r. h.read t (g.reads t r) }

  pub pairs-stay : {ps : List (ExprRef × ExprRef)} {es : List (Tree × Tree)} → HasPairs a ps es → HasPairs b ps es
  pairs-stay {ps} h = record {
    keys = g.grows.still (AreExpressions (map (λ p. p.0) ps)) h.keys;
    values = g.grows.still (AreExpressions (map (λ p. p.1) ps)) h.values;
    read = λ t r. h.read t (g.reads t r);
  }

  pub entries-stay : {xs : List (PyStrInterned × ExprRef)} {es : List (Text × Tree)} → HasEntries a xs es → HasEntries b xs es
  entries-stay {xs} h = record {
    names = g.grows.still (AreNames (map (λ e. e.0) xs)) h.names;
    values = g.grows.still (AreExpressions (map (λ e. e.1) xs)) h.values;
    read = λ t r. h.read t (g.reads t r);
  }

-- the same expression of the code
pub tree-as : {w : Held} {n : ExprRef} {e d : Expr} → HasTree w n (tree_of e) → e ≡ d → HasTree w n (tree_of d)
tree-as {w} {n} h e = subst (λ d. HasTree w n (tree_of d)) e h

-- what is added to the store stands for the tree that it would stand for
pub stored : {E : Type 0} (old new : Held) (f : Form) (e : Tree) (o : Result ExprRef E)
    → IfOk o (λ n. (t : Reading) → Reads t new → t.tree n.0 ≡ form_tree t.text t.tree f) → IfOk o (λ n. Holds new (IsExpression n))
    → ((t : Reading) → Reads t new → Reads t old) → HasForm old f e → IfOk o (λ n. HasTree new n e)
stored old new f e (Ok n) a h g k = record { there = h; read = λ t r. a t r ∙ k.read t (g t r) }
stored old new f e (Err x) a h g k = tt

pub named : {E : Type 0} (w : Held) (s d : Text) (o : Result PyStrInterned E)
    → IfOk o (λ x. (t : Reading) → Reads t w → t.text x.0 ≡ s) → IfOk o (λ x. Holds w (IsName x)) → s ≡ d → IfOk o (λ x. HasName w x d)
named w s d (Ok x) a h e = record { there = h; read = λ t r. a t r ∙ e }
named w s d (Err y) a h e = tt

-- nothing
pub no-name : (w : Held) → HasNames w [] []
no-name w = record { there = no-names w; read = λ t r. refl }

pub no-tree : (w : Held) → HasTrees w [] []
no-tree w = record { there = no-expressions w; read = λ t r. refl }

pub no-pair : (w : Held) → HasPairs w [] []
no-pair w = record { keys = no-expressions w; values = no-expressions w; read = λ t r. refl }

pub no-entry : (w : Held) → HasEntries w [] []
no-entry w = record { names = no-names w; values = no-expressions w; read = λ t r. refl }

-- one more
pub names-next : {w : Held} {xs : List PyStrInterned} {x : PyStrInterned} (ss : List (String Global)) (i : ℕ) (s : String Global)
    → i < length ss → s ≡ get_or ss i s → HasNames w xs (texts_of (take i ss)) → HasName w x (string_bytes s) → HasNames w (xs ++ x ∷ []) (texts_of (take (i + 1) ss))
names-next {w} {xs} {x} ss i s l at h k =
    record { there = names-push w xs x h.there k.there; read = λ t r. map-next (λ x. t.text x.0) (λ s. string_bytes s) xs x ss i s l at (h.read t r) (k.read t r) }

pub trees-next : {w : Held} {ns : List ExprRef} {n : ExprRef} (es : List Expr) (i : ℕ) (e : Expr)
    → i < length es → e ≡ get_or es i e → HasTrees w ns (map tree_of (take i es)) → HasTree w n (tree_of e) → HasTrees w (ns ++ n ∷ []) (map tree_of (take (i + 1) es))
trees-next {w} {ns} {n} es i e l at h k =
    record { there = expressions-push w ns n h.there k.there; read = λ t r. map-next (λ n. t.tree n.0) tree_of ns n es i e l at (h.read t r) (k.read t r) }

pub pairs-next : {w : Held} {ps : List (ExprRef × ExprRef)} {k v : ExprRef} (es : List (Expr × Expr)) (i : ℕ) (e : Expr × Expr)
    → i < length es → e ≡ get_or es i e → HasPairs w ps (map pair_of (take i es)) → HasTree w k (tree_of e.0) → HasTree w v (tree_of e.1)
    → HasPairs w (ps ++ (k, v) ∷ []) (map pair_of (take (i + 1) es))
pairs-next {w} {ps} {k} {v} es i e l at h m n = record {
  keys = keys-push w ps (k, v) h.keys m.there;
  values = values-push w ps (k, v) h.values n.there;
  read = λ t r. map-next (λ p. (t.tree p.0.0, t.tree p.1.0)) pair_of ps (k, v) es i e l at (h.read t r) (λ j. (m.read t r j, n.read t r j));
}

pub entries-next : {w : Held} {xs : List (PyStrInterned × ExprRef)} {x : PyStrInterned} {n : ExprRef} (es : List (String Global × Expr)) (i : ℕ) (e : String Global × Expr)
    → i < length es → e ≡ get_or es i e → HasEntries w xs (map part_of (take i es)) → HasName w x (string_bytes e.0) → HasTree w n (tree_of e.1)
    → HasEntries w (xs ++ (x, n) ∷ []) (map part_of (take (i + 1) es))
entries-next {w} {xs} {x} {n} es i e l at h m k = record {
  names = entry-names-push w xs (x, n) h.names m.there;
  values = entry-expressions-push w xs (x, n) h.values k.there;
  read = λ t r. map-next (λ e. (t.text e.0.0, t.tree e.1.0)) part_of xs (x, n) es i e l at (h.read t r) (λ j. (m.read t r j, k.read t r j));
}

-- all were taken
module _ {A B : Type 0} (f : A → B) (xs ys : List A) (i : ℕ) (l : length xs ≤ i) (e : xs ≡ ys) where
  pub at-end : map f (take i xs) ≡ map f ys
  at-end = ap (map f) (take_all i xs l ∙ e)

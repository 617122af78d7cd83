-- The tables of a world can be read: names past the table are long, and trees go down.
use Rattle.class_world.proofs.Below.{ℕ, zero, suc, List, [], length, replicate, Option, Some, None, Bool, true, false, eqb, refl, sym, ap, ◌∙◌, arith, map, slice_get, All, eq-eqb, eqb-true, bytes_eq-Decides, length-replicate, ExprRef, PyStrInterned, Form, AreDistinct, Text, Tree, TConst, TTuple, TList, TDict, TOp, TSeq, LNone, trees_of, keyed_of, is_text, World, IsBelow, AreBelow, form_tree, stored_entries, IsReadable}
use Rattle.std.proofs.Common.{◌≡◌, ◌+◌, ◌<◌, ◌≤◌, ◌∷◌}
use Rattle.py_node.specs.declared.payload.Form.TheVariants as form

abbrev total : List Text → ℕ
total [] = 0
total (x ∷ xs) = length x + total xs

total-bound : (xs : List Text) (n : ℕ) (x : Text) → slice_get xs n ≡ Some x → length x ≤ total xs
total-bound [] n x h = cc
total-bound (y ∷ xs) zero x h = let e : y ≡ x = cc in let l = ap length e in omega arith
total-bound (y ∷ xs) (suc n) x h = let l = total-bound xs n x h in omega arith

-- a text of the table, or a long one
abbrev spell : ℕ → ℕ → Option Text → Text
spell size n (Some x) = x
spell size n None = replicate (suc (size + n)) 0

abbrev text_at : List Text → ℕ → Text
text_at names n = spell (total names) n (slice_get names n)

text_at-injective : (names : List Text) → AreDistinct names → (n m : ℕ) → text_at names n ≡ text_at names m → n ≡ m
text_at-injective names d n m = go (slice_get names n) (slice_get names m) refl refl
  where
    go : (a b : Option Text) → slice_get names n ≡ a → slice_get names m ≡ b → spell (total names) n a ≡ spell (total names) m b → n ≡ m
    go (Some x) (Some y) e f h = d n m y (e ∙ ap Some h) f
    go (Some x) None e f h =
        let l = ap length h ∙ length-replicate (suc (total names + m)) 0 in
        absurd (omega (arith, total-bound names n x e, l))
    go None (Some y) e f h =
        let l = ap length (sym h) ∙ length-replicate (suc (total names + n)) 0 in
        absurd (omega (arith, total-bound names m y f, l))
    go None None e f h =
        let l = sym (length-replicate (suc (total names + n)) 0) ∙ ap length h ∙ length-replicate (suc (total names + m)) 0 in
        omega (arith, l)

pub same-tests : (a b : Bool) → (a ≡ true → b ≡ true) → (b ≡ true → a ≡ true) → a ≡ b
same-tests true b f g = sym (f refl)
same-tests false true f g = g refl
same-tests false false f g = refl

text_at-same : (names : List Text) → AreDistinct names → (n m : ℕ) → is_text (text_at names n) (text_at names m) ≡ eqb n m
text_at-same names d n m =
    let test = bytes_eq-Decides (text_at names n) (text_at names m) in
    same-tests _ _ (λ h. eq-eqb n m (text_at-injective names d n m (test.0 h))) (λ h. test.1 (ap (text_at names) (eqb-true n m h)))

abbrev blank : Tree
blank = TConst LNone

tree_from : (ℕ → Text) → (ℕ → Tree) → Option Form → Tree
tree_from text tree None = blank
tree_from text tree (Some f) = form_tree text tree f

-- the tree of an expression, for numbers below the bound
tree_at : (ℕ → Text) → List Form → ℕ → ℕ → Tree
tree_at text forms zero n = blank
tree_at text forms (suc bound) n = tree_from text (tree_at text forms bound) (slice_get forms n)

abbrev both : (ℕ → Tree) → ExprRef × ExprRef → Tree × Tree
both f p = (f p.0.0, f p.1.0)

module _ (text : ℕ → Text) (f g : ℕ → Tree) (n : ℕ) (h : (a : ℕ) → a < n → f a ≡ g a) where
  map-agrees : (es : List ExprRef) → All (λ e. e.0 < n) es → map (λ e. f e.0) es ≡ map (λ e. g e.0) es
  map-agrees [] b = refl
  map-agrees (e ∷ es) b =
      let here : e.0 < n = b 0 e (omega arith) in
      let rest = map-agrees es (λ i d l. b (suc i) d (omega arith)) in
      cc (h e.0 here, rest)

  trees-agree : (es : List ExprRef) → All (λ e. e.0 < n) es → trees_of (map (λ e. f e.0) es) ≡ trees_of (map (λ e. g e.0) es)
  trees-agree es b = ap trees_of (map-agrees es b)

  pairs-agree : (ps : List (ExprRef × ExprRef)) → All (λ p. p.0.0 < n) ps → All (λ p. p.1.0 < n) ps
      → map (both f) ps ≡ map (both g) ps
  pairs-agree [] b c = refl
  pairs-agree (p ∷ ps) b c =
      let key : p.0.0 < n = b 0 p (omega arith) in
      let value : p.1.0 < n = c 0 p (omega arith) in
      let rest = pairs-agree ps (λ i d l. b (suc i) d (omega arith)) (λ i d l. c (suc i) d (omega arith)) in
      cc (h p.0.0 key, h p.1.0 value, rest)

  entries-agree : (es : List (PyStrInterned × ExprRef)) → All (λ e. e.1.0 < n) es → stored_entries text f es ≡ stored_entries text g es
  entries-agree [] b = refl
  entries-agree (e ∷ es) b =
      let here : e.1.0 < n = b 0 e (omega arith) in
      let rest = entries-agree es (λ i d l. b (suc i) d (omega arith)) in
      cc (h e.1.0 here, rest)

  form_tree-agrees : (x : Form) → IsBelow n x → form_tree text f x ≡ form_tree text g x
  form_tree-agrees (form.Const k) b = refl
  form_tree-agrees (form.Name x) b = refl
  form_tree-agrees (form.Bind x e) b = cc (h e.0 b)
  form_tree-agrees (form.Tuple es) b = ap TTuple (trees-agree es.items b)
  form_tree-agrees (form.List es) b = ap TList (trees-agree es.items b)
  form_tree-agrees (form.Dict ps) b = ap (λ l. TDict (keyed_of l)) (pairs-agree ps.items b.0 b.1)
  form_tree-agrees (form.Func parts) b = cc (h parts.value.body.0 b)
  form_tree-agrees (form.Attr o x) b = cc (h o.0 b)
  form_tree-agrees (form.SetAttr o x e) b = cc (h o.0 b.0, h e.0 b.1)
  form_tree-agrees (form.DelAttr o x) b = cc (h o.0 b)
  form_tree-agrees (form.Call parts) b = cc (h parts.value.function.0 b.0, trees-agree parts.value.args.items b.1, entries-agree parts.value.keywords.items b.2)
  form_tree-agrees (form.Op word es) b = ap (TOp word) (trees-agree es.items b)
  form_tree-agrees (form.If c k l) b = cc (h c.0 b.0, h k.0 b.1, h l.0 b.2)
  form_tree-agrees (form.Seq es) b = ap TSeq (trees-agree es.items b)
  form_tree-agrees (form.Raise kind) b = refl
  form_tree-agrees (form.Class parts) b = cc (trees-agree parts.value.bases.items b.0, entries-agree parts.value.keywords.items b.1, entries-agree parts.value.entries.items b.2)

module _ (text : ℕ → Text) (forms : List Form) (below : AreBelow forms) where
  tree_at-agrees : (i j n : ℕ) → n < i → n < j → tree_at text forms i n ≡ tree_at text forms j n
  unfolding tree_at tree_from
  tree_at-agrees zero j n h k = absurd (omega arith)
  tree_at-agrees (suc i) zero n h k = absurd (omega arith)
  tree_at-agrees (suc i) (suc j) n h k = go (slice_get forms n) refl (λ a l. tree_at-agrees i j a (omega arith) (omega arith))
    where
      go : (o : Option Form) → slice_get forms n ≡ o → ((a : ℕ) → a < n → tree_at text forms i a ≡ tree_at text forms j a) → tree_from text (tree_at text forms i) o ≡ tree_from text (tree_at text forms j) o
      go None e f = refl
      go (Some x) e f = form_tree-agrees text _ _ n f x (below n x e)

  tree_at-form : (n : ℕ) (x : Form) → slice_get forms n ≡ Some x → tree_at text forms (suc n) n ≡ form_tree text (λ a. tree_at text forms (suc a) a) x
  unfolding tree_at tree_from
  tree_at-form n x e =
      ap (tree_from text (tree_at text forms n)) e
      ∙ form_tree-agrees text (tree_at text forms n) (λ a. tree_at text forms (suc a) a) n (λ a l. tree_at-agrees n (suc a) a l (omega arith)) x (below n x e)

-- a world whose names differ, and in which the parts of each expression stand before it, can be read
pub readable : (w : World) → AreDistinct w.names → AreBelow w.forms → IsReadable w
readable w d b =
    let text = text_at w.names in (
      record { text = text; tree = λ n. tree_at text w.forms (suc n) n; same = text_at-same w.names d },
      record { names = λ n x e. ap (spell (total w.names) n) e; trees = λ n x e. tree_at-form text w.forms b n x e },
    )

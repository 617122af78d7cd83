-- What is to be stored stands for the tree of its expression, where its parts do.
use Rattle.world_text.proofs.Below.{List, [], map, String, string_bytes, refl, sym, ap, ◌∙◌, subst, rules, Box, Vec, Global, ExprRef, PyStrInterned, Word, FuncParts, CallParts, ClassParts, SetAttrParts, Expr, the_lemmas, TBind, TTuple, TList, TDict, TFunc, TAttr, TSetAttr, TDelAttr, TCall, TOp, TIf, TSeq, TClass, entry, entries_of, trees_of, keyed_of, texts_of, tree_of, part_of, pair_of, Held, entry_list, HasName, HasNames, HasTree, HasTrees, HasPairs, HasEntries, HasForm}
use Rattle.std.proofs.Common.{◌≡◌, ◌∷◌}
use Rattle.py_node.specs.declared.payload.Form.TheVariants as form
use Rattle.py_node.specs.declared.expr.Expr.TheViews as expr

-- entries, by their texts and trees
entries_parts : (es : List (String Global × Expr)) → entry_list (map part_of es) ≡ entries_of (map (λ p. (p.0, tree_of p.1)) es)
entries_parts [] = refl
entries_parts (e ∷ es) = ap (λ rest. entry (string_bytes e.0) (tree_of e.1) rest) (entries_parts es)

-- the tree of an expression, by those of its parts
bind-tree : (a0 : String Global) (a1 : Box Expr) → tree_of (expr.Bind a0 a1) ≡ TBind (string_bytes a0) (tree_of a1.value)
bind-tree a0 a1 = search (rules, the_lemmas)

tuple-tree : (a0 : Vec Expr) → tree_of (expr.Tuple a0) ≡ TTuple (trees_of (map tree_of a0.items))
tuple-tree a0 = search (rules, the_lemmas)

list-tree : (a0 : Vec Expr) → tree_of (expr.List a0) ≡ TList (trees_of (map tree_of a0.items))
list-tree a0 = search (rules, the_lemmas)

dict-tree : (a0 : Vec (Expr × Expr)) → tree_of (expr.Dict a0) ≡ TDict (keyed_of (map pair_of a0.items))
dict-tree a0 = search (rules, the_lemmas)

func-tree : (a : Box (FuncParts (String Global) Expr)) → tree_of (expr.Func a) ≡ TFunc (string_bytes a.value.name) (texts_of a.value.params.items) a.value.rest (tree_of a.value.body)
func-tree a = search (rules, the_lemmas)

attr-tree : (a0 : Box Expr) (a1 : String Global) → tree_of (expr.Attr a0 a1) ≡ TAttr (tree_of a0.value) (string_bytes a1)
attr-tree a0 a1 = search (rules, the_lemmas)

set_attr-tree : (a : Box (SetAttrParts Expr)) → tree_of (expr.SetAttr a) ≡ TSetAttr (tree_of a.value.object) (string_bytes a.value.name) (tree_of a.value.value)
set_attr-tree a = search (rules, the_lemmas)

del_attr-tree : (a0 : Box Expr) (a1 : String Global) → tree_of (expr.DelAttr a0 a1) ≡ TDelAttr (tree_of a0.value) (string_bytes a1)
del_attr-tree a0 a1 = search (rules, the_lemmas)

call-tree : (a : Box (CallParts (String Global) Expr)) → tree_of (expr.Call a) ≡ TCall (tree_of a.value.function) (trees_of (map tree_of a.value.args.items)) (entries_of (map (λ p. (p.0, tree_of p.1)) a.value.keywords.items))
call-tree a = search (rules, the_lemmas)

op-tree : (a0 : Word) (a1 : Vec Expr) → tree_of (expr.Op a0 a1) ≡ TOp a0 (trees_of (map tree_of a1.items))
op-tree a0 a1 = search (rules, the_lemmas)

if-tree : (a0 : Box Expr) (a1 : Box Expr) (a2 : Box Expr) → tree_of (expr.If a0 a1 a2) ≡ TIf (tree_of a0.value) (tree_of a1.value) (tree_of a2.value)
if-tree a0 a1 a2 = search (rules, the_lemmas)

seq-tree : (a0 : Vec Expr) → tree_of (expr.Seq a0) ≡ TSeq (trees_of (map tree_of a0.items))
seq-tree a0 = search (rules, the_lemmas)

class-tree : (a : Box (ClassParts (String Global) Expr)) → tree_of (expr.Class a) ≡ TClass (string_bytes a.value.name) (trees_of (map tree_of a.value.bases.items)) (entries_of (map (λ p. (p.0, tree_of p.1)) a.value.keywords.items)) (entries_of (map (λ p. (p.0, tree_of p.1)) a.value.entries.items))
class-tree a = search (rules, the_lemmas)

module _ {w : Held} {e : Expr} where
  pub bind-form : {x0 : PyStrInterned} {x1 : ExprRef} (a0 : String Global) (a1 : Box Expr) → e ≡ expr.Bind a0 a1 → HasName w x0 (string_bytes a0) → HasTree w x1 (tree_of a1.value) → HasForm w (form.Bind x0 x1) (tree_of e)
  bind-form {x0} {x1} a0 a1 q h0 h1 = record {
    there = (h0.there, (h1.there, tt));
    read = λ t r. let p : TBind (t.text x0.0) (t.tree x1.0) ≡ TBind (string_bytes a0) (tree_of a1.value) = λ i. TBind (h0.read t r i) (h1.read t r i) in p ∙ sym (bind-tree a0 a1) ∙ ap tree_of (sym q);
  }

  pub tuple-form : {x0 : Vec ExprRef} (a0 : Vec Expr) → e ≡ expr.Tuple a0 → HasTrees w x0.items (map tree_of a0.items) → HasForm w (form.Tuple x0) (tree_of e)
  tuple-form {x0} a0 q h0 = record {
    there = (h0.there, tt);
    read = λ t r. let p : TTuple (trees_of (map (λ n. t.tree n.0) x0.items)) ≡ TTuple (trees_of (map tree_of a0.items)) = λ i. TTuple (trees_of (h0.read t r i)) in p ∙ sym (tuple-tree a0) ∙ ap tree_of (sym q);
  }

  pub list-form : {x0 : Vec ExprRef} (a0 : Vec Expr) → e ≡ expr.List a0 → HasTrees w x0.items (map tree_of a0.items) → HasForm w (form.List x0) (tree_of e)
  list-form {x0} a0 q h0 = record {
    there = (h0.there, tt);
    read = λ t r. let p : TList (trees_of (map (λ n. t.tree n.0) x0.items)) ≡ TList (trees_of (map tree_of a0.items)) = λ i. TList (trees_of (h0.read t r i)) in p ∙ sym (list-tree a0) ∙ ap tree_of (sym q);
  }

  pub dict-form : {x0 : Vec (ExprRef × ExprRef)} (a0 : Vec (Expr × Expr)) → e ≡ expr.Dict a0 → HasPairs w x0.items (map pair_of a0.items) → HasForm w (form.Dict x0) (tree_of e)
  dict-form {x0} a0 q h0 = record {
    there = (h0.keys, (h0.values, tt));
    read = λ t r. let p : TDict (keyed_of (map (λ p. (t.tree p.0.0, t.tree p.1.0)) x0.items)) ≡ TDict (keyed_of (map pair_of a0.items)) = λ i. TDict (keyed_of (h0.read t r i)) in p ∙ sym (dict-tree a0) ∙ ap tree_of (sym q);
  }

  func-boxed : (b : Box (FuncParts PyStrInterned ExprRef)) (a : Box (FuncParts (String Global) Expr)) → e ≡ expr.Func a → b.value.rest ≡ a.value.rest → HasName w b.value.name (string_bytes a.value.name) → HasNames w b.value.params.items (texts_of a.value.params.items) → HasTree w b.value.body (tree_of a.value.body) → HasForm w (form.Func b) (tree_of e)
  func-boxed b a q rest h0 h1 h3 = record {
    there = (h0.there, (h1.there, (h3.there, tt)));
    read = λ t r. let p : TFunc (t.text b.value.name.0) (map (λ x. t.text x.0) b.value.params.items) b.value.rest (t.tree b.value.body.0) ≡ TFunc (string_bytes a.value.name) (texts_of a.value.params.items) a.value.rest (tree_of a.value.body) = λ i. TFunc (h0.read t r i) (h1.read t r i) (rest i) (h3.read t r i) in p ∙ sym (func-tree a) ∙ ap tree_of (sym q);
  }

  pub func-form : {u0 u1 u2 : FuncParts (String Global) Expr} (b : Box (FuncParts PyStrInterned ExprRef)) (v : FuncParts PyStrInterned ExprRef) (a : Box (FuncParts (String Global) Expr)) → b.value ≡ v → e ≡ expr.Func a
      → u0 ≡ a.value → u1 ≡ a.value → u2 ≡ a.value → v.rest ≡ a.value.rest
      → HasName w v.name (string_bytes u0.name) → HasNames w v.params.items (texts_of u1.params.items) → HasTree w v.body (tree_of u2.body) → HasForm w (form.Func b) (tree_of e)
  func-form b v a same q r0 r1 r2 rest h0 h1 h3 =
      let back = sym same in
      func-boxed b a q (subst (λ (v : FuncParts PyStrInterned ExprRef). v.rest ≡ a.value.rest) back rest)
      (subst (λ (v : FuncParts PyStrInterned ExprRef). HasName w v.name (string_bytes a.value.name)) back (subst (λ (u : FuncParts (String Global) Expr). HasName w v.name (string_bytes u.name)) r0 h0))
      (subst (λ (v : FuncParts PyStrInterned ExprRef). HasNames w v.params.items (texts_of a.value.params.items)) back (subst (λ (u : FuncParts (String Global) Expr). HasNames w v.params.items (texts_of u.params.items)) r1 h1))
      (subst (λ (v : FuncParts PyStrInterned ExprRef). HasTree w v.body (tree_of a.value.body)) back (subst (λ (u : FuncParts (String Global) Expr). HasTree w v.body (tree_of u.body)) r2 h3))

  pub attr-form : {x0 : ExprRef} {x1 : PyStrInterned} (a0 : Box Expr) (a1 : String Global) → e ≡ expr.Attr a0 a1 → HasTree w x0 (tree_of a0.value) → HasName w x1 (string_bytes a1) → HasForm w (form.Attr x0 x1) (tree_of e)
  attr-form {x0} {x1} a0 a1 q h0 h1 = record {
    there = (h0.there, (h1.there, tt));
    read = λ t r. let p : TAttr (t.tree x0.0) (t.text x1.0) ≡ TAttr (tree_of a0.value) (string_bytes a1) = λ i. TAttr (h0.read t r i) (h1.read t r i) in p ∙ sym (attr-tree a0 a1) ∙ ap tree_of (sym q);
  }

  set_attr-boxed : {x0 : ExprRef} {x1 : PyStrInterned} {x2 : ExprRef} (a : Box (SetAttrParts Expr)) → e ≡ expr.SetAttr a → HasTree w x0 (tree_of a.value.object) → HasName w x1 (string_bytes a.value.name) → HasTree w x2 (tree_of a.value.value) → HasForm w (form.SetAttr x0 x1 x2) (tree_of e)
  set_attr-boxed {x0} {x1} {x2} a q h0 h1 h2 = record {
    there = (h0.there, (h1.there, (h2.there, tt)));
    read = λ t r. let p : TSetAttr (t.tree x0.0) (t.text x1.0) (t.tree x2.0) ≡ TSetAttr (tree_of a.value.object) (string_bytes a.value.name) (tree_of a.value.value) = λ i. TSetAttr (h0.read t r i) (h1.read t r i) (h2.read t r i) in p ∙ sym (set_attr-tree a) ∙ ap tree_of (sym q);
  }

  pub set_attr-form : {u0 u1 u2 : SetAttrParts Expr} (x0 : ExprRef) (x1 : PyStrInterned) (x2 : ExprRef) (a : Box (SetAttrParts Expr)) → e ≡ expr.SetAttr a → u0 ≡ a.value → u1 ≡ a.value → u2 ≡ a.value
      → HasTree w x0 (tree_of u0.object) → HasName w x1 (string_bytes u1.name) → HasTree w x2 (tree_of u2.value) → HasForm w (form.SetAttr x0 x1 x2) (tree_of e)
  set_attr-form x0 x1 x2 a q r0 r1 r2 h0 h1 h2 =
      set_attr-boxed a q (subst (λ (u : SetAttrParts Expr). HasTree w x0 (tree_of u.object)) r0 h0) (subst (λ (u : SetAttrParts Expr). HasName w x1 (string_bytes u.name)) r1 h1) (subst (λ (u : SetAttrParts Expr). HasTree w x2 (tree_of u.value)) r2 h2)

  pub del_attr-form : {x0 : ExprRef} {x1 : PyStrInterned} (a0 : Box Expr) (a1 : String Global) → e ≡ expr.DelAttr a0 a1 → HasTree w x0 (tree_of a0.value) → HasName w x1 (string_bytes a1) → HasForm w (form.DelAttr x0 x1) (tree_of e)
  del_attr-form {x0} {x1} a0 a1 q h0 h1 = record {
    there = (h0.there, (h1.there, tt));
    read = λ t r. let p : TDelAttr (t.tree x0.0) (t.text x1.0) ≡ TDelAttr (tree_of a0.value) (string_bytes a1) = λ i. TDelAttr (h0.read t r i) (h1.read t r i) in p ∙ sym (del_attr-tree a0 a1) ∙ ap tree_of (sym q);
  }

  call-boxed : (b : Box (CallParts PyStrInterned ExprRef)) (a : Box (CallParts (String Global) Expr)) → e ≡ expr.Call a → HasTree w b.value.function (tree_of a.value.function) → HasTrees w b.value.args.items (map tree_of a.value.args.items) → HasEntries w b.value.keywords.items (map part_of a.value.keywords.items) → HasForm w (form.Call b) (tree_of e)
  call-boxed b a q h0 h1 h2 = record {
    there = (h0.there, (h1.there, (h2.names, (h2.values, tt))));
    read = λ t r. let p : TCall (t.tree b.value.function.0) (trees_of (map (λ n. t.tree n.0) b.value.args.items)) (entry_list (map (λ e. (t.text e.0.0, t.tree e.1.0)) b.value.keywords.items)) ≡ TCall (tree_of a.value.function) (trees_of (map tree_of a.value.args.items)) (entries_of (map (λ p. (p.0, tree_of p.1)) a.value.keywords.items)) = λ i. TCall (h0.read t r i) (trees_of (h1.read t r i)) ((ap entry_list (h2.read t r) ∙ entries_parts a.value.keywords.items) i) in p ∙ sym (call-tree a) ∙ ap tree_of (sym q);
  }

  -- what was read of the parts, each through the box, is what they are
  pub call-form : {u0 u1 u2 : CallParts (String Global) Expr} (b : Box (CallParts PyStrInterned ExprRef)) (v : CallParts PyStrInterned ExprRef) (a : Box (CallParts (String Global) Expr)) → b.value ≡ v → e ≡ expr.Call a
      → u0 ≡ a.value → u1 ≡ a.value → u2 ≡ a.value
      → HasTree w v.function (tree_of u0.function) → HasTrees w v.args.items (map tree_of u1.args.items) → HasEntries w v.keywords.items (map part_of u2.keywords.items) → HasForm w (form.Call b) (tree_of e)
  call-form b v a same q r0 r1 r2 h0 h1 h2 =
      let back = sym same in
      call-boxed b a q
      (subst (λ (v : CallParts PyStrInterned ExprRef). HasTree w v.function (tree_of a.value.function)) back (subst (λ (u : CallParts (String Global) Expr). HasTree w v.function (tree_of u.function)) r0 h0))
      (subst (λ (v : CallParts PyStrInterned ExprRef). HasTrees w v.args.items (map tree_of a.value.args.items)) back (subst (λ (u : CallParts (String Global) Expr). HasTrees w v.args.items (map tree_of u.args.items)) r1 h1))
      (subst (λ (v : CallParts PyStrInterned ExprRef). HasEntries w v.keywords.items (map part_of a.value.keywords.items)) back (subst (λ (u : CallParts (String Global) Expr). HasEntries w v.keywords.items (map part_of u.keywords.items)) r2 h2))

  pub op-form : {x1 : Vec ExprRef} (a0 : Word) (a1 : Vec Expr) → e ≡ expr.Op a0 a1 → HasTrees w x1.items (map tree_of a1.items) → HasForm w (form.Op a0 x1) (tree_of e)
  op-form {x1} a0 a1 q h1 = record {
    there = (h1.there, tt);
    read = λ t r. let p : TOp a0 (trees_of (map (λ n. t.tree n.0) x1.items)) ≡ TOp a0 (trees_of (map tree_of a1.items)) = λ i. TOp a0 (trees_of (h1.read t r i)) in p ∙ sym (op-tree a0 a1) ∙ ap tree_of (sym q);
  }

  pub if-form : {x0 : ExprRef} {x1 : ExprRef} {x2 : ExprRef} (a0 : Box Expr) (a1 : Box Expr) (a2 : Box Expr) → e ≡ expr.If a0 a1 a2 → HasTree w x0 (tree_of a0.value) → HasTree w x1 (tree_of a1.value) → HasTree w x2 (tree_of a2.value) → HasForm w (form.If x0 x1 x2) (tree_of e)
  if-form {x0} {x1} {x2} a0 a1 a2 q h0 h1 h2 = record {
    there = (h0.there, (h1.there, (h2.there, tt)));
    read = λ t r. let p : TIf (t.tree x0.0) (t.tree x1.0) (t.tree x2.0) ≡ TIf (tree_of a0.value) (tree_of a1.value) (tree_of a2.value) = λ i. TIf (h0.read t r i) (h1.read t r i) (h2.read t r i) in p ∙ sym (if-tree a0 a1 a2) ∙ ap tree_of (sym q);
  }

  pub seq-form : {x0 : Vec ExprRef} (a0 : Vec Expr) → e ≡ expr.Seq a0 → HasTrees w x0.items (map tree_of a0.items) → HasForm w (form.Seq x0) (tree_of e)
  seq-form {x0} a0 q h0 = record {
    there = (h0.there, tt);
    read = λ t r. let p : TSeq (trees_of (map (λ n. t.tree n.0) x0.items)) ≡ TSeq (trees_of (map tree_of a0.items)) = λ i. TSeq (trees_of (h0.read t r i)) in p ∙ sym (seq-tree a0) ∙ ap tree_of (sym q);
  }

  class-boxed : (b : Box (ClassParts PyStrInterned ExprRef)) (a : Box (ClassParts (String Global) Expr)) → e ≡ expr.Class a → HasName w b.value.name (string_bytes a.value.name) → HasTrees w b.value.bases.items (map tree_of a.value.bases.items) → HasEntries w b.value.keywords.items (map part_of a.value.keywords.items) → HasEntries w b.value.entries.items (map part_of a.value.entries.items) → HasForm w (form.Class b) (tree_of e)
  class-boxed b a q h0 h1 h2 h3 = record {
    there = (h0.there, (h1.there, (h2.names, (h2.values, (h3.names, (h3.values, tt))))));
    read = λ t r. let p : TClass (t.text b.value.name.0) (trees_of (map (λ n. t.tree n.0) b.value.bases.items)) (entry_list (map (λ e. (t.text e.0.0, t.tree e.1.0)) b.value.keywords.items)) (entry_list (map (λ e. (t.text e.0.0, t.tree e.1.0)) b.value.entries.items)) ≡ TClass (string_bytes a.value.name) (trees_of (map tree_of a.value.bases.items)) (entries_of (map (λ p. (p.0, tree_of p.1)) a.value.keywords.items)) (entries_of (map (λ p. (p.0, tree_of p.1)) a.value.entries.items)) = λ i. TClass (h0.read t r i) (trees_of (h1.read t r i)) ((ap entry_list (h2.read t r) ∙ entries_parts a.value.keywords.items) i) ((ap entry_list (h3.read t r) ∙ entries_parts a.value.entries.items) i) in p ∙ sym (class-tree a) ∙ ap tree_of (sym q);
  }

  pub class-form : {u0 u1 u2 u3 : ClassParts (String Global) Expr} (b : Box (ClassParts PyStrInterned ExprRef)) (v : ClassParts PyStrInterned ExprRef) (a : Box (ClassParts (String Global) Expr)) → b.value ≡ v → e ≡ expr.Class a
      → u0 ≡ a.value → u1 ≡ a.value → u2 ≡ a.value → u3 ≡ a.value
      → HasName w v.name (string_bytes u0.name) → HasTrees w v.bases.items (map tree_of u1.bases.items) → HasEntries w v.keywords.items (map part_of u2.keywords.items) → HasEntries w v.entries.items (map part_of u3.entries.items) → HasForm w (form.Class b) (tree_of e)
  class-form b v a same q r0 r1 r2 r3 h0 h1 h2 h3 =
      let back = sym same in
      class-boxed b a q
      (subst (λ (v : ClassParts PyStrInterned ExprRef). HasName w v.name (string_bytes a.value.name)) back (subst (λ (u : ClassParts (String Global) Expr). HasName w v.name (string_bytes u.name)) r0 h0))
      (subst (λ (v : ClassParts PyStrInterned ExprRef). HasTrees w v.bases.items (map tree_of a.value.bases.items)) back (subst (λ (u : ClassParts (String Global) Expr). HasTrees w v.bases.items (map tree_of u.bases.items)) r1 h1))
      (subst (λ (v : ClassParts PyStrInterned ExprRef). HasEntries w v.keywords.items (map part_of a.value.keywords.items)) back (subst (λ (u : ClassParts (String Global) Expr). HasEntries w v.keywords.items (map part_of u.keywords.items)) r2 h2))
      (subst (λ (v : ClassParts PyStrInterned ExprRef). HasEntries w v.entries.items (map part_of a.value.entries.items)) back (subst (λ (u : ClassParts (String Global) Expr). HasEntries w v.entries.items (map part_of u.entries.items)) r3 h3))

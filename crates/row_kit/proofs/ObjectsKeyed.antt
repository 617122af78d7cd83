-- New texts for names: no two of them are alike.
use Rattle.row_kit.proofs.Below.{ℕ, zero, suc, Bool, true, false, List, [], length, drop, map, Option, Some, None, inl, inr, refl, sym, ap, ◌∙◌, subst, length-append, true≢false, slice_get, is_some, option_map, option_and_then, IsDistinct, AllByRecursion, eqb-true, eq-eqb, PyObjectRef, PyStrInterned, is_same_name, AreNamesDistinct, keys_of, Text, Datum, AText, ADict, no_members, Node, PlainWorld, ref, is_text, datum_at, has_dict, push_node, with_node, next_node, the_dict, the_str, TextKey, key_of, key_at, Held, Reading, bindings, plain, AllHold, AreNodes, Grows, Holds, IsName, IsNode, KeysDiffer, of_binding, of_each, each-get, get-end, more-nodes, map-push, keyed, keys-stored, Entries}
use Rattle.std.proofs.Common.{◌≡◌, ◌+◌, ◌⊎◌, ◌∷◌, ◌++◌}
use Rattle.std.specs.Prelude.{cond}

-- keys and values are objects
abbrev pub ArePairs : Held → Entries → Type 0
ArePairs w ps = Holds w (AreNodes (map (λ p. p.0) ps)) × Holds w (AreNodes (map (λ p. p.1) ps))

-- each key is the text of the name at its place
abbrev pub AreSpelled : Reading → PlainWorld → Entries → List (PyStrInterned × PyObjectRef) → Type 0
AreSpelled t w ps es =
    (j : ℕ) (p : PyObjectRef × PyObjectRef) → slice_get ps j ≡ Some p → (e : PyStrInterned × PyObjectRef) × (slice_get es j ≡ Some e) × (datum_at w p.0 ≡ Some (AText (t.text e.0.0)))

abbrev held : Option Node → Option Datum
held o = option_map (λ (n : Node). n.datum) o

get-cases : {A : Type 0} (xs : List A) (y : A) (i : ℕ) (z : A) → slice_get (xs ++ y ∷ []) i ≡ Some z → (slice_get xs i ≡ Some z) ⊎ ((i ≡ length xs) × (y ≡ z))
get-cases [] y zero z e = inr (refl, cc)
get-cases [] y (suc i) z e = cc
get-cases (x ∷ xs) y zero z e = inl e
get-cases (x ∷ xs) y (suc i) z e = elim (get-cases xs y i z e) [ inl a ↦ inl a | inr b ↦ inr (ap suc b.0, b.1) ]

datum-push : (ns : List Node) (x : Node) (n : ℕ) (d : Datum) → held (slice_get ns n) ≡ Some d → held (slice_get (ns ++ x ∷ []) n) ≡ Some d
datum-push [] x n d e = cc
datum-push (y ∷ ns) x zero d e = e
datum-push (y ∷ ns) x (suc n) d e = datum-push ns x n d e

-- what a node holds stays, and a new one holds what it was made with
module _ (w : PlainWorld) (c : ℕ) (d : Datum) where
  abbrev the_dict_node : Node
  the_dict_node = record { class = the_dict; dict = None; members = no_members; datum = ADict [] }

  abbrev node_with : Option PyObjectRef → Node
  node_with dict = record { class = c; dict = dict; members = no_members; datum = d }

  datum-stays : (e : Datum) (r : PyObjectRef) → datum_at w r ≡ Some e → datum_at (with_node w c d) r ≡ Some e
  datum-stays e r h = go (has_dict w c)
    where
      go : (b : Bool) → datum_at (cond b (push_node (push_node w the_dict None (ADict [])) c (Some (ref (length w.nodes))) d) (push_node w c None d)) r ≡ Some e
      go true = datum-push (w.nodes ++ the_dict_node ∷ []) (node_with (Some (ref (length w.nodes)))) r.0 e (datum-push w.nodes the_dict_node r.0 e h)
      go false = datum-push w.nodes (node_with None) r.0 e h

  datum-new : datum_at (with_node w c d) (next_node w c) ≡ Some d
  datum-new = go (has_dict w c)
    where
      go : (b : Bool) → datum_at (cond b (push_node (push_node w the_dict None (ADict [])) c (Some (ref (length w.nodes))) d) (push_node w c None d)) (ref (cond b (length w.nodes + 1) (length w.nodes))) ≡ Some d
      go true =
          let x = node_with (Some (ref (length w.nodes))) in
          let size : length (w.nodes ++ the_dict_node ∷ []) ≡ length w.nodes + 1 = length-append w.nodes (the_dict_node ∷ []) in
          subst (λ n. held (slice_get ((w.nodes ++ the_dict_node ∷ []) ++ x ∷ []) n) ≡ Some d) size (ap held (get-end (w.nodes ++ the_dict_node ∷ []) x))
      go false = ap held (get-end w.nodes (node_with None))

abbrev HeldEntries : Type 0
HeldEntries = List (PyStrInterned × PyObjectRef)

pub no-keys-yet : (t : Reading) (w : PlainWorld) (es : HeldEntries) → AreSpelled t w [] es
no-keys-yet t w es = λ j p e. cc

-- one text more
pub spelled-next : (t : Reading) (w new : PlainWorld) (ps : Entries) (es : HeldEntries) (i : ℕ) (e : PyStrInterned × PyObjectRef) (key value : PyObjectRef) → length ps ≡ i → slice_get es i ≡ Some e → new ≡ with_node w the_str (AText (t.text e.0.0)) → key ≡ next_node w the_str → AreSpelled t w ps es → AreSpelled t new (ps ++ (key, value) ∷ []) es
spelled-next t w new ps es i e key value n h made number old = λ j p q.
    elim (get-cases ps (key, value) j p q) [
      | inl a ↦ let x = old j p a in (x.0, x.1, ap (λ u. datum_at u p.0) made ∙ datum-stays w the_str (AText (t.text e.0.0)) (AText (t.text x.0.0.0)) p.0 x.2)
      | inr b ↦
          let at : slice_get es j ≡ Some e = ap (slice_get es) (b.0 ∙ n) ∙ h in
          let here : datum_at new p.0 ≡ Some (AText (t.text e.0.0)) = ap (datum_at new) (sym (ap (λ (x : PyObjectRef × PyObjectRef). x.0) b.1) ∙ number) ∙ ap (λ u. datum_at u (next_node w the_str)) made ∙ datum-new w the_str (AText (t.text e.0.0)) in
          (e, at, here)
    ]

-- names at two places are two names
apart : (es : HeldEntries) (x : PyStrInterned) → AllByRecursion (λ y. is_same_name x y ≡ false) (keys_of es) → (j : ℕ) (b : PyStrInterned × PyObjectRef) → slice_get es j ≡ Some b → x.0 ≡ b.0.0 → ⊥
apart [] x h j b e q = cc
apart (y ∷ es) x h zero b e q =
    let same : y ≡ b = cc in
    true≢false (sym (eq-eqb x.0 y.0.0 (q ∙ ap (λ (z : PyStrInterned × PyObjectRef). z.0.0) (sym same))) ∙ h.0)
apart (y ∷ es) x h (suc j) b e q = apart es x h.1 j b e q

distinct-at : (es : HeldEntries) → AreNamesDistinct es → (i j : ℕ) (a b : PyStrInterned × PyObjectRef) → slice_get es i ≡ Some a → slice_get es j ≡ Some b → a.0.0 ≡ b.0.0 → i ≡ j
unfolding IsDistinct
distinct-at [] h i j a b e f q = cc
distinct-at (x ∷ es) h zero zero a b e f q = refl
distinct-at (x ∷ es) h zero (suc j) a b e f q =
    let here : x ≡ a = cc in
    absurd (apart es x.0 h.0 j b f (ap (λ (y : PyStrInterned × PyObjectRef). y.0.0) here ∙ q))
distinct-at (x ∷ es) h (suc i) zero a b e f q =
    let here : x ≡ b = cc in
    absurd (apart es x.0 h.0 i a e (ap (λ (y : PyStrInterned × PyObjectRef). y.0.0) here ∙ sym q))
distinct-at (x ∷ es) h (suc i) (suc j) a b e f q = ap suc (distinct-at es h.1 i j a b e f q)

-- a pair by its key
paired : (ps : Entries) (i : ℕ) (r : PyObjectRef) → slice_get (map (λ p. p.0) ps) i ≡ Some r → (p : PyObjectRef × PyObjectRef) × (slice_get ps i ≡ Some p) × (p.0 ≡ r)
paired [] i r e = cc
paired (p ∷ ps) zero r e = (p, refl, cc)
paired (p ∷ ps) (suc i) r e = paired ps i r e

text-same : (x y : Text) → Some (TextKey x) ≡ Some (TextKey y) → x ≡ y
text-same x y e = cc

pub keys-differ : (t : Reading) (w : Held) (ps : Entries) (es : HeldEntries) → AreSpelled t (plain t w) ps es → AreNamesDistinct es → Holds w (KeysDiffer (map (λ p. p.0) ps))
keys-differ t w ps es h d = keys-stored t w (map (λ p. p.0) ps) (record {
  known = λ i r e. let k = key i r e in ap is_some k.2;
  apart = λ i j r s e f q.
      let a = key i r e in
      let b = key j s f in
      let texts = text-same (t.text a.0.0.0) (t.text b.0.0.0) (sym a.2 ∙ q ∙ b.2) in
      let names : a.0.0.0 ≡ b.0.0.0 = eqb-true a.0.0.0 b.0.0.0 (sym (t.same a.0.0.0 b.0.0.0) ∙ ap (is_text (t.text a.0.0.0)) (sym texts) ∙ t.same a.0.0.0 a.0.0.0 ∙ eq-eqb a.0.0.0 a.0.0.0 refl) in
      distinct-at es d i j a.0 b.0 a.1 b.1 names;
})
  where
    key : (i : ℕ) (r : PyObjectRef) → slice_get (map (λ p. p.0) ps) i ≡ Some r → (e : PyStrInterned × PyObjectRef) × (slice_get es i ≡ Some e) × (key_at (plain t w) r ≡ Some (TextKey (t.text e.0.0)))
    key i r e =
        let p = paired ps i r e in
        let x = h i p.0 p.1 in
        (x.0, x.1, ap (λ r. key_at (plain t w) r) (sym p.2) ∙ ap (option_and_then key_of) x.2)

-- what is said of the entry at a place
pub entry-holds : (w : Held) (es : List (PyStrInterned × PyObjectRef)) (i : ℕ) (e : PyStrInterned × PyObjectRef) → AllHold w (of_each of_binding es) → slice_get es i ≡ Some e → Holds w (IsName e.0) × Holds w (IsNode e.1)
entry-holds w es i e h k = let b = each-get w of_binding es i e k h in (b.0, b.1.0)

pub drop-got : {A : Type 0} (xs : List A) (i : ℕ) (x : A) → slice_get xs i ≡ Some x → drop i xs ≡ x ∷ drop (suc i) xs
drop-got [] i x e = cc
drop-got (y ∷ xs) zero x e = let same : y ≡ x = cc in ap (λ z. z ∷ xs) same
drop-got (y ∷ xs) (suc i) x e = drop-got xs i x e

-- one text more
pub keyed-next : (t : Reading) (u new : PlainWorld) (ps : Entries) (es : List (PyStrInterned × PyObjectRef)) (i : ℕ) (e : PyStrInterned × PyObjectRef) (key : PyObjectRef) → drop i es ≡ e ∷ drop (suc i) es → new ≡ with_node u the_str (AText (t.text e.0.0)) → key ≡ next_node u the_str → keyed u ps (bindings t (drop i es)) ≡ keyed new (ps ++ (key, e.1) ∷ []) (bindings t (drop (suc i) es))
keyed-next t u new ps es i e key d w k =
    ap (λ es. keyed u ps (bindings t es)) d
    ∙ ap (λ n. keyed n (ps ++ (next_node u the_str, e.1) ∷ []) (bindings t (drop (suc i) es))) (sym w)
    ∙ ap (λ r. keyed new (ps ++ (r, e.1) ∷ []) (bindings t (drop (suc i) es))) (sym k)

pub pairs-grow : (old new : Held) (ps : Entries) → Grows old new → ArePairs old ps → ArePairs new ps
pairs-grow old new ps g h = (g.still _ h.0, g.still _ h.1)

pub pairs-push : (w : Held) (ps : Entries) (key value : PyObjectRef) → ArePairs w ps → Holds w (IsNode key) → Holds w (IsNode value) → ArePairs w (ps ++ (key, value) ∷ [])
pairs-push w ps key value h k v = (
  subst (λ rs. Holds w (AreNodes rs)) (sym (map-push (λ p. p.0) ps (key, value))) (more-nodes w (map (λ p. p.0) ps) key h.0 k),
  subst (λ rs. Holds w (AreNodes rs)) (sym (map-push (λ p. p.1) ps (key, value))) (more-nodes w (map (λ p. p.1) ps) value h.1 v),
)

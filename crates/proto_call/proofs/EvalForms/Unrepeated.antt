-- Keywords: names with values, none of which stands twice.
use Rattle.proto_call.proofs.Below.{suc, Bool, true, false, cond, List, [], length, map, filter, not, Option, Some, None, refl, sym, ap, ◌∙◌, subst, arith, length-append, length-map, Metaclass, PyObjectRef, PyStrInterned, value_of, with_value, is_same_name, known_text, Text, filled, Bindings, is_text, Held, Reading, bindings, spelled, AllHold, of_binding, of_each, value-read, unrepeated, given_metaclass, other_keywords}
use Rattle.std.proofs.Common.{◌≡◌, ◌+◌, ◌<◌, ◌≤◌, ◌∷◌, ◌++◌, is_some}

abbrev Bound : Type 0
Bound = List (PyStrInterned × PyObjectRef)

-- the value of a name
abbrev of_name : Bindings → Text → Option PyObjectRef
of_name kw x = value_of (λ y. is_text y x) kw

-- a name without a value goes last
goes-last : (kw : Bindings) (x : Text) (v : PyObjectRef) → of_name kw x ≡ None → with_value is_text kw x v ≡ kw ++ (x, v) ∷ []
goes-last [] x v h = refl
goes-last (b ∷ kw) x v h = go (is_text b.0 x) h (goes-last kw x v)
  where
    go : (q : Bool) → cond q (Some b.1) (of_name kw x) ≡ None → (of_name kw x ≡ None → with_value is_text kw x v ≡ kw ++ (x, v) ∷ [])
        → cond q ((b.0, v) ∷ kw) (b ∷ with_value is_text kw x v) ≡ b ∷ (kw ++ (x, v) ∷ [])
    go true e rest = cc
    go false e rest = ap (λ l. b ∷ l) (rest e)

-- a name that has one keeps its place
keeps-place : (kw : Bindings) (x : Text) (v r : PyObjectRef) → of_name kw x ≡ Some r → length (with_value is_text kw x v) ≡ length kw
keeps-place [] x v r h = cc
keeps-place (b ∷ kw) x v r h = go (is_text b.0 x) h (keeps-place kw x v r)
  where
    go : (q : Bool) → cond q (Some b.1) (of_name kw x) ≡ Some r → (of_name kw x ≡ Some r → length (with_value is_text kw x v) ≡ length kw)
        → length (cond q ((b.0, v) ∷ kw) (b ∷ with_value is_text kw x v)) ≡ suc (length kw)
    go true e rest = refl
    go false e rest = ap suc (rest e)

-- at most so many names are filled
at-most-one : (kw : Bindings) (x : Text) (v : PyObjectRef) → length (with_value is_text kw x v) ≤ length kw + 1
at-most-one kw x v = go (of_name kw x) refl
  where
    go : (o : Option PyObjectRef) → of_name kw x ≡ o → length (with_value is_text kw x v) ≤ length kw + 1
    go None e = let here = ap length (goes-last kw x v e) ∙ length-append kw ((x, v) ∷ []) in omega (arith, here)
    go (Some r) e = let here = keeps-place kw x v r e in omega (arith, here)

at-most : (kw : Bindings) (xs : List Text) (vs : List PyObjectRef) → length (filled kw xs vs) ≤ length kw + length xs
at-most kw [] vs = omega arith
at-most kw (x ∷ xs) [] = omega arith
at-most kw (x ∷ xs) (v ∷ vs) =
    let rest = at-most (with_value is_text kw x v) xs vs in
    let one = at-most-one kw x v in
    omega (arith, rest, one)

-- fewer are filled where a name stands twice
repeated-by : (kw : Bindings) (xs : List Text) (vs : List PyObjectRef) → length xs ≤ length vs → length (filled kw xs vs) < length kw + length xs → unrepeated kw xs vs ≡ None
repeated-by kw [] vs l h = absurd (omega (arith, h))
repeated-by kw (x ∷ xs) [] l h = absurd (omega (arith, l))
repeated-by kw (x ∷ xs) (v ∷ vs) l h = go (of_name kw x) refl (repeated-by (kw ++ (x, v) ∷ []) xs vs (omega (arith, l)))
  where
    go : (o : Option PyObjectRef) → of_name kw x ≡ o → (length (filled (kw ++ (x, v) ∷ []) xs vs) < length (kw ++ (x, v) ∷ []) + length xs → unrepeated (kw ++ (x, v) ∷ []) xs vs ≡ None)
        → cond (is_some (of_name kw x)) None (unrepeated (kw ++ (x, v) ∷ []) xs vs) ≡ None
    go (Some r) e rest = ap (λ o. cond (is_some o) None (unrepeated (kw ++ (x, v) ∷ []) xs vs)) e
    go None e rest =
        let long = length-append kw ((x, v) ∷ []) in
        let fewer : length (filled (kw ++ (x, v) ∷ []) xs vs) < length kw + suc (length xs) = subst (λ k. length (filled k xs vs) < length kw + suc (length xs)) (goes-last kw x v e) h in
        ap (λ o. cond (is_some o) None (unrepeated (kw ++ (x, v) ∷ []) xs vs)) e
        ∙ rest (omega (arith, long, fewer))

single-by : (kw : Bindings) (xs : List Text) (vs : List PyObjectRef) → length xs ≤ length vs → length kw + length xs ≤ length (filled kw xs vs) → unrepeated kw xs vs ≡ Some (filled kw xs vs)
single-by kw [] vs l h = refl
single-by kw (x ∷ xs) [] l h = absurd (omega (arith, l))
single-by kw (x ∷ xs) (v ∷ vs) l h = go (of_name kw x) refl (single-by (kw ++ (x, v) ∷ []) xs vs (omega (arith, l)))
  where
    go : (o : Option PyObjectRef) → of_name kw x ≡ o → (length (kw ++ (x, v) ∷ []) + length xs ≤ length (filled (kw ++ (x, v) ∷ []) xs vs) → unrepeated (kw ++ (x, v) ∷ []) xs vs ≡ Some (filled (kw ++ (x, v) ∷ []) xs vs))
        → cond (is_some (of_name kw x)) None (unrepeated (kw ++ (x, v) ∷ []) xs vs) ≡ Some (filled (with_value is_text kw x v) xs vs)
    go (Some r) e rest =
        let same = keeps-place kw x v r e in
        let most = at-most (with_value is_text kw x v) xs vs in
        absurd (omega (arith, same, most, h))
    go None e rest =
        let last = goes-last kw x v e in
        let long = length-append kw ((x, v) ∷ []) in
        let all : length kw + suc (length xs) ≤ length (filled (kw ++ (x, v) ∷ []) xs vs) = subst (λ k. length kw + suc (length xs) ≤ length (filled k xs vs)) last h in
        ap (λ o. cond (is_some o) None (unrepeated (kw ++ (x, v) ∷ []) xs vs)) e
        ∙ rest (omega (arith, long, all))
        ∙ ap (λ k. Some (filled k xs vs)) (sym last)

-- the same of keywords of the code
module _ (t : Reading) (names : List PyStrInterned) (vs : List PyObjectRef) (kw : Bound) (is : bindings t kw ≡ filled [] (map (spelled t) names) vs) where
  long : length (filled [] (map (spelled t) names) vs) ≡ length kw
  long = ap length (sym is) ∙ length-map kw (λ b. (spelled t b.0, b.1))

  pub are-repeated : length names ≤ length vs → length kw < length names → unrepeated [] (map (spelled t) names) vs ≡ None
  are-repeated l h =
      let texts = length-map names (spelled t) in
      repeated-by [] (map (spelled t) names) vs (omega (arith, l, texts)) (omega (arith, h, texts, long))

  pub are-single : length names ≤ length vs → length names ≤ length kw → unrepeated [] (map (spelled t) names) vs ≡ Some (bindings t kw)
  are-single l h =
      let texts = length-map names (spelled t) in
      single-by [] (map (spelled t) names) vs (omega (arith, l, texts)) (omega (arith, h, texts, long)) ∙ ap Some (sym is)

-- the metaclass among keywords
pub metaclass-read : (t : Reading) (kw : Bound) (key : PyStrInterned) → t.text key.0 ≡ known_text Metaclass → given_metaclass (bindings t kw) ≡ value_of (λ k. is_same_name k key) kw
metaclass-read t kw key e = ap (λ x. value_of (λ y. is_text y x) (bindings t kw)) (sym e) ∙ value-read t kw key

-- all others
pub others-read : (t : Reading) (kw : Bound) (key : PyStrInterned) → t.text key.0 ≡ known_text Metaclass → bindings t (filter (λ k. not (is_same_name k.0 key)) kw) ≡ other_keywords (bindings t kw)
others-read t [] key e = refl
others-read t (k ∷ kw) key e =
    split (is_same_name k.0 key) (is_text (t.text k.0.0) (known_text Metaclass)) (sym (t.same k.0.0 key.0) ∙ ap (is_text (t.text k.0.0)) e) (others-read t kw key e)
  where
    split : (a b : Bool) → a ≡ b → bindings t (filter (λ k. not (is_same_name k.0 key)) kw) ≡ other_keywords (bindings t kw) → bindings t (cond (not a) (k ∷ filter (λ k. not (is_same_name k.0 key)) kw) (filter (λ k. not (is_same_name k.0 key)) kw)) ≡ cond (not b) ((t.text k.0.0, k.1) ∷ other_keywords (bindings t kw)) (other_keywords (bindings t kw))
    split true true h rest = rest
    split false false h rest = ap (λ ks. (t.text k.0.0, k.1) ∷ ks) rest
    split true false h rest = cc
    split false true h rest = cc

pub others-hold : (w : Held) (kw : Bound) (key : PyStrInterned) → AllHold w (of_each of_binding kw) → AllHold w (of_each of_binding (filter (λ k. not (is_same_name k.0 key)) kw))
others-hold w [] key h = tt
others-hold w (k ∷ kw) key h = go (is_same_name k.0 key) (others-hold w kw key h.1.1)
  where
    go : (q : Bool) → AllHold w (of_each of_binding (filter (λ k. not (is_same_name k.0 key)) kw)) → AllHold w (of_each of_binding (cond (not q) (k ∷ filter (λ k. not (is_same_name k.0 key)) kw) (filter (λ k. not (is_same_name k.0 key)) kw)))
    go true rest = rest
    go false rest = (h.0, (h.1.0, rest))

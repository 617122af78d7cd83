-- Lists mapped in place, one after the other.
use Rattle.class_table.proofs.Below.{ℕ, zero, suc, false, List, [], length, get_or, set, map, take, drop, Option, Some, None, refl, sym, ap, ◌∙◌, arith, append_assoc, option_map, Vec, PyTypeRef, has, past_first, stands_past, rows, or_parts, length-append, take-append-drop, map-set, get_or-map, drop_more, map_more, set_at, get_or_at, length-map, length-take-le}
use Rattle.std.proofs.Common.{◌≡◌, ◌+◌, ◌<◌, ◌∷◌, ◌++◌}
use Rattle.class_table.specs.MroMerge.Lists.{numbers}

pub mapped-step : {A : Type 0} (f : A → A) (orig cur : List A) (i : ℕ) (d : A) → i < length orig → cur ≡ map f (take i orig) ++ drop i orig → set cur i (f (get_or cur i d)) ≡ map f (take (i + 1) orig) ++ drop (i + 1) orig
mapped-step {A = A} f orig cur i d l is =
    let front : List A = map f (take i orig) in
    let rest : List A = drop (i + 1) orig in
    let size : length front ≡ i = length-map (take i orig) f ∙ length-take-le i orig (omega arith) in
    let split : cur ≡ front ++ get_or orig i d ∷ rest = is ∙ ap (λ ys. map f (take i orig) ++ ys) (drop_more orig i d l) in
    let here : get_or cur i d ≡ get_or orig i d = ap (λ ys. get_or ys i d) split ∙ get_or_at front (get_or orig i d) rest d i size in
    ap (λ ys. set ys i (f (get_or cur i d))) split
    ∙ set_at front (get_or orig i d) rest (f (get_or cur i d)) i size
    ∙ ap (λ z. map f (take i orig) ++ f z ∷ drop (i + 1) orig) here
    ∙ sym (ap (λ ys. ys ++ drop (i + 1) orig) (map_more f orig i d l) ∙ append_assoc front (f (get_or orig i d) ∷ []) rest)

pub put_before : (line : List ℕ) (x : ℕ) (r : Option (List ℕ)) → option_map (λ xs. line ++ xs) (option_map (λ xs. x ∷ xs) r) ≡ option_map (λ xs. (line ++ x ∷ []) ++ xs) r
put_before line x None = refl
put_before line x (Some xs) = ap Some (sym (append_assoc line (x ∷ []) xs))

same-length : (f : List ℕ → List ℕ) (orig cur : List (Vec PyTypeRef)) (i : ℕ) → rows cur ≡ map f (take i (rows orig)) ++ drop i (rows orig) → length cur ≡ length orig
same-length f orig cur i is =
    sym (length-map cur (λ (w : Vec PyTypeRef). numbers w.items))
    ∙ ap length is
    ∙ length-append (map f (take i (rows orig))) (drop i (rows orig))
    ∙ ap (λ n. n + length (drop i (rows orig))) (length-map (take i (rows orig)) f)
    ∙ sym (length-append (take i (rows orig)) (drop i (rows orig)))
    ∙ ap length (take-append-drop i (rows orig))
    ∙ length-map orig (λ (w : Vec PyTypeRef). numbers w.items)

none-at : (x : ℕ) (ls : List (List ℕ)) (i : ℕ) → stands_past x ls ≡ false → has (past_first (get_or ls i [])) x ≡ false
none-at x [] i e = refl
none-at x (l ∷ ls) zero e = (or_parts _ _ e).0
none-at x (l ∷ ls) (suc i) e = none-at x ls i (or_parts _ _ e).1

-- one list written, of those that are mapped in place
pub rows-step : (f : List ℕ → List ℕ) (orig cur : List (Vec PyTypeRef)) (i : ℕ) (x v : Vec PyTypeRef) → i < length orig → rows cur ≡ map f (take i (rows orig)) ++ drop i (rows orig) → x ≡ get_or cur i x → numbers v.items ≡ f (numbers x.items) → rows (set cur i v) ≡ map f (take (i + 1) (rows orig)) ++ drop (i + 1) (rows orig)
rows-step f orig cur i x v l is at e =
    let size = same-length f orig cur i is in
    let m : i < length cur = omega (arith, size) in
    let within : i < length (rows orig) = rw (length-map orig (λ (w : Vec PyTypeRef). numbers w.items)) l in
    map-set (λ (w : Vec PyTypeRef). numbers w.items) cur i v
    ∙ ap (set (rows cur) i) (e ∙ ap (λ (w : Vec PyTypeRef). f (numbers w.items)) at ∙ ap f (sym (get_or-map (λ (w : Vec PyTypeRef). numbers w.items) cur i x [] m)))
    ∙ mapped-step f (rows orig) (rows cur) i [] within is

-- what stands past no head stands past none of a list that is still as it was
pub free-at : (x : ℕ) (f : List ℕ → List ℕ) (orig cur : List (Vec PyTypeRef)) (i : ℕ) (v : Vec PyTypeRef) → stands_past x (rows orig) ≡ false → i < length orig → rows cur ≡ map f (take i (rows orig)) ++ drop i (rows orig) → v ≡ get_or cur i v → has (past_first (numbers v.items)) x ≡ false
free-at x f orig cur i v free l is at =
    let within : i < length (rows orig) = rw (length-map orig (λ (w : Vec PyTypeRef). numbers w.items)) l in
    let size : length (map f (take i (rows orig))) ≡ i = length-map (take i (rows orig)) f ∙ length-take-le i (rows orig) (omega arith) in
    let many : length cur ≡ length orig = same-length f orig cur i is in
    let m : i < length cur = omega (arith, many) in
    let here : numbers v.items ≡ get_or (rows orig) i [] =
    ap (λ (w : Vec PyTypeRef). numbers w.items) at
    ∙ sym (get_or-map (λ (w : Vec PyTypeRef). numbers w.items) cur i v [] m)
    ∙ ap (λ ls. get_or ls i []) (is ∙ ap (λ ys. map f (take i (rows orig)) ++ ys) (drop_more (rows orig) i [] within))
    ∙ get_or_at (map f (take i (rows orig))) (get_or (rows orig) i []) (drop (i + 1) (rows orig)) [] i size in
    ap (λ l. has (past_first l) x) here ∙ none-at x (rows orig) i free

-- Lists mapped in place, one after the other.
use Rattle.order_check.proofs.Below.{ℕ, List, [], length, get_or, set, map, take, drop, sym, ap, ◌∙◌, arith, append_assoc, Vec, rows, length-append, take-append-drop, map-set, get_or-map, drop_more, map_more, set_at, get_or_at, length-map, length-take-le}
use Rattle.std.proofs.Common.{◌≡◌, ◌+◌, ◌<◌, ◌∷◌, ◌++◌}

pub mapped-step : {A : Type 0} (f : A → A) (orig cur : List A) (i : ℕ) (d : A) → i < length orig → cur ≡ map f (take i orig) ++ drop i orig → set cur i (f (get_or cur i d)) ≡ map f (take (i + 1) orig) ++ drop (i + 1) orig
mapped-step {A = A} f orig cur i d l is =
    let front : List A = map f (take i orig) in
    let rest : List A = drop (i + 1) orig in
    let size : length front ≡ i = length-map (take i orig) f ∙ length-take-le i orig (omega arith) in
    let split : cur ≡ front ++ get_or orig i d ∷ rest = is ∙ ap (λ ys. map f (take i orig) ++ ys) (drop_more orig i d l) in
    let here : get_or cur i d ≡ get_or orig i d = ap (λ ys. get_or ys i d) split ∙ get_or_at front (get_or orig i d) rest d i size in
    ap (λ ys. set ys i (f (get_or cur i d))) split
    ∙ set_at front (get_or orig i d) rest (f (get_or cur i d)) i size
    ∙ ap (λ z. map f (take i orig) ++ f z ∷ drop (i + 1) orig) here
    ∙ sym (ap (λ ys. ys ++ drop (i + 1) orig) (map_more f orig i d l) ∙ append_assoc front (f (get_or orig i d) ∷ []) rest)

-- one list written, of those that are mapped in place
pub rows-step : (f : List ℕ → List ℕ) (orig cur : List (Vec ℕ)) (i : ℕ) (x v : Vec ℕ) → i < length orig → rows cur ≡ map f (take i (rows orig)) ++ drop i (rows orig) → x ≡ get_or cur i x → v.items ≡ f x.items → rows (set cur i v) ≡ map f (take (i + 1) (rows orig)) ++ drop (i + 1) (rows orig)
rows-step f orig cur i x v l is at e =
    let size : length cur ≡ length orig =
    sym (length-map cur (λ (w : Vec ℕ). w.items))
    ∙ ap length is
    ∙ length-append (map f (take i (rows orig))) (drop i (rows orig))
    ∙ ap (λ n. n + length (drop i (rows orig))) (length-map (take i (rows orig)) f)
    ∙ sym (length-append (take i (rows orig)) (drop i (rows orig)))
    ∙ ap length (take-append-drop i (rows orig))
    ∙ length-map orig (λ (w : Vec ℕ). w.items) in
    let m : i < length cur = omega (arith, size) in
    let within : i < length (rows orig) = rw (length-map orig (λ (w : Vec ℕ). w.items)) l in
    map-set (λ (w : Vec ℕ). w.items) cur i v
    ∙ ap (set (rows cur) i) (e ∙ ap (λ (w : Vec ℕ). f w.items) at ∙ ap f (sym (get_or-map (λ (w : Vec ℕ). w.items) cur i x [] m)))
    ∙ mapped-step f (rows orig) (rows cur) i [] within is

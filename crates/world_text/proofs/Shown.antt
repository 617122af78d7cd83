-- The texts of containers.
use Rattle.world_text.proofs.Below.{ℕ, zero, suc, List, [], length, Some, refl, sym, ap, ◌∙◌, subst, arith, get_or, take, take_all, drop, map, String, string_bytes, Bool, true, cond, Option, flat_map, join_by, Global, PyObjectRef, Text, joined, dots, plain_text, datum_text, rest_text, item_texts, entry_text, tuple_text, list_text, dict_text, containers, text_within, Held, IsNode, AreNodes, Holds, ATuple, AList, ADict, PlainWorld, map-push, inside, or_dots}
use Rattle.std.proofs.Common.{◌≡◌, ◌<◌, ◌≤◌, ◌∷◌, ◌++◌}
use Rattle.std.specs.Prelude.{◌==◌}

-- texts with a separator, by what they are the texts of
pub join-read : (between : Text) (xs : List (String Global)) → join_by string_bytes between xs ≡ joined between (map string_bytes xs)
join-read between [] = refl
join-read between (x ∷ xs) = ap (λ rest. string_bytes x ++ rest) (go xs)
  where
    go : (xs : List (String Global)) → flat_map (λ y. between ++ string_bytes y) xs ≡ flat_map (λ next. between ++ next) (map string_bytes xs)
    go [] = refl
    go (y ∷ ys) = ap (λ rest. (between ++ string_bytes y) ++ rest) (go ys)

rest-there : {A : Type 0} (n : ℕ) (xs : List A) → n < length xs → rest_text (drop n xs) ≡ dots ∷ []
rest-there n [] l = absurd (omega arith)
rest-there zero (x ∷ xs) l = refl
rest-there (suc n) (x ∷ xs) l = rest-there n xs (omega arith)

pub rest-shown : {A : Type 0} (old : List (String Global)) (text : String Global) (xs : List A) → string_bytes text ≡ dots → 20 < length xs
    → map string_bytes (old ++ text ∷ []) ≡ map string_bytes old ++ rest_text (drop 20 xs)
rest-shown old text xs e l = map-push string_bytes old text ∙ ap (λ x. map string_bytes old ++ x ∷ []) e ∙ ap (λ ys. map string_bytes old ++ ys) (sym (rest-there 20 xs l))

-- each item that is shown has its text, and what is left out its dots
pub items-shown : {A : Type 0} (text : A → Text) (xs shown : List A) (i : ℕ) (old new : List Text) → shown ≡ take 20 xs → length shown ≤ i
    → old ≡ map text (take i shown) → new ≡ old ++ rest_text (drop 20 xs) → new ≡ item_texts text xs
items-shown text xs shown i old new e l h k =
    k ∙ ap (λ ys. ys ++ rest_text (drop 20 xs)) (h ∙ ap (map text) (take_all i shown l ∙ e))

get-taken : {A : Type 0} (n : ℕ) (xs : List A) (i : ℕ) (d : A) → i < length (take n xs) → (i < length xs) × (get_or (take n xs) i d ≡ get_or xs i d)
get-taken zero xs i d l = absurd (omega arith)
get-taken (suc n) [] i d l = absurd (omega arith)
get-taken (suc n) (x ∷ xs) zero d l = (omega arith, refl)
get-taken (suc n) (x ∷ xs) (suc i) d l = let h = get-taken n xs i d (omega arith) in let below : i < length xs = h.0 in (omega (arith, below), h.1)

get-mapped : {A B : Type 0} (f : A → B) (xs : List A) (i : ℕ) (d : A) → i < length xs → (i < length (map f xs)) × (get_or (map f xs) i (f d) ≡ f (get_or xs i d))
get-mapped f [] i d l = absurd (omega arith)
get-mapped f (x ∷ xs) zero d l = (omega arith, refl)
get-mapped f (x ∷ xs) (suc i) d l = let h = get-mapped f xs i d (omega arith) in let below : i < length (map f xs) = h.0 in (omega (arith, below), h.1)

-- what is shown is there
pub part-there : {A : Type 0} (w : Held) (f : A → PyObjectRef) (xs shown : List A) (i : ℕ) (d : A) → shown ≡ take 20 xs → i < length shown → Holds w (AreNodes (map f xs)) → Holds w (IsNode (f (get_or shown i d)))
unfolding Holds
part-there w f xs shown i d e l h =
    let taken = get-taken 20 xs i d (subst (λ ys. i < length ys) e l) in
    let mapped = get-mapped f xs i d taken.0 in
    let same : f (get_or shown i d) ≡ get_or (map f xs) i (f d) = ap (λ ys. f (get_or ys i d)) e ∙ ap f taken.1 ∙ sym mapped.1 in
    subst (λ r. r.0 < length w.nodes) (sym same) (h i (f d) mapped.0)

pub item-there : (w : Held) (rs shown : List PyObjectRef) (i : ℕ) (d : PyObjectRef) → shown ≡ take 20 rs → i < length shown → Holds w (AreNodes rs) → Holds w (IsNode (get_or shown i d))
item-there w rs shown i d e l h = part-there w (λ r. r) rs shown i d e l (subst (λ rs. Holds w (AreNodes rs)) (sym (same rs)) h)
  where
    same : (rs : List PyObjectRef) → map (λ r. r) rs ≡ rs
    same [] = refl
    same (r ∷ rs) = ap (λ rs. r ∷ rs) (same rs)

-- a container is shown by the texts of its items, one less deep, or by dots
module _ (w : PlainWorld) where
  pub tuple-shown : (n : ℕ) (rs : List PyObjectRef) → or_dots tuple_text (inside n (λ m. item_texts (text_within m w) rs)) ≡ (containers n w).tuple rs
  tuple-shown zero rs = refl
  tuple-shown (suc n) rs = refl

  pub list-shown : (n : ℕ) (rs : List PyObjectRef) → or_dots list_text (inside n (λ m. item_texts (text_within m w) rs)) ≡ (containers n w).list rs
  list-shown zero rs = refl
  list-shown (suc n) rs = refl

  pub dict-shown : (n : ℕ) (es : List (PyObjectRef × PyObjectRef)) → or_dots dict_text (inside n (λ m. item_texts (entry_text (text_within m w)) es)) ≡ (containers n w).dict es
  dict-shown zero es = refl
  dict-shown (suc n) es = refl

pub inside-less : {A : Type 0} (n m : ℕ) (f : ℕ → A) (x : A) → n ≡ suc m → x ≡ f m → Some x ≡ inside n f
inside-less n m f x e h = ap (λ y. Some y) h ∙ sym (ap (λ k. inside k f) e)

-- the texts of tuples, lists and dicts
module _ (w : PlainWorld) (n c : ℕ) (s : Text) (o : Option (List Text)) where
  pub tuple-text : (rs : List PyObjectRef) → (c == 7) ≡ true → s ≡ or_dots tuple_text o → o ≡ inside n (λ m. item_texts (text_within m w) rs) → s ≡ datum_text (containers n w) w c (ATuple rs)
  tuple-text rs test e h =
      e ∙ ap (or_dots tuple_text) h ∙ tuple-shown w n rs ∙ sym (ap (λ (b : Bool). cond b ((containers n w).tuple rs) (plain_text w c)) test)

  pub list-text : (rs : List PyObjectRef) → (c == 8) ≡ true → s ≡ or_dots list_text o → o ≡ inside n (λ m. item_texts (text_within m w) rs) → s ≡ datum_text (containers n w) w c (AList rs)
  list-text rs test e h =
      e ∙ ap (or_dots list_text) h ∙ list-shown w n rs ∙ sym (ap (λ (b : Bool). cond b ((containers n w).list rs) (plain_text w c)) test)

  pub dict-text : (es : List (PyObjectRef × PyObjectRef)) → (c == 9) ≡ true → s ≡ or_dots dict_text o → o ≡ inside n (λ m. item_texts (entry_text (text_within m w)) es) → s ≡ datum_text (containers n w) w c (ADict es)
  dict-text es test e h =
      e ∙ ap (or_dots dict_text) h ∙ dict-shown w n es ∙ sym (ap (λ (b : Bool). cond b ((containers n w).dict es) (plain_text w c)) test)

-- What the classes along a line have, put together one by one.
use Rattle.class_table.proofs.Below.{ℕ, Bool, List, [], map, length, get_or, take, drop, Option, Some, refl, sym, ap, subst, ◌∙◌, slice_get, AllZip, drop_more, map_more, map-append, slice_get_within, get_or_from_slice_get, Vec, PyObjectRef, PyTypeRef, with_value, Classes, class_at, with_values, attrs_of, attributes_along, rows, numbers, AreGiven}
use Rattle.std.proofs.Common.{◌≡◌, ◌+◌, ◌<◌, ◌∷◌, ◌++◌}

-- the value at a place, and then those after it
pub values-at : {K : Type 0} (same : K → K → Bool) (found attrs : List (K × PyObjectRef)) (i : ℕ) (a : K × PyObjectRef) → slice_get attrs i ≡ Some a → with_values same (with_value same found a.0 a.1) (drop (i + 1) attrs) ≡ with_values same found (drop i attrs)
values-at {K = K} same found attrs i a e =
    sym (ap (with_values same found) (drop_more attrs i a (slice_get_within attrs i a e))
    ∙ ap (λ (x : K × PyObjectRef). with_values same (with_value same found x.0 x.1) (drop (i + 1) attrs)) (get_or_from_slice_get attrs i a a e))

zip-push : {A B : Type 0} (R : A → B → Type 0) (xs : List A) (ys : List B) (x : A) (y : B) → AllZip R xs ys → R x y → AllZip R (xs ++ x ∷ []) (ys ++ y ∷ [])
zip-push R [] [] x y h r = (r, tt)
zip-push R [] (b ∷ ys) x y h r = absurd h
zip-push R (a ∷ xs) [] x y h r = absurd h
zip-push R (a ∷ xs) (b ∷ ys) x y h r = (h.0, zip-push R xs ys x y h.1 r)

-- one class more, and what is given for it
pub given-more : {T : Type 0} (gives : PyTypeRef → T → Type 0) (line : List PyTypeRef) (xs : List T) (i : ℕ) (d : PyTypeRef) (x : T) → i < length line → AreGiven gives (Some (numbers (take i line))) xs → gives (get_or line i d) x → AreGiven gives (Some (numbers (take (i + 1) line))) (xs ++ x ∷ [])
given-more {T = T} gives line xs i d x l h g =
    let R : ℕ → T → Type 0 = λ k y. gives (record { 0 = k }) y in
    let P : List ℕ → Type 0 = λ ns. AllZip R ns (xs ++ x ∷ []) in
    subst P (sym (map_more (λ (k : PyTypeRef). k.0) line i d l)) (zip-push R (numbers (take i line)) xs (get_or line i d).0 x h g)

module _ {K : Type 0} (same : K → K → Bool) (t : Classes K) where
  -- what the classes of a line add to what was found past its end
  abbrev pub along_from : List (K × PyObjectRef) → List ℕ → List (K × PyObjectRef)
  along_from found [] = found
  along_from found (c ∷ cs) = with_values same (along_from found cs) (attrs_of (class_at t c))

  pub from-nothing : (cs : List ℕ) → along_from [] cs ≡ attributes_along same t cs
  from-nothing [] = refl
  from-nothing (c ∷ cs) = ap (λ found. with_values same found (attrs_of (class_at t c))) (from-nothing cs)

  -- the last class of a line adds first
  pub from-last : (found : List (K × PyObjectRef)) (cs : List ℕ) (c : ℕ) → along_from found (cs ++ c ∷ []) ≡ along_from (with_values same found (attrs_of (class_at t c))) cs
  from-last found [] c = refl
  from-last found (d ∷ cs) c = ap (λ found. with_values same found (attrs_of (class_at t d))) (from-last found cs c)

  pub along-step : (found after : List (K × PyObjectRef)) (line rest : List PyTypeRef) (c : PyTypeRef) → line ≡ rest ++ c ∷ [] → after ≡ with_values same found (attrs_of (class_at t c.0)) → along_from after (numbers rest) ≡ along_from found (numbers line)
  along-step found after line rest c h e =
      ap (λ a. along_from a (numbers rest)) e
      ∙ sym (from-last found (numbers rest) c.0)
      ∙ ap (along_from found) (sym (map-append (λ (k : PyTypeRef). k.0) rest (c ∷ [])))
      ∙ ap (λ r. along_from found (numbers r)) (sym h)

-- one more linearisation
pub lines-more : (f : ℕ → Option (List ℕ)) (bases : List PyTypeRef) (lines : List (Vec PyTypeRef)) (line : Vec PyTypeRef) (i : ℕ) (d : PyTypeRef) → i < length bases → map Some (rows lines) ≡ map f (numbers (take i bases)) → Some (numbers line.items) ≡ f (get_or bases i d).0 → map Some (rows (lines ++ line ∷ [])) ≡ map f (numbers (take (i + 1) bases))
lines-more f bases lines line i d l h e =
    ap (map Some) (map-append (λ (v : Vec PyTypeRef). numbers v.items) lines (line ∷ []))
    ∙ map-append Some (rows lines) (numbers line.items ∷ [])
    ∙ ap (λ (zs : List (Option (List ℕ))). zs ++ Some (numbers line.items) ∷ []) h
    ∙ ap (λ z. map f (numbers (take i bases)) ++ z ∷ []) e
    ∙ sym (ap (map f) (map_more (λ (r : PyTypeRef). r.0) bases i d l) ∙ map-append f (numbers (take i bases)) ((get_or bases i d).0 ∷ []))

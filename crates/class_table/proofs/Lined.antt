-- Linearisations in one array, and classes with their linearisations.
use Rattle.class_table.proofs.Below.{ℕ, zero, suc, true, List, [], Some, Result, Ok, Err, OnOk, OnErr, inl, inr, map, length, get_or, set, take, drop, refl, sym, ap, subst, ◌∙◌, arith, slice_get, All, drop-append-le, take-append-le, drop_at, take_all, length-drop, length-append, length-set, length-map, map_push, All-head, All-tail, All-weaker, All-push, PyTypeRef, numbers, StoredClass, class_of, number_at, classes_of, cases_eq, slice_get_within, Includes, Distinct, is_ascending, AreSwapped, part_of, IsWithin, with_line, with_lines, AreLinesTo, Part, Renewed}
use Rattle.std.proofs.Common.{◌≡◌, ◌+◌, ◌<◌, ◌≤◌, ◌∷◌, ◌++◌}
use Rattle.class_table.specs.Lines.{AreLinesOf}
use Rattle.class_table.proofs.Found.{element}
use Rattle.class_table.proofs.Places.{get-set_cases}
use Rattle.class_table.proofs.Swapped.{distinct-at}
use Rattle.class_table.proofs.Trials.{read-at}
use Rattle.class_table.proofs.Descended.{Includes-at}

-- a part of an array is that of a longer one
part-stays : (xs ys : List PyTypeRef) (p : Part) → IsWithin xs p → part_of (xs ++ ys) p ≡ part_of xs p
part-stays xs ys p h =
    let within = h.within in
    let long = length-drop p.start xs in
    ap numbers (ap (take p.length) (drop-append-le p.start xs ys (omega (arith, within))) ∙ take-append-le p.length (drop p.start xs) ys (omega (arith, within, long)))

pub parts-stay : (xs ys : List PyTypeRef) (ps : List Part) → All (IsWithin xs) ps → map (part_of (xs ++ ys)) ps ≡ map (part_of xs) ps
parts-stay xs ys [] h = refl
parts-stay xs ys (p ∷ ps) h =
    let here = part-stays xs ys p (All-head (IsWithin xs) p ps h) in
    let rest = parts-stay xs ys ps (All-tail (IsWithin xs) p ps h) in
    cc (here, rest)

-- and what was added at the end is a part
pub part-added : (xs ys : List PyTypeRef) (p : Part) → p.start ≡ length xs → p.length ≡ length ys → part_of (xs ++ ys) p ≡ numbers ys
part-added xs ys p s l = ap numbers (ap (take p.length) (drop_at xs ys p.start (sym s)) ∙ take_all p.length ys (omega (arith, l)))

pub within-longer : (xs ys : List PyTypeRef) (ps : List Part) → All (IsWithin xs) ps → All (IsWithin (xs ++ ys)) ps
within-longer xs ys ps h =
    let long = length-append xs ys in
    All-weaker (IsWithin xs) (IsWithin (xs ++ ys)) (λ p w. let within = w.within in record { within = omega (arith, within, long) }) ps h

-- a class that is read with its linearisation
pub with-lines-at : (ks : List StoredClass) (ls : List (List ℕ)) (i : ℕ) (d : StoredClass) (e : List ℕ) → i < length ks → length ls ≡ length ks → get_or (with_lines ks ls) i d ≡ with_line (get_or ks i d) (get_or ls i e)
with-lines-at [] ls i d e l n = absurd (omega (arith, l))
with-lines-at (k ∷ ks) [] i d e l n = absurd (omega (arith, n))
with-lines-at (k ∷ ks) (line ∷ ls) zero d e l n = refl
with-lines-at (k ∷ ks) (line ∷ ls) (suc i) d e l n = with-lines-at ks ls i d e (omega (arith, l)) (omega (arith, n))

pub with-lines-length : (ks : List StoredClass) (ls : List (List ℕ)) → length ls ≡ length ks → length (with_lines ks ls) ≡ length ks
with-lines-length [] ls n = refl
with-lines-length (k ∷ ks) [] n = absurd (omega (arith, n))
with-lines-length (k ∷ ks) (line ∷ ls) n = ap suc (with-lines-length ks ls (omega (arith, n)))

-- a class that is changed keeps its linearisation
pub with-lines-set : (ks : List StoredClass) (ls : List (List ℕ)) (i : ℕ) (x : StoredClass) (e : List ℕ) → length ls ≡ length ks → with_lines (set ks i x) ls ≡ set (with_lines ks ls) i (with_line x (get_or ls i e))
with-lines-set [] ls i x e n = refl
with-lines-set (k ∷ ks) [] i x e n = absurd (omega (arith, n))
with-lines-set (k ∷ ks) (line ∷ ls) zero x e n = refl
with-lines-set (k ∷ ks) (line ∷ ls) (suc i) x e n = ap (λ t. with_line k line ∷ t) (with-lines-set ks ls i x e (omega (arith, n)))

-- so a change of one class but for its linearisation is the same change of it as it is kept
pub edited : (f : StoredClass → StoredClass) → ((k : StoredClass) (line : List ℕ) → with_line (f k) line ≡ f (with_line k line)) → (ks new : List StoredClass) (ls : List (List ℕ)) (i : ℕ) (d : StoredClass) → i < length ks → length ls ≡ length ks → new ≡ set ks i (f (get_or ks i d)) → with_lines new ls ≡ set (with_lines ks ls) i (f (get_or (with_lines ks ls) i d))
edited f keeps ks new ls i d l n e =
    ap (λ xs. with_lines xs ls) e
    ∙ with-lines-set ks ls i (f (get_or ks i d)) [] n
    ∙ ap (set (with_lines ks ls) i) (keeps (get_or ks i d) (get_or ls i []) ∙ ap f (sym (with-lines-at ks ls i d [] l n)))

-- one class more
pub with-lines-push : (ks : List StoredClass) (ls : List (List ℕ)) (k : StoredClass) (line : List ℕ) → length ls ≡ length ks → with_lines (ks ++ k ∷ []) (ls ++ line ∷ []) ≡ with_lines ks ls ++ with_line k line ∷ []
with-lines-push [] [] k line n = refl
with-lines-push [] (other ∷ ls) k line n = absurd (omega (arith, n))
with-lines-push (j ∷ ks) [] k line n = absurd (omega (arith, n))
with-lines-push (j ∷ ks) (other ∷ ls) k line n = ap (λ t. with_line j other ∷ t) (with-lines-push ks ls k line (omega (arith, n)))

-- other linearisations for all
pub with-lines-again : (ks : List StoredClass) (old new : List (List ℕ)) → length old ≡ length ks → length new ≡ length ks → with_lines ks new ≡ with_lines (with_lines ks old) new
with-lines-again [] old new n m = refl
with-lines-again (k ∷ ks) [] new n m = absurd (omega (arith, n))
with-lines-again (k ∷ ks) (a ∷ old) [] n m = absurd (omega (arith, m))
with-lines-again (k ∷ ks) (a ∷ old) (b ∷ new) n m = ap (λ t. with_line k b ∷ t) (with-lines-again ks old new (omega (arith, n)) (omega (arith, m)))

pub with-lines-get : (ks : List StoredClass) (ls : List (List ℕ)) (i : ℕ) (k : StoredClass) (line : List ℕ) → slice_get ks i ≡ Some k → slice_get ls i ≡ Some line → slice_get (with_lines ks ls) i ≡ Some (with_line k line)
with-lines-get [] ls i k line e f = cc
with-lines-get (j ∷ ks) [] i k line e f = cc
with-lines-get (j ∷ ks) (other ∷ ls) zero k line e f = cc
with-lines-get (j ∷ ks) (other ∷ ls) (suc i) k line e f = with-lines-get ks ls i k line e f

-- a change of one class but for its linearisation leaves what the linearisations are to be
pub lines-of-edited : (f : StoredClass → StoredClass) → ((k : StoredClass) → (f k).mro ≡ k.mro) → (kept : List StoredClass) (at : ℕ) (k : StoredClass) → k ≡ get_or kept at k → at < length kept → (places : List ℕ) (renewed : List Renewed) (lines : List (List ℕ)) → AreLinesOf kept places renewed lines → AreLinesOf (set kept at (f k)) places renewed lines
lines-of-edited f same kept at k held within places renewed lines are = record {
  count = are.count ∙ sym (length-set kept at (f k));
  at = are.at;
  away = λ i x h e. elim (get-set_cases kept at (f k) i x e) [
    | inl a ↦
        let here : slice_get kept i ≡ Some k = ap (slice_get kept) a.0 ∙ read-at kept at k within held in
        are.away i k h here ∙ ap Some (sym (same k) ∙ ap (λ (z : StoredClass). z.mro) a.1)
    | inr b ↦ are.away i x h b.1
  ];
}

-- the class at a place after all got their linearisations
pub lined-get : (kept : List StoredClass) (lines : List (List ℕ)) (i : ℕ) (x : StoredClass) → slice_get (with_lines kept lines) i ≡ Some x → (k : StoredClass) × (line : List ℕ) × (slice_get kept i ≡ Some k) × (slice_get lines i ≡ Some line) × (x ≡ with_line k line)
lined-get [] lines i x e = cc
lined-get (j ∷ kept) [] i x e = cc
lined-get (j ∷ kept) (line ∷ lines) zero x e = (j, line, refl, refl, cc)
lined-get (j ∷ kept) (line ∷ lines) (suc i) x e = lined-get kept lines i x e

-- so what is put in place but for the linearisations is put in place whole
pub swapped-lined : (kept : List StoredClass) (lines : List (List ℕ)) (places : List ℕ) (renewed : List Renewed) (new : List StoredClass) → AreLinesOf kept places renewed lines → AreSwapped places renewed (with_lines kept lines) new → AreSwapped places renewed kept new
swapped-lined kept lines places renewed new are s = record {
  count = s.count ∙ with-lines-length kept lines are.count;
  at = λ j i k r p e f.
      let line = are.at j i r p f in
      s.at j i (with_line k (numbers r.mro.items)) r p (with-lines-get kept lines i k (numbers r.mro.items) e line) f;
  away = λ i k h e.
      let line = are.away i k h e in
      s.away i k h (with-lines-get kept lines i k k.mro e line);
}

-- a change of one class, as the classes are seen
pub inside-of : (ks kept : List StoredClass) (ls : List (List ℕ)) (at : ℕ) → with_lines ks ls ≡ kept → length ls ≡ length ks → at < length kept → at < length ks
inside-of ks kept ls at view count l =
    let n : length kept ≡ length ks = ap length (sym view) ∙ with-lines-length ks ls count in
    omega (arith, l, n)

pub edited-seen : (f : StoredClass → StoredClass) → ((k : StoredClass) (line : List ℕ) → with_line (f k) line ≡ f (with_line k line)) → (ks kept : List StoredClass) (ls : List (List ℕ)) (at : ℕ) → with_lines ks ls ≡ kept → length ls ≡ length ks → at < length kept → (new : List StoredClass) → ((d : StoredClass) → new ≡ set ks at (f (get_or ks at d))) → (d : StoredClass) → with_lines new ls ≡ set kept at (f (get_or kept at d))
edited-seen f keeps ks kept ls at view count l new is d =
    let P : List StoredClass → Type 0 = λ ys. with_lines new ls ≡ set ys at (f (get_or ys at d)) in
    subst P view (edited f keeps ks new ls at d (inside-of ks kept ls at view count l) count (is d))

pub edited-count : (f : StoredClass → StoredClass) (ks kept : List StoredClass) (ls : List (List ℕ)) (at : ℕ) → with_lines ks ls ≡ kept → length ls ≡ length ks → at < length kept → (new : List StoredClass) → ((d : StoredClass) → new ≡ set ks at (f (get_or ks at d))) → length ls ≡ length new
edited-count f ks kept ls at view count l new is =
    let d = element kept at l in
    count ∙ sym (ap length (is d) ∙ length-set ks at (f (get_or ks at d)))

-- the same of a change that may fail
pub edited-ok : {X Y : Type 0} (f : StoredClass → StoredClass) → ((k : StoredClass) (line : List ℕ) → with_line (f k) line ≡ f (with_line k line)) → (ks kept : List StoredClass) (ls : List (List ℕ)) (at : ℕ) → with_lines ks ls ≡ kept → length ls ≡ length ks → at < length kept → (new : List StoredClass) (answer : Result X Y) → OnOk answer ((d : StoredClass) → new ≡ set ks at (f (get_or ks at d))) → OnOk answer ((d : StoredClass) → with_lines new ls ≡ set kept at (f (get_or kept at d)))
edited-ok f keeps ks kept ls at view count l new (Ok x) is = edited-seen f keeps ks kept ls at view count l new is
edited-ok f keeps ks kept ls at view count l new (Err e) is = tt

pub edited-err : {X Y : Type 0} (ks kept new : List StoredClass) (ls : List (List ℕ)) → with_lines ks ls ≡ kept → (answer : Result X Y) → OnErr answer (new ≡ ks) → OnErr answer (with_lines new ls ≡ kept)
edited-err ks kept new ls view (Ok x) same = tt
edited-err ks kept new ls view (Err e) same = ap (λ ys. with_lines ys ls) same ∙ view

pub edited-either : {X Y : Type 0} (f : StoredClass → StoredClass) (ks kept : List StoredClass) (ls : List (List ℕ)) (at : ℕ) → with_lines ks ls ≡ kept → length ls ≡ length ks → at < length kept → (new : List StoredClass) (answer : Result X Y) → OnOk answer ((d : StoredClass) → new ≡ set ks at (f (get_or ks at d))) → OnErr answer (new ≡ ks) → length ls ≡ length new
edited-either f ks kept ls at view count l new (Ok x) is same = edited-count f ks kept ls at view count l new is
edited-either f ks kept ls at view count l new (Err e) is same = count ∙ ap length (sym same)

-- what is kept of classes but for their linearisations tells which classes they are
pub plain-of : (ks : List StoredClass) (ls : List (List ℕ)) → length ls ≡ length ks → classes_of (with_lines ks ls) ≡ classes_of ks
plain-of [] ls n = refl
plain-of (k ∷ ks) [] n = absurd (omega (arith, n))
plain-of (k ∷ ks) (line ∷ ls) n = ap (λ t. class_of k ∷ t) (plain-of ks ls (omega (arith, n)))

pub plain-lines : (ks new : List StoredClass) (ls : List (List ℕ)) → classes_of new ≡ classes_of ks → length ls ≡ length ks → classes_of (with_lines new ls) ≡ classes_of (with_lines ks ls)
plain-lines ks new ls same count =
    let n : length new ≡ length ks = sym (length-map new class_of) ∙ ap length same ∙ length-map ks class_of in
    plain-of new ls (count ∙ sym n) ∙ same ∙ sym (plain-of ks ls count)

pub number-lined : (ks : List StoredClass) (ls : List (List ℕ)) (i : ℕ) → length ls ≡ length ks → number_at (with_lines ks ls) i ≡ number_at ks i
number-lined [] ls i n = refl
number-lined (k ∷ ks) [] i n = absurd (omega (arith, n))
number-lined (k ∷ ks) (line ∷ ls) zero n = refl
number-lined (k ∷ ks) (line ∷ ls) (suc i) n = number-lined ks ls i (omega (arith, n))

pub ascends-lined : (ks zs : List StoredClass) (ls : List (List ℕ)) (kept : List StoredClass) → with_lines ks ls ≡ kept → length ls ≡ length ks → zs ≡ ks → is_ascending (classes_of kept) ≡ true → is_ascending (classes_of zs) ≡ true
ascends-lined ks zs ls kept view count same up =
    ap (λ (ys : List StoredClass). is_ascending (classes_of ys)) same
    ∙ ap is_ascending (sym (plain-of ks ls count))
    ∙ ap (λ (ys : List StoredClass). is_ascending (classes_of ys)) view
    ∙ up

-- the linearisation of a class that got its own
pub lined-line : (kept : List StoredClass) (lines : List (List ℕ)) (places : List ℕ) (renewed : List Renewed) → AreLinesOf kept places renewed lines → (j i : ℕ) (r : Renewed) → slice_get places j ≡ Some i → slice_get renewed j ≡ Some r → (x : StoredClass) → slice_get (with_lines kept lines) i ≡ Some x → x.mro ≡ numbers r.mro.items
lined-line kept lines places renewed are j i r p f x e =
    let g = lined-get kept lines i x e in
    let line : g.1 ≡ numbers r.mro.items = let a = are.at j i r p f in let b = g.3 in cc in
    ap (λ (z : StoredClass). z.mro) g.4 ∙ line

-- one linearisation more in the array
pub lines-added : (array more : List PyTypeRef) (parts : List Part) (p : Part) → All (IsWithin array) parts → p.start ≡ length array → p.length ≡ length more → map (part_of (array ++ more)) (parts ++ p ∷ []) ≡ map (part_of array) parts ++ numbers more ∷ []
lines-added array more parts p h s l =
    map_push (part_of (array ++ more)) parts p
    ∙ ap (λ ls. ls ++ part_of (array ++ more) p ∷ []) (parts-stay array more parts h)
    ∙ ap (λ line. map (part_of array) parts ++ line ∷ []) (part-added array more p s l)

pub within-added : (array more : List PyTypeRef) (parts : List Part) (p : Part) → All (IsWithin array) parts → p.start ≡ length array → p.length ≡ length more → All (IsWithin (array ++ more)) (parts ++ p ∷ [])
within-added array more parts p h s l =
    let long = length-append array more in
    All-push (IsWithin (array ++ more)) parts p (within-longer array more parts h) (record { within = omega (arith, s, l, long) })

get-push_old : {A : Type 0} (xs : List A) (y : A) (i : ℕ) (z : A) → slice_get xs i ≡ Some z → slice_get (xs ++ y ∷ []) i ≡ Some z
get-push_old [] y i z e = cc
get-push_old (x ∷ xs) y zero z e = e
get-push_old (x ∷ xs) y (suc i) z e = get-push_old xs y i z e

get-push_new : {A : Type 0} (xs : List A) (y : A) (i : ℕ) → i ≡ length xs → slice_get (xs ++ y ∷ []) i ≡ Some y
get-push_new [] y zero e = refl
get-push_new [] y (suc i) e = absurd (omega (arith, e))
get-push_new (x ∷ xs) y zero e = absurd (omega (arith, e))
get-push_new (x ∷ xs) y (suc i) e = get-push_new xs y i (omega (arith, e))

pub lines-start : (kept : List StoredClass) (places : List ℕ) (renewed : List Renewed) (lines : List (List ℕ)) → lines ≡ [] → AreLinesTo kept places renewed 0 lines
lines-start kept places renewed lines e = record { count = ap length e; at = λ j i r l p f. absurd (omega (arith, l)); away = λ i k l h f. absurd (omega (arith, l)) }

module _ (kept : List StoredClass) (places : List ℕ) (renewed : List Renewed) (n : ℕ) (lines new : List (List ℕ)) (line : List ℕ) (so : AreLinesTo kept places renewed n lines) (is : new ≡ lines ++ line ∷ []) where
  count-next : length new ≡ n + 1
  count-next = let a = length-append lines (line ∷ []) in let b = so.count in ap length is ∙ omega (arith, a, b)

  before : (i : ℕ) (l : List ℕ) → slice_get lines i ≡ Some l → slice_get new i ≡ Some l
  before i l e = ap (λ ys. slice_get ys i) is ∙ get-push_old lines line i l e

  last : slice_get new n ≡ Some line
  last = ap (λ ys. slice_get ys n) is ∙ get-push_new lines line n (sym so.count)

  -- one that is made anew
  pub lines-made : Distinct places → (index : ℕ) (r : Renewed) → slice_get places index ≡ Some n → slice_get renewed index ≡ Some r → line ≡ numbers r.mro.items → AreLinesTo kept places renewed (n + 1) new
  lines-made d index r p f e = record {
    count = count-next;
    at = λ j i q l a b. elim (cases_eq i n) [
      | inl w ↦
          let same : j ≡ index = distinct-at places d j index n (a ∙ ap Some w) p in
          let one : r ≡ q = let u = ap (slice_get renewed) same in cc in
          ap (slice_get new) w ∙ last ∙ ap Some (e ∙ ap (λ (z : Renewed). numbers z.mro.items) one)
      | inr w ↦ before i _ (so.at j i q (omega (arith, l, w)) a b)
    ];
    away = λ i k l h a. elim (cases_eq i n) [
      | inl w ↦ absurd (h (Includes-at places index i (p ∙ ap Some (sym w))))
      | inr w ↦ before i k.mro (so.away i k (omega (arith, l, w)) h a)
    ];
  }

  -- one of now
  pub lines-kept : (Includes places n → ⊥) → (k : StoredClass) → slice_get kept n ≡ Some k → line ≡ k.mro → AreLinesTo kept places renewed (n + 1) new
  lines-kept out k here e = record {
    count = count-next;
    at = λ j i q l a b. elim (cases_eq i n) [
      | inl w ↦ absurd (out (Includes-at places j n (a ∙ ap Some w)))
      | inr w ↦ before i _ (so.at j i q (omega (arith, l, w)) a b)
    ];
    away = λ i x l h a. elim (cases_eq i n) [
      | inl w ↦
          let same : k ≡ x = let u = ap (slice_get kept) w in cc in
          ap (slice_get new) w ∙ last ∙ ap Some (e ∙ ap (λ (z : StoredClass). z.mro) same)
      | inr w ↦ before i x.mro (so.away i x (omega (arith, l, w)) h a)
    ];
  }

pub lines-end : (kept : List StoredClass) (places : List ℕ) (renewed : List Renewed) (n : ℕ) (lines : List (List ℕ)) → AreLinesTo kept places renewed n lines → length kept ≤ n → n ≤ length kept → ((i : ℕ) → Includes places i → i < length kept) → AreLinesOf kept places renewed lines
lines-end kept places renewed n lines so low high inside = record {
  count = let c = so.count in omega (arith, c, low, high);
  at = λ j i r p f. let l = inside i (Includes-at places j i p) in so.at j i r (omega (arith, l, low)) p f;
  away = λ i k h e. let l = slice_get_within kept i k e in so.away i k (omega (arith, l, low)) h e;
}

-- The class that is blamed for new bases is the least-numbered one that they leave without an order.
use Rattle.class_model.proofs.Below.{ℕ, zero, suc, Bool, true, false, cond, List, [], map, Option, Some, None, inl, inr, refl, sym, ap, subst, ◌∙◌, arith, true≢false, is_some, is_none, slice_get, option_map, option_and_then, or_cases, or_left, or_right, and_parts, and_from, Cause, LocalPrecedence, MroConflict, has, all_some, least_order, Includes, Class, Classes, bases_of, lin, past_first, is_ascending, ascend_from, numbers_of, with_bases, is_blamed, blamed_along, stands_past, breaks_precedence, order_cause, caused, failing, BreaksPrecedence, IsBlamed, IsFailing, NoneIsBlamed}
use Rattle.std.proofs.Common.{◌≡◌, ◌<◌, ◌≤◌, ◌∷◌}
use Rattle.std.specs.Prelude.{◌↔◌}
use Rattle.class_model.proofs.Numbers.{some-of, at-number, at-place, no-less, at-from_place, numbers-changed}
use Rattle.class_model.proofs.Tests.{Decides-has}
use Rattle.class_model.proofs.Arranged.{least_order-order, least_order-none}
use Rattle.class_model.proofs.Rule.{bases_of-get, lin-rule, all_some-map}

-- the precedence of bases

past-to : (b : ℕ) (ls : List (List ℕ)) → stands_past b ls ≡ true → (j : ℕ) × ((l : List ℕ) × ((slice_get ls j ≡ Some l) × Includes (past_first l) b))
past-to b [] e = cc
past-to b (l ∷ ls) e =
    elim (or_cases (has (past_first l) b) (stands_past b ls) e) [ inl h ↦ (zero, (l, (refl, (Decides-has (past_first l) b).0 h))) | inr h ↦ let r = past-to b ls h in (suc r.0, r.1) ]

past-from : (b : ℕ) (ls : List (List ℕ)) (j : ℕ) (l : List ℕ) → slice_get ls j ≡ Some l → Includes (past_first l) b → stands_past b ls ≡ true
past-from b [] j l e h = cc
past-from b (m ∷ ls) zero l e h =
    let same : m ≡ l = cc in
    or_left (has (past_first m) b) (stands_past b ls) (ap (λ x. has (past_first x) b) same ∙ (Decides-has (past_first l) b).1 h)
past-from b (m ∷ ls) (suc j) l e h = or_right (has (past_first m) b) (stands_past b ls) (past-from b ls j l e h)

pub breaks-to : (bs : List ℕ) (ls : List (List ℕ)) → breaks_precedence bs ls ≡ true → BreaksPrecedence bs ls
breaks-to [] ls e = cc
breaks-to (b ∷ bs) [] e = cc
breaks-to (b ∷ bs) (l ∷ ls) e =
    elim (or_cases (stands_past b ls) (breaks_precedence bs ls) e) [
      | inl h ↦ let r = past-to b ls h in record { place = 0; later = suc r.0; base = b; line = r.1.0; before = omega arith; at_place = refl; at_later = r.1.1.0; past = r.1.1.1 }
      | inr h ↦
          let r = breaks-to bs ls h in
          let before = r.before in
          record { place = suc r.place; later = suc r.later; base = r.base; line = r.line; before = omega (arith, before); at_place = r.at_place; at_later = r.at_later; past = r.past }
    ]

breaks-at : (bs : List ℕ) (ls : List (List ℕ)) (i j b : ℕ) (l : List ℕ) → i < j → slice_get bs i ≡ Some b → slice_get ls j ≡ Some l → Includes (past_first l) b → breaks_precedence bs ls ≡ true
breaks-at [] ls i j b l m e f h = cc
breaks-at (c ∷ bs) [] i j b l m e f h = cc
breaks-at (c ∷ bs) (k ∷ ls) i zero b l m e f h = absurd (omega (arith, m))
breaks-at (c ∷ bs) (k ∷ ls) zero (suc j) b l m e f h =
    let same : c ≡ b = cc in
    or_left (stands_past c ls) (breaks_precedence bs ls) (ap (λ x. stands_past x ls) same ∙ past-from b ls j l f h)
breaks-at (c ∷ bs) (k ∷ ls) (suc i) (suc j) b l m e f h = or_right (stands_past c ls) (breaks_precedence bs ls) (breaks-at bs ls i j b l (omega (arith, m)) e f h)

pub breaks-from : (bs : List ℕ) (ls : List (List ℕ)) → BreaksPrecedence bs ls → breaks_precedence bs ls ≡ true
breaks-from bs ls r = breaks-at bs ls r.place r.later r.base r.line r.before r.at_place r.at_later r.past

precedence-cause : (bs : List ℕ) (ls : List (List ℕ)) → (order_cause bs ls ≡ LocalPrecedence) ↔ BreaksPrecedence bs ls
precedence-cause bs ls = (λ e. to (breaks_precedence bs ls) refl e, λ r. ap (λ b. cond b LocalPrecedence MroConflict) (breaks-from bs ls r))
  where
    to : (b : Bool) → breaks_precedence bs ls ≡ b → cond b LocalPrecedence MroConflict ≡ LocalPrecedence → BreaksPrecedence bs ls
    to true h e = breaks-to bs ls h
    to false h e = cc

conflict-cause : (bs : List ℕ) (ls : List (List ℕ)) → (order_cause bs ls ≡ MroConflict) ↔ (BreaksPrecedence bs ls → ⊥)
conflict-cause bs ls = (λ e. to (breaks_precedence bs ls) refl e, λ r. from (breaks_precedence bs ls) refl r)
  where
    to : (b : Bool) → breaks_precedence bs ls ≡ b → cond b LocalPrecedence MroConflict ≡ MroConflict → BreaksPrecedence bs ls → ⊥
    to true h e r = cc
    to false h e r = true≢false (sym (breaks-from bs ls r) ∙ h)

    from : (b : Bool) → breaks_precedence bs ls ≡ b → (BreaksPrecedence bs ls → ⊥) → cond b LocalPrecedence MroConflict ≡ MroConflict
    from true h r = absurd (r (breaks-to bs ls h))
    from false h r = refl

-- no other cause is said
cause-only : (bs : List ℕ) (ls : List (List ℕ)) (cause : Cause) → (cause ≡ LocalPrecedence) ↔ BreaksPrecedence bs ls → (cause ≡ MroConflict) ↔ (BreaksPrecedence bs ls → ⊥) → order_cause bs ls ≡ cause
cause-only bs ls cause p q = go (breaks_precedence bs ls) refl
  where
    go : (b : Bool) → breaks_precedence bs ls ≡ b → cond b LocalPrecedence MroConflict ≡ cause
    go true h = sym (p.1 (breaks-to bs ls h))
    go false h = sym (q.1 (λ r. true≢false (sym (breaks-from bs ls r) ∙ h)))

-- blame

all_some-all : (ls : List (List ℕ)) → all_some (map Some ls) ≡ Some ls
all_some-all [] = refl
all_some-all (l ∷ ls) = ap (option_map (λ xs. l ∷ xs)) (all_some-all ls)

none-of : {A : Type 0} (o : Option A) → is_none o ≡ true → o ≡ None
none-of None e = refl
none-of (Some x) e = cc

module _ {K : Type 0} where
  -- the linearisation by what its class and its bases have
  lin-of : (t : Classes K) (d : ℕ) (bs : List ℕ) (ls : List (List ℕ)) → bases_of t d ≡ Some bs → all_some (map (lin t) bs) ≡ Some ls → lin t d ≡ least_order d bs ls
  lin-of t d bs ls e f =
      lin-rule t d ∙ ap (option_and_then (λ bs. option_and_then (least_order d bs) (all_some (map (lin t) bs)))) e ∙ ap (option_and_then (least_order d bs)) f

  blamed-to : (t : Classes K) (d : ℕ) (bs : List ℕ) → bases_of t d ≡ Some bs → is_blamed t d bs ≡ true → (ls : List (List ℕ)) × ((all_some (map (lin t) bs) ≡ Some ls) × IsBlamed t d bs ls)
  blamed-to t d bs e h =
      let p = and_parts (is_some (all_some (map (lin t) bs))) (is_none (lin t d)) h in
      let r = some-of (all_some (map (lin t) bs)) p.0 in
      let no : least_order d bs r.0 ≡ None = sym (lin-of t d bs r.0 e r.1) ∙ none-of (lin t d) p.1 in
      (r.0, (r.1, record { of_class = e; of_bases = all_some-map (map (lin t) bs) r.0 r.1; none = λ xs o. least_order-none d bs r.0 xs no o }))

  blamed-from : (t : Classes K) (d : ℕ) (bs : List ℕ) (ls : List (List ℕ)) → IsBlamed t d bs ls → is_blamed t d bs ≡ true
  blamed-from t d bs ls r =
      let f : all_some (map (lin t) bs) ≡ Some ls = ap all_some r.of_bases ∙ all_some-all ls in
      and_from (is_some (all_some (map (lin t) bs))) (is_none (lin t d)) (ap is_some f) (go (least_order d bs ls) refl (lin-of t d bs ls r.of_class f))
    where
      go : (o : Option (List ℕ)) → least_order d bs ls ≡ o → lin t d ≡ least_order d bs ls → is_none (lin t d) ≡ true
      go None e f = ap is_none (f ∙ e)
      go (Some xs) e f = absurd (r.none xs (least_order-order d bs ls xs e))

  -- the first of some classes that is blamed: the others that are have greater numbers
  record IsFirst (t ks : Classes K) (d : ℕ) : Type 0 where
    place : ℕ
    class : Class K
    at : slice_get ks place ≡ Some class
    number : class.number ≡ d
    blamed : is_blamed t class.number class.bases ≡ true
    least : (j : ℕ) (m : Class K) → slice_get ks j ≡ Some m → is_blamed t m.number m.bases ≡ true → d ≤ m.number

  first-of : (t ks : Classes K) (n d : ℕ) → ascend_from n (numbers_of ks) ≡ true → blamed_along t ks ≡ Some d → IsFirst t ks d
  first-of t [] n d a e = cc
  first-of t (k ∷ ks) n d a e = go (is_blamed t k.number k.bases) refl e (first-of t ks (suc k.number) d rest)
    where
      rest : ascend_from (suc k.number) (numbers_of ks) ≡ true
      rest = (and_parts _ (ascend_from (suc k.number) (numbers_of ks)) a).1

      go : (b : Bool) → is_blamed t k.number k.bases ≡ b → cond b (Some k.number) (blamed_along t ks) ≡ Some d → (blamed_along t ks ≡ Some d → IsFirst t ks d) → IsFirst t (k ∷ ks) d
      go true h e more = record { place = 0; class = k; at = refl; number = here; blamed = h; least = later }
        where
          here : k.number ≡ d
          here = cc

          later : (j : ℕ) (m : Class K) → slice_get (k ∷ ks) j ≡ Some m → is_blamed t m.number m.bases ≡ true → d ≤ m.number
          later zero m e b = let same : k ≡ m = cc in let s = ap (λ (x : Class K). x.number) same in let q = here in omega (arith, s, q)
          later (suc j) m e b = let l = no-less (suc k.number) ks j m rest e in let q = here in omega (arith, l, q)
      go false h e more = record { place = suc r.place; class = r.class; at = r.at; number = r.number; blamed = r.blamed; least = later }
        where
          r : IsFirst t ks d
          r = more e

          later : (j : ℕ) (m : Class K) → slice_get (k ∷ ks) j ≡ Some m → is_blamed t m.number m.bases ≡ true → d ≤ m.number
          later zero m e b = let same : m ≡ k = cc in absurd (true≢false (sym b ∙ ap (λ (x : Class K). is_blamed t x.number x.bases) same ∙ h))
          later (suc j) m e b = r.least j m e b

  none-along : (t ks : Classes K) → blamed_along t ks ≡ None → (j : ℕ) (m : Class K) → slice_get ks j ≡ Some m → is_blamed t m.number m.bases ≡ true → ⊥
  none-along t [] e j m f b = cc
  none-along t (k ∷ ks) e j m f b = go (is_blamed t k.number k.bases) refl e (none-along t ks) j f
    where
      go : (v : Bool) → is_blamed t k.number k.bases ≡ v → cond v (Some k.number) (blamed_along t ks) ≡ None → (blamed_along t ks ≡ None → (j : ℕ) (m : Class K) → slice_get ks j ≡ Some m → is_blamed t m.number m.bases ≡ true → ⊥) → (j : ℕ) → slice_get (k ∷ ks) j ≡ Some m → ⊥
      go true h e more j f = cc
      go false h e more zero f = let same : m ≡ k = cc in true≢false (sym b ∙ ap (λ (x : Class K). is_blamed t x.number x.bases) same ∙ h)
      go false h e more (suc j) f = more e j m f b

  -- a class that is blamed stands somewhere among the classes
  blamed-place : (t : Classes K) (d : ℕ) (bs : List ℕ) (ls : List (List ℕ)) → IsBlamed t d bs ls → (i : ℕ) × ((k : Class K) × ((slice_get t i ≡ Some k) × ((k.number ≡ d) × (is_blamed t k.number k.bases ≡ true))))
  blamed-place t d bs ls r =
      let g = bases_of-get t d bs r.of_class in
      let p = at-place t d g.0 g.1 in
      let n = at-number t d g.0 g.1 in
      (p.0, (g.0, (p.1, (n, ap (λ x. is_blamed t x g.0.bases) n ∙ ap (is_blamed t d) g.2 ∙ blamed-from t d bs ls r))))

  -- what is said of the class and the cause is so
  says : (u : Classes K) (d : ℕ) → is_ascending u ≡ true → blamed_along u u ≡ Some d → (cause : Cause) × ((caused u d ≡ Some (d, cause)) × IsFailing u d cause)
  says u d a e =
      let f = first-of u u 0 d a e in
      let k = f.class in
      let here : bases_of u d ≡ Some k.bases = ap (bases_of u) (sym f.number) ∙ ap (option_map (λ (x : Class K). x.bases)) (at-from_place u f.place k a f.at) in
      let r = blamed-to u d k.bases here (ap (λ x. is_blamed u x k.bases) (sym f.number) ∙ f.blamed) in
      let is : caused u d ≡ Some (d, order_cause k.bases r.0) =
      ap (option_and_then (λ bs. option_map (λ lines. (d, order_cause bs lines)) (all_some (map (lin u) bs)))) here ∙ ap (option_map (λ lines. (d, order_cause k.bases lines))) r.1.0 in (
        order_cause k.bases r.0,
        (
          is,
          record {
            bases = k.bases;
            lines = r.0;
            blamed = r.1.1;
            least = λ e bs ls b. let q = blamed-place u e bs ls b in subst (λ x. d ≤ x) q.1.1.1.0 (f.least q.0 q.1.0 q.1.1.0 q.1.1.1.1);
            precedence = precedence-cause k.bases r.0;
            conflict = conflict-cause k.bases r.0;
          },
        ),
      )

  trial-ascends : (t : Classes K) (c : ℕ) (bs : List ℕ) → is_ascending t ≡ true → is_ascending (with_bases t c bs) ≡ true
  trial-ascends t c bs a = ap (ascend_from 0) (numbers-changed (λ k. record k { bases = bs }) (λ k. refl) t c) ∙ a

  -- the two cases: a class is blamed, or none is
  data Outcome (u : Classes K) (o : Option (ℕ × Cause)) : Type 0 where
    some : (d : ℕ) (cause : Cause) → o ≡ Some (d, cause) → IsFailing u d cause → Outcome u o
    none : o ≡ None → NoneIsBlamed u → Outcome u o

  outcome : (t : Classes K) (c : ℕ) (bs : List ℕ) → is_ascending t ≡ true → Outcome (with_bases t c bs) (failing t c bs)
  outcome t c bs a = go (blamed_along u u) refl
    where
      u : Classes K
      u = with_bases t c bs

      go : (o : Option ℕ) → blamed_along u u ≡ o → Outcome u (option_and_then (caused u) (blamed_along u u))
      go None e = none (ap (option_and_then (caused u)) e) (λ d bs ls b. let q = blamed-place u d bs ls b in none-along u u e q.0 q.1.0 q.1.1.0 q.1.1.1.1)
      go (Some d) e = let r = says u d (trial-ascends t c bs a) e in some d r.0 (ap (option_and_then (caused u)) e ∙ r.1.0) r.1.1

  failing-from : (t : Classes K) (c : ℕ) (bs : List ℕ) → is_ascending t ≡ true → (d : ℕ) (cause : Cause) → IsFailing (with_bases t c bs) d cause → failing t c bs ≡ Some (d, cause)
  failing-from t c bs a d cause r = go (blamed_along u u) refl
    where
      u : Classes K
      u = with_bases t c bs

      lines : all_some (map (lin u) r.bases) ≡ Some r.lines
      lines = ap all_some r.blamed.of_bases ∙ all_some-all r.lines

      is : caused u d ≡ Some (d, cause)
      is =
          ap (option_and_then (λ bs. option_map (λ lines. (d, order_cause bs lines)) (all_some (map (lin u) bs)))) r.blamed.of_class
          ∙ ap (option_map (λ lines. (d, order_cause r.bases lines))) lines
          ∙ ap (λ z. Some (d, z)) (cause-only r.bases r.lines cause r.precedence r.conflict)

      go : (o : Option ℕ) → blamed_along u u ≡ o → option_and_then (caused u) (blamed_along u u) ≡ Some (d, cause)
      go None e = let q = blamed-place u d r.bases r.lines r.blamed in absurd (none-along u u e q.0 q.1.0 q.1.1.0 q.1.1.1.1)
      go (Some x) e =
          let s = (says u x (trial-ascends t c bs a) e).1.1 in
          let l = r.least x s.bases s.lines s.blamed in
          let m = s.least d r.bases r.lines r.blamed in
          let same : x ≡ d = omega (arith, l, m) in
          ap (option_and_then (caused u)) (e ∙ ap Some same) ∙ is

  failing-to : (t : Classes K) (c : ℕ) (bs : List ℕ) → is_ascending t ≡ true → (d : ℕ) (cause : Cause) → failing t c bs ≡ Some (d, cause) → IsFailing (with_bases t c bs) d cause
  failing-to t c bs a d cause e = go (outcome t c bs a)
    where
      go : Outcome (with_bases t c bs) (failing t c bs) → IsFailing (with_bases t c bs) d cause
      go (none f n) = cc
      go (some x y f r) =
          let both : ◌≡◌ {A = ℕ × Cause} (x, y) (d, cause) = cc in
          let i : x ≡ d = ap (λ q. q.0) both in
          let j : y ≡ cause = ap (λ q. q.1) both in
          subst (λ z. IsFailing (with_bases t c bs) d z) j (subst (λ z. IsFailing (with_bases t c bs) z y) i r)

  pub failing-is : (t : Classes K) (c : ℕ) (bs : List ℕ) → is_ascending t ≡ true → (d : ℕ) (cause : Cause) → (failing t c bs ≡ Some (d, cause)) ↔ IsFailing (with_bases t c bs) d cause
  failing-is t c bs a d cause = (failing-to t c bs a d cause, failing-from t c bs a d cause)

  pub failing-none : (t : Classes K) (c : ℕ) (bs : List ℕ) → is_ascending t ≡ true → (failing t c bs ≡ None) ↔ NoneIsBlamed (with_bases t c bs)
  failing-none t c bs a = (λ e. to (outcome t c bs a) e, λ n. from (outcome t c bs a) n)
    where
      to : Outcome (with_bases t c bs) (failing t c bs) → failing t c bs ≡ None → NoneIsBlamed (with_bases t c bs)
      to (none f n) e = n
      to (some x y f r) e = cc

      from : Outcome (with_bases t c bs) (failing t c bs) → NoneIsBlamed (with_bases t c bs) → failing t c bs ≡ None
      from (none f m) n = f
      from (some x y f r) n = absurd (n x r.bases r.lines r.blamed)

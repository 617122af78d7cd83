-- Journals that become longer by an entry, and the numbers of a seat's entries.
use Rattle.shared_vm.proofs.Below.{append_assoc, ℕ, cond, eqb, List, [], length, inl, inr, refl, ap, ap₂, ◌∙◌, subst, arith, eq-eqb, ne_eqb, sum_by, fold_push, sum_by-append, sum_by-cons, count_by-le-length, map-append, length-map, start, Entry, PlainEntry, plain_entry, plain_journal, world_after, replay, count_of, Follows, Legal}
use Rattle.std.proofs.Common.{◌≡◌, ◌≢◌, ◌+◌, ◌≤◌, ◌⊎◌, ◌∷◌, ◌++◌}

module _ {A : Type 0} where
  heads : (x y : A) (xs ys : List A) → x ∷ xs ≡ y ∷ ys → x ≡ y
  heads x y xs ys e = cc

  tails : (x y : A) (xs ys : List A) → x ∷ xs ≡ y ∷ ys → xs ≡ ys
  tails x y xs ys e = cc

  not_nil : (before rest : List A) (y : A) → [] ≡ before ++ y ∷ rest → ⊥
  not_nil [] rest y e = cc
  not_nil (b ∷ before) rest y e = cc

  -- an element of a list that is longer by one is the last, or was there before
  last_or_before : (j before rest : List A) (x y : A) → j ++ x ∷ [] ≡ before ++ y ∷ rest → ((j ≡ before) × (x ≡ y)) ⊎ ((rest' : List A) × (j ≡ before ++ y ∷ rest'))
  last_or_before [] [] rest x y e = inl (refl, heads x y [] rest e)
  last_or_before [] (b ∷ before) rest x y e = absurd (not_nil before rest y (tails x b [] (before ++ y ∷ rest) e))
  last_or_before (a ∷ j) [] rest x y e = inr (j, ap (λ h. h ∷ j) (heads a y (j ++ x ∷ []) rest e))
  last_or_before (a ∷ j) (b ∷ before) rest x y e =
      let first = heads a b (j ++ x ∷ []) (before ++ y ∷ rest) e in
      elim (last_or_before j before rest x y (tails a b (j ++ x ∷ []) (before ++ y ∷ rest) e)) [
        | inl last ↦ inl (ap₂ ◌∷◌ first last.0, last.1)
        | inr was ↦ inr (was.0, ap₂ ◌∷◌ first was.1)
      ]

pub legal_none : Legal []
unfolding Legal
legal_none = λ before e rest h. absurd (not_nil before rest e h)

pub legal_more : (j : List PlainEntry) (e : PlainEntry) → Legal j → Follows j e → Legal (j ++ e ∷ [])
unfolding Legal
legal_more j e legal follows = λ before y rest h. elim (last_or_before j before rest e y h) [
  | inl last ↦ subst (λ (p : List PlainEntry × PlainEntry). Follows p.0 p.1) (λ i. (last.0 i, last.1 i)) follows
  | inr was ↦ legal before y was.0 was.1
]

pub replay_more : (j : List PlainEntry) (e : PlainEntry) → replay (j ++ e ∷ []) ≡ world_after (replay j) e
unfolding replay
replay_more j e = fold_push world_after start j e

module _ (seat : ℕ) where
  abbrev one_if : PlainEntry → ℕ
  one_if e = cond (eqb e.seat seat) 1 0

  -- the number of a seat's last entry
  pub last_number : (j before rest : List PlainEntry) (e : PlainEntry) → Legal j → j ≡ before ++ e ∷ rest → e.seat ≡ seat → count_of seat rest ≡ 0 → e.number + 1 ≡ count_of seat j
  unfolding Legal
  last_number j before rest e legal is own none =
      let number : e.number ≡ count_of seat before = (legal before e rest is).number ∙ ap (λ s. count_of s before) own in
      let all : count_of seat j ≡ count_of seat (before ++ e ∷ rest) = ap (count_of seat) is in
      let parts : count_of seat (before ++ e ∷ rest) ≡ count_of seat before + sum_by one_if (e ∷ rest) = sum_by-append one_if before (e ∷ rest) in
      let here : sum_by one_if (e ∷ rest) ≡ one_if e + count_of seat rest = sum_by-cons one_if e rest in
      let one : one_if e ≡ 1 = ap (λ b. cond b 1 0) (eq-eqb e.seat seat own) in
      omega arith

  pub none_more : (e : PlainEntry) (rest : List PlainEntry) → e.seat ≢ seat → count_of seat rest ≡ 0 → count_of seat (e ∷ rest) ≡ 0
  none_more e rest other none =
      let here : count_of seat (e ∷ rest) ≡ one_if e + count_of seat rest = sum_by-cons one_if e rest in
      let zero : one_if e ≡ 0 = ap (λ b. cond b 1 0) (ne_eqb e.seat seat other) in
      omega arith

  pub count_fits : (j : List PlainEntry) → count_of seat j ≤ length j
  count_fits j = count_by-le-length (λ e. eqb e.seat seat) j

  -- the last entry of a seat, where those behind it are of others
  pub number_here : (journal line rest done : List Entry) (e : Entry) → Legal (plain_journal journal) → journal ≡ line ++ done → line ≡ rest ++ e ∷ [] → e.seat ≡ seat
      → count_of seat (plain_journal done) ≡ 0 → e.number + 1 ≡ count_of seat (plain_journal journal)
  number_here journal line rest done e legal parts last own none =
      let whole : journal ≡ rest ++ e ∷ done = parts ∙ (ap (λ (l : List Entry). l ++ done) last ∙ append_assoc rest (e ∷ []) done) in
      let plain : plain_journal journal ≡ plain_journal rest ++ plain_entry e ∷ plain_journal done = ap plain_journal whole ∙ map-append plain_entry rest (e ∷ done) in
      last_number (plain_journal journal) (plain_journal rest) (plain_journal done) (plain_entry e) legal plain own none

  pub few_entries : (journal : List Entry) → count_of seat (plain_journal journal) ≤ length journal
  few_entries journal = let long = length-map journal plain_entry in let few = count_fits (plain_journal journal) in omega (arith, long, few)

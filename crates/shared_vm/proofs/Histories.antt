-- The turns that a book stands for, once a step more was made.
use Rattle.shared_vm.proofs.Below.{ℕ, Bool, true, false, List, [], length, Option, Some, None, Ok, Err, refl, sym, ap, ◌∙◌, subst, slice_get, option_to_list, IfSome, append-nil, filter_map-append, list_any-append, Text, Tree, Turn, turns_by, Known, IsSameSeat, with_turn, Entry, Receipt, OutOfMemory, Failed, plain_journal, Legal, PyStrInterned, Pages, Adds, IsNameOf, IsOf, IsTrue, Stepped, Tells, entries_in, has_lost, Stands, turn, newest, Makes, Executed, Named}
use Rattle.std.proofs.Common.{◌≡◌, ◌||◌, ◌∷◌, ◌++◌}
use mathlib.Core.List.{IsPrefix}

left_at_end : {A : Type 0} (xs : List A) (left : Option A) → slice_get (xs ++ option_to_list left) (length xs) ≡ left
left_at_end [] None = refl
left_at_end [] (Some y) = refl
left_at_end (x ∷ xs) left = left_at_end xs left

or_false : (b : Bool) → (b || (false || false)) ≡ b
or_false true = refl
or_false false = refl

or_true : (b : Bool) → (b || (true || false)) ≡ true
or_true true = refl
or_true false = refl

entry_of_one : (by : ℕ) (left : Option Entry) (lost : Bool) → entries_in (turn by left lost ∷ []) ≡ option_to_list left
entry_of_one by None lost = refl
entry_of_one by (Some e) lost = refl

module _ (seen : List (Turn Entry)) (by : ℕ) where
  pub entries_more : (left : Option Entry) (lost : Bool) → entries_in (seen ++ turn by left lost ∷ []) ≡ entries_in seen ++ option_to_list left
  entries_more left lost =
      filter_map-append (λ (t : Turn Entry). t.entry) seen (turn by left lost ∷ []) ∙ ap (λ (es : List Entry). entries_in seen ++ es) (entry_of_one by left lost)

  kept_more : (left : Option Entry) → has_lost (seen ++ turn by left false ∷ []) ≡ has_lost seen
  kept_more left = list_any-append (λ (t : Turn Entry). t.lost) seen (turn by left false ∷ []) ∙ or_false (has_lost seen)

  lost_more : (left : Option Entry) → has_lost (seen ++ turn by left true ∷ []) ≡ true
  lost_more left = list_any-append (λ (t : Turn Entry). t.lost) seen (turn by left true ∷ []) ∙ or_true (has_lost seen)

  module _ (old new : Pages) (left : Option Entry) (was : Stands old seen) (adds : Adds old.journal new.journal left) where
    grown : new.journal ≡ entries_in seen ++ option_to_list left
    grown = adds ∙ ap (λ (es : List Entry). es ++ option_to_list left) was.journal

    -- the turn that is picked is the one that was made
    pub newest_is : (lost : Bool) → newest by seen new.journal lost ≡ turn by left lost
    newest_is lost = ap (λ (o : Option Entry). turn by o lost) (ap (λ (es : List Entry). slice_get es (length (entries_in seen))) grown ∙ left_at_end (entries_in seen) left)

    -- and the book stands for it
    pub stands_kept : new.machine.failed ≡ old.machine.failed → Stands new (seen ++ newest by seen new.journal false ∷ [])
    stands_kept same = subst (λ (t : Turn Entry). Stands new (seen ++ t ∷ [])) (sym (newest_is false)) (record {
      journal = grown ∙ sym (entries_more left false);
      failed = same ∙ (was.failed ∙ sym (kept_more left));
    })

    pub stands_lost : new.machine.failed ≡ true → Stands new (seen ++ newest by seen new.journal true ∷ [])
    stands_lost failed = subst (λ (t : Turn Entry). Stands new (seen ++ t ∷ [])) (sym (newest_is true)) (record {
      journal = grown ∙ sym (entries_more left true);
      failed = failed ∙ sym (lost_more left);
    })

-- a seat that took the book and gave it back with a turn
pub makes : (old mid new : Known Entry) (given picked : Turn Entry) → IsSameSeat old mid → IsPrefix old.seen mid.seen → new ≡ with_turn mid given → given ≡ picked → Makes old new mid.seen picked
makes old mid new given picked same more is eq =
    (more, is ∙ (λ i. record { lock = same.0 i; number = same.1 i; made = same.2 i ++ eq i ∷ []; seen = mid.seen ++ eq i ∷ []; in_turn = false }))

pub numbered : (left : Option Entry) (lost : Bool) (a b : ℕ) → a ≡ b → turn a left lost ≡ turn b left lost
numbered left lost a b e = ap (λ (n : ℕ). turn n left lost) e

-- a book that has failed has no entry more
pub adds_none : (old new : Pages) → new ≡ old → Adds old.journal new.journal None
adds_none old new same = ap (λ (b : Pages). b.journal) same ∙ sym (append-nil old.journal)

module _ (old mid new : Known Entry) (book after : Pages) (command : Tree) (budget : ℕ) (same : IsSameSeat old mid) (more : IsPrefix old.seen mid.seen) (was : Stands book mid.seen)
    (legal : Legal (plain_journal after.journal)) (own : turns_by new.number new.seen ≡ new.made) where
  -- what the seat has then seen are the entries of the book
  legal_seen : (t : Turn Entry) → Stands after (mid.seen ++ t ∷ []) → new ≡ with_turn mid t → Legal (plain_journal (entries_in new.seen))
  legal_seen t stands is = subst (λ (j : List Entry). Legal (plain_journal j)) (stands.journal ∙ sym (ap (λ (s : Known Entry). entries_in s.seen) is)) legal

  pub executed_ok : (r : Receipt) → Stepped book after mid.number command budget (Ok r) → new ≡ with_turn mid (newest mid.number mid.seen after.journal false) → Executed old new command budget (Ok r)
  executed_ok r step is =
      let e : Entry = step.2.0 in
      let adds : Adds book.journal after.journal (Some e) = step.2.1 in
      let picked = newest mid.number mid.seen after.journal false in
      let left = newest_is mid.seen mid.number book after (Some e) was adds false ∙ numbered (Some e) false mid.number old.number same.1 in
      record {
        leaves = (
          mid.seen,
          e,
          makes old mid new picked (turn old.number (Some e) false) same more is left,
          sym was.failed ∙ step.0,
          subst (λ (n : ℕ). IsOf n command budget e) same.1 step.2.2,
          subst (λ (j : List Entry). Tells r (length j) e) was.journal step.2.3,
        );
        legal = legal_seen picked (stands_kept mid.seen mid.number book after (Some e) was adds (step.1 ∙ sym step.0)) is;
        own = own;
      }

  pub executed_lost : Stepped book after mid.number command budget (Err OutOfMemory) → new ≡ with_turn mid (newest mid.number mid.seen after.journal true) → Executed old new command budget (Err OutOfMemory)
  executed_lost step is =
      let left : Option Entry = step.2.0 in
      let picked = newest mid.number mid.seen after.journal true in
      let turned = newest_is mid.seen mid.number book after left was step.2.1 true ∙ numbered left true mid.number old.number same.1 in
      record {
        leaves = (
          mid.seen,
          left,
          makes old mid new picked (turn old.number left true) same more is turned,
          sym was.failed ∙ step.0,
          subst (λ (n : ℕ). IfSome left (IsOf n command budget)) same.1 step.2.2,
        );
        legal = legal_seen picked (stands_lost mid.seen mid.number book after left was step.2.1 step.1) is;
        own = own;
      }

  pub executed_failed : (count : ℕ) → Stepped book after mid.number command budget (Err (Failed count)) → new ≡ with_turn mid (newest mid.number mid.seen after.journal false) → Executed old new command budget (Err (Failed count))
  executed_failed count step is =
      let adds = adds_none book after step.1 in
      let picked = newest mid.number mid.seen after.journal false in
      let turned = newest_is mid.seen mid.number book after None was adds false ∙ numbered None false mid.number old.number same.1 in
      record {
        leaves = (
          mid.seen,
          makes old mid new picked (turn old.number None false) same more is turned,
          sym was.failed ∙ step.0,
          step.2 ∙ ap length was.journal,
        );
        legal = legal_seen picked (stands_kept mid.seen mid.number book after None was adds (ap (λ (b : Pages). b.machine.failed) step.1)) is;
        own = own;
      }

-- a seat that took the book, asked it for a name and gave it back
pub named : (old mid new : Known Entry) (book : Pages) (text : Text) (result : Option PyStrInterned) → IsSameSeat old mid → IsPrefix old.seen mid.seen → Stands book mid.seen → IsTrue book → IsNameOf result book text → turns_by new.number new.seen ≡ new.made → new ≡ with_turn mid (newest mid.number mid.seen book.journal false) → Named old new text result
named old mid new book text result same more was keeps is own made =
    let adds = adds_none book book refl in
    let picked = newest mid.number mid.seen book.journal false in
    let turned = newest_is mid.seen mid.number book book None was adds false ∙ numbered None false mid.number old.number same.1 in
    record { before = mid.seen; makes = makes old mid new picked (turn old.number None false) same more made turned; book = book; stands = was; keeps = keeps; is = is; own = own }

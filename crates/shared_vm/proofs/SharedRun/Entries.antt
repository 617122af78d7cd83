-- The entries that turns left, by their seats.
use Rattle.shared_vm.proofs.Below.{ℕ, Bool, true, false, cond, eqb, List, [], map, Option, Some, None, inl, inr, refl, sym, ap, ◌∙◌, arith, eq-eqb, IfSome, All, cons_option, cases_lt, map-append, All-nil, All-cons, All-head, All-tail, All-same, filter_map-append, Tree, tree_of, Turn, turns_by, Entry, PlainEntry, plain_entry, plain_journal, entries_in, entries_by}
use Rattle.std.proofs.Common.{◌≡◌, ◌<◌, ◌∷◌, ◌++◌}
use mathlib.Core.List.{IsPrefix}

module _ {X : Type 0} where
  kept_tail : (Q : X → Type 0) (b : Bool) (x : X) (xs : List X) → All Q (cond b (x ∷ xs) xs) → All Q xs
  kept_tail Q true x xs all = All-tail Q x xs all
  kept_tail Q false x xs all = all

  kept_head : (Q : X → Type 0) (b : Bool) (x : X) (xs : List X) → b ≡ true → All Q (cond b (x ∷ xs) xs) → Q x
  kept_head Q true x xs is all = All-head Q x xs all
  kept_head Q false x xs is all = let no : ⊥ = cc in absurd no

  none_kept : (b : Bool) (x : X) (xs : List X) → cond b (x ∷ xs) xs ≡ [] → xs ≡ []
  none_kept true x xs is = let no : ⊥ = cc in absurd no
  none_kept false x xs is = is

  not_kept : (b : Bool) (x : X) (xs : List X) → b ≡ true → cond b (x ∷ xs) xs ≡ [] → ⊥
  not_kept true x xs kept is = cc
  not_kept false x xs kept is = cc

  pub front_nil : (xs ys : List X) → xs ++ ys ≡ [] → xs ≡ []
  front_nil [] ys is = refl
  front_nil (x ∷ xs) ys is = let no : ⊥ = cc in absurd no

  front_all : (P : X → Type 0) (xs ys : List X) → All P (xs ++ ys) → All P xs
  front_all P [] ys all = All-nil P
  front_all P (x ∷ xs) ys all = All-cons P x xs (All-head P x (xs ++ ys) all) (front_all P xs ys (All-tail P x (xs ++ ys) all))

abbrev HasFewer : ℕ → Turn Entry → Type 0
HasFewer n t = t.by < n

-- a fact of the turns of each number is one of each turn
pub each_turn : (P : ℕ → Turn Entry → Type 0) (n : ℕ) (log : List (Turn Entry)) → All (λ t. t.by < n) log → ((k : ℕ) → k < n → All (P k) (turns_by k log)) → All (λ t. P t.by t) log
each_turn P n [] few each = All-nil (λ (t : Turn Entry). P t.by t)
each_turn P n (t ∷ log) few each =
    let here : t.by < n = All-head (HasFewer n) t log few in
    All-cons (λ (t : Turn Entry). P t.by t) t log
    (kept_head (P t.by) (eqb t.by t.by) t (turns_by t.by log) (eq-eqb t.by t.by refl) (each t.by here))
    (each_turn P n log (All-tail (HasFewer n) t log few) (λ k below. kept_tail (P k) (eqb t.by k) t (turns_by k log) (each k below)))

-- a fact of what each turn left is one of each entry
entry_more : (Q : PlainEntry → Type 0) (o : Option Entry) (es : List Entry) → IfSome o (λ e. Q (plain_entry e)) → All Q (plain_journal es) → All Q (plain_journal (cons_option o es))
entry_more Q None es has all = all
entry_more Q (Some e) es has all = All-cons Q (plain_entry e) (plain_journal es) has all

pub each_entry : (Q : PlainEntry → Type 0) (log : List (Turn Entry)) → All (λ t. IfSome t.entry (λ e. Q (plain_entry e))) log → All Q (plain_journal (entries_in log))
each_entry Q [] all = All-nil Q
each_entry Q (t ∷ log) all =
    let P : Turn Entry → Type 0 = λ t. IfSome t.entry (λ e. Q (plain_entry e)) in
    entry_more Q t.entry (entries_in log) (All-head P t log all) (each_entry Q log (All-tail P t log all))

-- each entry is of the seat whose turn it was
abbrev pub IsOwn : Turn Entry → Type 0
IsOwn t = IfSome t.entry (λ e. e.seat ≡ t.by)

module _ (k : ℕ) where
  seat_more : (t : Turn Entry) (es : List Entry) (ts : List (Turn Entry)) (b : Bool) (o : Option Entry) → eqb t.by k ≡ b → t.entry ≡ o → IfSome o (λ e. e.seat ≡ t.by)
      → entries_by k (plain_journal es) ≡ plain_journal (entries_in ts) → entries_by k (plain_journal (cons_option o es)) ≡ plain_journal (entries_in (cond b (t ∷ ts) ts))
  seat_more t es ts true None is left own rest = rest ∙ ap (λ (o : Option Entry). plain_journal (cons_option o (entries_in ts))) (sym left)
  seat_more t es ts true (Some e) is left own rest =
      let mine : eqb e.seat k ≡ true = ap (λ (s : ℕ). eqb s k) own ∙ is in
      let front : entries_by k (plain_journal (e ∷ es)) ≡ plain_entry e ∷ entries_by k (plain_journal es) =
      ap (λ (b : Bool). cond b (plain_entry e ∷ entries_by k (plain_journal es)) (entries_by k (plain_journal es))) mine in
      front ∙ (ap (λ (r : List PlainEntry). plain_entry e ∷ r) rest ∙ ap (λ (o : Option Entry). plain_journal (cons_option o (entries_in ts))) (sym left))
  seat_more t es ts false None is left own rest = rest
  seat_more t es ts false (Some e) is left own rest =
      let other : eqb e.seat k ≡ false = ap (λ (s : ℕ). eqb s k) own ∙ is in
      ap (λ (b : Bool). cond b (plain_entry e ∷ entries_by k (plain_journal es)) (entries_by k (plain_journal es))) other ∙ rest

  -- the entries of a seat are those that its turns left
  pub entries_of_turns : (log : List (Turn Entry)) → All IsOwn log → entries_by k (plain_journal (entries_in log)) ≡ plain_journal (entries_in (turns_by k log))
  entries_of_turns [] all = refl
  entries_of_turns (t ∷ log) all =
      seat_more t (entries_in log) (turns_by k log) (eqb t.by k) t.entry refl refl (All-head IsOwn t log all) (entries_of_turns log (All-tail IsOwn t log all))

pub commands_plain : (es : List Entry) → map (λ (e : PlainEntry). e.command) (plain_journal es) ≡ map (λ (e : Entry). tree_of e.command.expr) es
commands_plain [] = refl
commands_plain (e ∷ es) = ap (λ (cs : List Tree). tree_of e.command.expr ∷ cs) (commands_plain es)

-- turns of which none is a later seat's are the first one's
only_first : (n : ℕ) (xs : List (Turn Entry)) → All (λ t. t.by < n) xs → ((k : ℕ) → 0 < k → k < n → turns_by k xs ≡ []) → turns_by 0 xs ≡ xs
only_first n [] few none = refl
only_first n (t ∷ xs) few none =
    let here : t.by < n = All-head (HasFewer n) t xs few in
    let rest : turns_by 0 xs ≡ xs = only_first n xs (All-tail (HasFewer n) t xs few) (λ k later below. none_kept (eqb t.by k) t (turns_by k xs) (none k later below)) in
    elim (cases_lt 0 t.by) [
      | inl later ↦ absurd (not_kept (eqb t.by t.by) t (turns_by t.by xs) (eq-eqb t.by t.by refl) (none t.by later here))
      | inr first ↦
          let zero : t.by ≡ 0 = omega arith in
          ap (λ (b : Bool). cond b (t ∷ turns_by 0 xs) (turns_by 0 xs)) (eq-eqb t.by 0 zero) ∙ ap (λ (ys : List (Turn Entry)). t ∷ ys) rest
    ]

-- what was seen before the later seats came has all entries of the first
pub first_entries : (n : ℕ) (opening rest log : List (Turn Entry)) → opening ++ rest ≡ log → All (λ t. t.by < n) log → turns_by 0 opening ≡ turns_by 0 log
    → ((k : ℕ) → 0 < k → k < n → turns_by k opening ≡ []) → All IsOwn log → IsPrefix (entries_by 0 (plain_journal (entries_in log))) (plain_journal (entries_in log))
first_entries n opening rest log parts few own none seats =
    let all : All (HasFewer n) opening = front_all (HasFewer n) opening rest (All-same (HasFewer n) (opening ++ rest) log parts few) in
    let whole : turns_by 0 log ≡ opening = sym own ∙ only_first n opening all none in
    let first : entries_by 0 (plain_journal (entries_in log)) ≡ plain_journal (entries_in opening) =
    entries_of_turns 0 log seats ∙ ap (λ (ts : List (Turn Entry)). plain_journal (entries_in ts)) whole in
    let cut : plain_journal (entries_in log) ≡ plain_journal (entries_in opening) ++ plain_journal (entries_in rest) =
    ap (λ (ts : List (Turn Entry)). plain_journal (entries_in ts)) (sym parts)
    ∙ (ap plain_journal (filter_map-append (λ (t : Turn Entry). t.entry) opening rest) ∙ map-append plain_entry (entries_in opening) (entries_in rest)) in
    (plain_journal (entries_in rest), ap (λ (es : List PlainEntry). es ++ plain_journal (entries_in rest)) first ∙ sym cut)

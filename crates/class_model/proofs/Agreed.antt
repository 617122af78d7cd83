-- Tables that give a class the same attributes and slots.
use Rattle.class_model.proofs.Below.{ℕ, Bool, true, false, cond, not, List, [], Option, Some, None, inl, inr, refl, ap, ◌∙◌, option_and_then, SlotId, New, SlotEntry, Sort, ByItself, BySequence, ByMapping, Nearest, is_slot, all_slots, sort_of, Includes, Classes, class_at, lin, own_of, first_along, along, Keys, Natives, is_name_of, wrapped, heap_entry, is_heap_at, given_entry, is_by_itself, entry, has_table, first_with, read_along}
use Rattle.std.proofs.Common.{◌≡◌, ◌&&◌, ◌∷◌}

pub bind-agrees : {A B : Type 0} (f g : A → Option B) (o p : Option A) → o ≡ p → ((x : A) → o ≡ Some x → f x ≡ g x) → option_and_then f o ≡ option_and_then g p
bind-agrees {A = A} {B = B} f g o p e h = go o h ∙ ap (option_and_then g) e
  where
    go : (o : Option A) → ((x : A) → o ≡ Some x → f x ≡ g x) → option_and_then f o ≡ option_and_then g o
    go None h = refl
    go (Some x) h = h x refl

pub first_along-agrees : {V : Type 0} (f g : ℕ → Option V) (line : List ℕ) → ((x : ℕ) → Includes line x → f x ≡ g x) → first_along f line ≡ first_along g line
first_along-agrees f g [] h = refl
first_along-agrees f g (c ∷ cs) h =
    let a = h c (inl refl) in
    let b = first_along-agrees f g cs (λ x k. h x (inr k)) in
    cc (a, b)

first_with-agrees : (f g : ℕ → Bool) (line : List ℕ) → ((x : ℕ) → Includes line x → f x ≡ g x) → first_with f line ≡ first_with g line
first_with-agrees f g [] h = refl
first_with-agrees f g (c ∷ cs) h =
    let a = h c (inl refl) in
    let b = first_with-agrees f g cs (λ x k. h x (inr k)) in
    cc (a, b)

first_with-held : (f : ℕ → Bool) (line : List ℕ) (x : ℕ) → first_with f line ≡ Some x → Includes line x
first_with-held f [] x e = cc
first_with-held f (c ∷ cs) x e = go (f c) (first_with-held f cs x) e
  where
    go : (b : Bool) → (first_with f cs ≡ Some x → Includes cs x) → cond b (Some c) (first_with f cs) ≡ Some x → Includes (c ∷ cs) x
    go true more e = inl (cc)
    go false more e = inr (more e)

-- slots are read alike where the classes along the line have the same entries
pub read_along-agrees : (f g : ℕ → SlotId → Option SlotEntry) (sort : Sort) (c : ℕ) (line : List ℕ) (s : SlotId) → f c ≡ g c → ((x : ℕ) → Includes line x → f x ≡ g x) → read_along f sort c line s ≡ read_along g sort c line s
read_along-agrees f g ByItself c line s e h = ap (λ own. own s) e
read_along-agrees f g BySequence c line s e h =
    bind-agrees (λ d. f d s) (λ d. g d s) (first_with (λ d. has_table (f d) BySequence all_slots) line) (first_with (λ d. has_table (g d) BySequence all_slots) line) (first_with-agrees _ _ line (λ x k. ap (λ own. has_table own BySequence all_slots) (h x k))) (λ x k. ap (λ own. own s) (h x (first_with-held _ line x k)))
read_along-agrees f g ByMapping c line s e h =
    bind-agrees (λ d. f d s) (λ d. g d s) (first_with (λ d. has_table (f d) ByMapping all_slots) line) (first_with (λ d. has_table (g d) ByMapping all_slots) line) (first_with-agrees _ _ line (λ x k. ap (λ own. has_table own ByMapping all_slots) (h x k))) (λ x k. ap (λ own. own s) (h x (first_with-held _ line x k)))
read_along-agrees f g Nearest c line s e h = first_along-agrees (λ d. f d s) (λ d. g d s) line (λ x k. ap (λ own. own s) (h x k))

-- two tables, and the classes at which they agree on a slot's names
module _ {K L : Type 0} (keys : Keys K) (others : Keys L) (natives : Natives) (s : SlotId) (t : Classes K) (u : Classes L) (At : ℕ → Type 0) (inside : (x : ℕ) (l : List ℕ) (y : ℕ) → At x → lin t x ≡ Some l → Includes l y → At y) (lins : (x : ℕ) → At x → lin t x ≡ lin u x) (heaps : (x : ℕ) → At x → is_heap_at (class_at t x) ≡ is_heap_at (class_at u x)) (owns : (x : ℕ) → At x → own_of (is_name_of keys s) (class_at t x) ≡ own_of (is_name_of others s) (class_at u x)) where
  heap_entry-agrees : (c : ℕ) (line : List ℕ) → At c → lin t c ≡ Some line → heap_entry keys t c line s ≡ heap_entry others u c line s
  heap_entry-agrees c line p e =
      let a = owns c p in
      let b : along (is_name_of keys s) t line ≡ along (is_name_of others s) u line =
      first_along-agrees (λ x. own_of (is_name_of keys s) (class_at t x)) (λ x. own_of (is_name_of others s) (class_at u x)) line (λ x h. owns x (inside c line x p e h)) in
      ap (λ o. wrapped s (cond (is_slot s New) o (along (is_name_of keys s) t line))) a ∙ ap (λ o. wrapped s (cond (is_slot s New) (own_of (is_name_of others s) (class_at u c)) o)) b

  given_entry-agrees : (c : ℕ) → At c → given_entry keys natives t s c ≡ given_entry others natives u s c
  given_entry-agrees c p =
      let a : option_and_then (λ line. heap_entry keys t c line s) (lin t c) ≡ option_and_then (λ line. heap_entry others u c line s) (lin u c) =
      bind-agrees (λ line. heap_entry keys t c line s) (λ line. heap_entry others u c line s) (lin t c) (lin u c) (lins c p) (λ line e. heap_entry-agrees c line p e) in
      ap (λ o. cond (is_heap_at (class_at t c)) o (natives c s)) a ∙ ap (λ b. cond b (option_and_then (λ line. heap_entry others u c line s) (lin u c)) (natives c s)) (heaps c p)

  pub entry-agrees : (c : ℕ) → At c → entry keys natives t c s ≡ entry others natives u c s
  entry-agrees c p =
      let a : option_and_then (first_along (given_entry keys natives t s)) (lin t c) ≡ option_and_then (first_along (given_entry others natives u s)) (lin u c) =
      bind-agrees (first_along (given_entry keys natives t s)) (first_along (given_entry others natives u s)) (lin t c) (lin u c) (lins c p) (λ line e. first_along-agrees (given_entry keys natives t s) (given_entry others natives u s) line (λ x h. given_entry-agrees x (inside c line x p e h))) in
      let g = given_entry-agrees c p in
      ap (λ o. cond (not (is_heap_at (class_at t c)) && is_by_itself (sort_of s)) o (given_entry keys natives t s c)) a
      ∙ ap (λ o. cond (not (is_heap_at (class_at t c)) && is_by_itself (sort_of s)) (option_and_then (first_along (given_entry others natives u s)) (lin u c)) o) g
      ∙ ap (λ b. cond (not b && is_by_itself (sort_of s)) (option_and_then (first_along (given_entry others natives u s)) (lin u c)) (given_entry others natives u s c)) (heaps c p)

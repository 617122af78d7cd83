-- The lines of classes are the same by numbers as by texts.
use Rattle.world_text.proofs.Below.{ℕ, zero, suc, List, [], map, length, take, get_or, Some, None, refl, sym, ap, ◌∙◌, arith, codes, slice_get, option_map, flat_map, common_steps, flat_map-append, take_more, length-map, append-nil, slice_get_within, get_or_from_slice_get, PyStrInterned, PyTypeRef, SlotId, SlotEntry, Known, known_texts, all_slots, Text, escaped, joined, end_of_line, class_head, slots_head, slot_word, class_lines, Classes, class_at, lin, renamed, short_name, numbers_of, Keys, is_heap_at, natives_of, at-renamed, numbers-renamed, lin-renamed, entry-renamed, table_keys, numbers, text_keys, or_empty, slot_words, own_words, name_at, names_along, class_text, heap_text, classes_text, Held, Reading, Reads, spelled, plain, known-read}
use Rattle.std.proofs.Common.{◌≡◌, ◌+◌, ◌≤◌, cond, ◌∷◌, ◌++◌, Option}
use Rattle.std.proofs.lemmas.List.{take_all}
use Rattle.class_model.specs.Slot.{entry}

module _ {K L : Type 0} (f : K → L) (keys : Keys K) (others : Keys L) (agree : (a b : K) → others.same (f a) (f b) ≡ keys.same a b) (special : (k : Known) → others.special k ≡ f (keys.special k)) (t : Classes K) where
  name-renamed : (c : ℕ) → name_at (renamed f t) c ≡ name_at t c
  name-renamed c = at-renamed f (λ o. or_empty (option_map (short_name {K = L}) o)) (λ o. or_empty (option_map (short_name {K = K}) o)) refl (λ k. refl) t c

  names-renamed : (o : Option (List ℕ)) → names_along (renamed f t) o ≡ names_along t o
  names-renamed None = refl
  names-renamed (Some line) = λ i. map (λ c. name-renamed c i) line

  words-renamed : (c : ℕ) → own_words others (renamed f t) c all_slots ≡ own_words keys t c all_slots
  words-renamed c =
      let same : ◌≡◌ {A = SlotId → Option SlotEntry} (λ s. entry others natives_of (renamed f t) c s) (λ s. entry keys natives_of t c s) = λ i s. entry-renamed f keys others agree special natives_of t c s i in
      ap (λ own. flat_map (λ s. slot_words s (own s)) all_slots) same

  class-renamed : (c : ℕ) → class_text others (renamed f t) c ≡ class_text keys t c
  class-renamed c =
      ap (λ x. class_lines x (names_along (renamed f t) (lin (renamed f t) c)) (own_words others (renamed f t) c all_slots)) (name-renamed c)
      ∙ ap (λ o. class_lines (name_at t c) (names_along (renamed f t) o) (own_words others (renamed f t) c all_slots)) (lin-renamed f t c)
      ∙ ap (λ xs. class_lines (name_at t c) xs (own_words others (renamed f t) c all_slots)) (names-renamed (lin t c))
      ∙ ap (λ ws. class_lines (name_at t c) (names_along t (lin t c)) ws) (words-renamed c)

  heap-renamed : (c : ℕ) → heap_text others (renamed f t) c ≡ heap_text keys t c
  heap-renamed c =
      ap (λ b. cond b (class_text others (renamed f t) c) []) (at-renamed f is_heap_at is_heap_at refl (λ k. refl) t c)
      ∙ ap (λ x. cond (is_heap_at (class_at t c)) x []) (class-renamed c)

  all-renamed : (cs : List ℕ) → flat_map (heap_text others (renamed f t)) cs ≡ flat_map (heap_text keys t) cs
  all-renamed [] = refl
  all-renamed (c ∷ cs) =
      ap (λ x. x ++ flat_map (heap_text others (renamed f t)) cs) (heap-renamed c) ∙ ap (λ x. heap_text keys t c ++ x) (all-renamed cs)

  text-renamed : flat_map (heap_text others (renamed f t)) (numbers_of (renamed f t)) ≡ flat_map (heap_text keys t) (numbers_of t)
  text-renamed = ap (flat_map (heap_text others (renamed f t))) (numbers-renamed f t) ∙ all-renamed (numbers_of t)

-- what is written by numbers is the text of the plain world's classes
pub text-seen : (w : Held) (t : Reading) → ((n : ℕ) (x : List ℕ) → slice_get known_texts n ≡ Some x → slice_get w.names n ≡ Some x) → Reads t w → classes_text (plain t w) ≡ flat_map (heap_text table_keys w.classes) (numbers_of w.classes)
unfolding plain classes_text
text-seen w t s r =
    text-renamed (spelled t) table_keys text_keys (λ a b. t.same a.0 b.0) (known-read w t s r) w.classes

-- the names of the first ones, when all were taken
pub names-end : (t : Classes PyStrInterned) (line : List PyTypeRef) (i : ℕ) → length line ≤ i → map (λ c. name_at t c.0) (take i line) ≡ map (name_at t) (numbers line)
names-end t [] zero l = refl
names-end t [] (suc i) l = refl
names-end t (c ∷ line) zero l = absurd (omega arith)
names-end t (c ∷ line) (suc i) l = ap (λ xs. name_at t c.0 ∷ xs) (names-end t line i (omega arith))

-- one class more
pub text-next : {K : Type 0} (keys : Keys K) (t : Classes K) (xs : List ℕ) (n c : ℕ) → slice_get xs n ≡ Some c → flat_map (heap_text keys t) (take (n + 1) xs) ≡ flat_map (heap_text keys t) (take n xs) ++ heap_text keys t c
text-next keys t xs n c e =
    let l = slice_get_within xs n c e in
    ap (flat_map (heap_text keys t)) (take_more xs n c l)
    ∙ flat_map-append (heap_text keys t) (take n xs) (get_or xs n c ∷ [])
    ∙ ap (λ ys. flat_map (heap_text keys t) (take n xs) ++ ys) (append-nil (heap_text keys t (get_or xs n c)))
    ∙ ap (λ d. flat_map (heap_text keys t) (take n xs) ++ heap_text keys t d) (get_or_from_slice_get xs n c c e)

pub all-taken : {K : Type 0} (t : Classes K) (n : ℕ) → length t ≤ n → take n (numbers_of t) ≡ numbers_of t
all-taken t n l = take_all n (numbers_of t) (omega (arith, length-map t (λ k. k.number), l))

regrouped : (before head names end slots words : Text) → before ++ head ++ names ++ end ++ slots ++ words ++ end ≡ before ++ (head ++ names ++ end ++ slots ++ words ++ end)
regrouped before head names end slots words = grind (arith, common_steps)

-- both lines of a class, with its name and its linearisation
pub class-written : {K : Type 0} (keys : Keys K) (t : Classes K) (c : ℕ) (name : Text) (line : List ℕ) (before mid new : Text) → option_map short_name (class_at t c) ≡ Some name → lin t c ≡ Some line
    → mid ≡ before ++ class_head name ++ joined (codes ", ") (map escaped (map (name_at t) line)) ++ end_of_line
    → new ≡ mid ++ slots_head name ++ flat_map slot_word (own_words keys t c all_slots) ++ end_of_line
    → new ≡ before ++ class_text keys t c
class-written keys t c name line before mid new called lined first second =
    second ∙ ap (λ x. x ++ slots_head name ++ flat_map slot_word (own_words keys t c all_slots) ++ end_of_line) first
    ∙ regrouped before (class_head name) (joined (codes ", ") (map escaped (map (name_at t) line))) end_of_line (slots_head name) (flat_map slot_word (own_words keys t c all_slots))
    ∙ ap (λ o. before ++ class_lines name (names_along t o) (own_words keys t c all_slots)) (sym lined)
    ∙ ap (λ o. before ++ class_lines (or_empty o) (names_along t (lin t c)) (own_words keys t c all_slots)) (sym called)

-- A class that a script makes, read by texts.
use Rattle.class_world.proofs.Below.{ℕ, Bool, true, false, cond, not, List, [], map, filter, length, Option, Some, None, refl, sym, ap, ◌∙◌, subst, arith, Vec, list_any, All-filter, PyObjectRef, PyStrInterned, heap_flags, number_of, Text, rekeyed, renamed, any_has_dict, is_dict, slot_members, slots_bring, heap_class, any_has_dict-agrees, has_dict-renamed, table_keys, slot_names, is_text, text_keys, Held, slot_texts, of_slots, Reading, Reads, spelled, bindings, plain, is_marked_heap, AreNames, Holds, AllHold, Sound}
use Rattle.std.proofs.Common.{◌≡◌, ◌||◌, ◌<◌, ◌∷◌}
use Rattle.py_node.specs.declared.known.Known.TheVariants.{Dict}
use Rattle.class_world.proofs.Look.{known-read}

-- the members are among the names
pub members-named : (w : Held) (slots : Option (Vec PyStrInterned)) → AllHold w (of_slots slots) → Holds w (AreNames (slot_members table_keys (slot_names slots)))
unfolding Holds
members-named w None h = λ i d l. absurd (omega (arith, l))
members-named w (Some v) h = All-filter (λ n. not (is_dict table_keys n)) (λ x. x.0 < length w.names) v.items h.0

-- its flags don't mark its objects as methods
pub heap-unmarked : (dict : Bool) → is_marked_heap (heap_flags dict) ≡ false
heap-unmarked true = refl
heap-unmarked false = refl

module _ (w old : Held) (v : w ≡ old) (s : Sound w) (t : Reading) (r : Reads t old) where
  is_dict-read : (n : PyStrInterned) → is_dict text_keys (spelled t n) ≡ is_dict table_keys n
  is_dict-read n =
      ap (is_text (t.text n.0)) (known-read w t s.known (subst (Reads t) (sym v) r) Dict) ∙ t.same n.0 (number_of Dict)

  kept-read : (ns : List PyStrInterned) → map (spelled t) (filter (λ n. not (is_dict table_keys n)) ns) ≡ filter (λ x. not (is_dict text_keys x)) (map (spelled t) ns)
  kept-read [] = refl
  kept-read (n ∷ ns) =
      go (not (is_dict table_keys n)) (kept-read ns)
      ∙ ap (λ b. cond (not b) (spelled t n ∷ filter (λ x. not (is_dict text_keys x)) (map (spelled t) ns)) (filter (λ x. not (is_dict text_keys x)) (map (spelled t) ns))) (sym (is_dict-read n))
    where
      go : (b : Bool) → map (spelled t) (filter (λ n. not (is_dict table_keys n)) ns) ≡ filter (λ x. not (is_dict text_keys x)) (map (spelled t) ns) → map (spelled t) (cond b (n ∷ filter (λ n. not (is_dict table_keys n)) ns) (filter (λ n. not (is_dict table_keys n)) ns)) ≡ cond b (spelled t n ∷ filter (λ x. not (is_dict text_keys x)) (map (spelled t) ns)) (filter (λ x. not (is_dict text_keys x)) (map (spelled t) ns))
      go true e = ap (λ xs. spelled t n ∷ xs) e
      go false e = e

  any-read : (ns : List PyStrInterned) → list_any (is_dict table_keys) ns ≡ list_any (is_dict text_keys) (map (spelled t) ns)
  any-read [] = refl
  any-read (n ∷ ns) =
      ap (λ b. b || list_any (is_dict table_keys) ns) (sym (is_dict-read n)) ∙ ap (λ b. is_dict text_keys (spelled t n) || b) (any-read ns)

  pub members-seen : (slots : Option (Vec PyStrInterned)) → map (spelled t) (slot_members table_keys (slot_names slots)) ≡ slot_members text_keys (slot_texts t slots)
  members-seen None = refl
  members-seen (Some ns) = kept-read ns.items

  bring-read : (slots : Option (Vec PyStrInterned)) → slots_bring table_keys (slot_names slots) ≡ slots_bring text_keys (slot_texts t slots)
  bring-read None = refl
  bring-read (Some ns) = any-read ns.items

  dicts-read : (bs : List ℕ) → any_has_dict w.classes bs ≡ any_has_dict (plain t old).classes bs
  unfolding plain
  dicts-read bs = subst (λ u. any_has_dict w.classes bs ≡ any_has_dict (plain t u).classes bs) v (sym (any_has_dict-agrees (renamed (spelled t) w.classes) w.classes bs (λ b h. has_dict-renamed (spelled t) w.classes b)))

  pub dict-read : (bs : List ℕ) (slots : Option (Vec PyStrInterned)) → (slots_bring table_keys (slot_names slots) || any_has_dict w.classes bs) ≡ (slots_bring text_keys (slot_texts t slots) || any_has_dict (plain t old).classes bs)
  dict-read bs slots = ap (λ b. b || any_has_dict w.classes bs) (bring-read slots) ∙ ap (λ b. slots_bring text_keys (slot_texts t slots) || b) (dicts-read bs)

  -- the class is the same but for its number, which is given anew
  pub class-read : (name : Text) (n m : ℕ) (bs : List ℕ) (attrs : List (PyStrInterned × PyObjectRef)) (slots : Option (Vec PyStrInterned)) → record (rekeyed (spelled t) (heap_class table_keys w.classes name n bs attrs (slot_names slots))) { number = m } ≡ heap_class text_keys (plain t old).classes name m bs (bindings t attrs) (slot_texts t slots)
  class-read name n m bs attrs slots =
      let members = members-seen slots in
      let brings = bring-read slots in
      let dicts = dicts-read bs in
      λ i. record { name = name; number = m; bases = bs; attrs = bindings t attrs; members = members i; flags = heap_flags (brings i || dicts i); brings = brings i }

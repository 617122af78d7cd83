-- What an iterator that is asked for its next item does.
use Rattle.native_containers.proofs.Below.{◌∙◌, ℕ, [], None, Ok, Err, refl, ap, sym, encode_utf8, Next, OfIterator, GetItem, known_text, SequenceIterator, IterEnd, PyObjectRef, raised, Value, Step, Ask, End, Task, the_int, the_str, Bindings, ANumber, AText, Asks, DoSpecial, ToAttribute, ToNative, Ends, value, fault, datum_at, next_node, with_node, World, Reading, Reads, plain, task_of, Nothing, Item, Character, Unknown, ItemKept, Iterating, found_in, moved_past, next_in, next_place, with_place, Does, item_stands, item_job_say, PlainWorld, Ended, Told, Answered}
use Rattle.std.proofs.Common.{◌≡◌, ◌∷◌}
use Rattle.std.specs.Prelude.{pos}
use Rattle.native_containers.proofs.NativeItems.Steps.{ends-does, made-does}

iterating-alike : (o : PyObjectRef) (t : Reading) (kw : Bindings) (u : PlainWorld) (r : Ended) (more : Told) → item_job_say u (ToNative (OfIterator Next) (o ∷ []) kw) (Answered r ∷ more) ≡ item_stands t (Iterating o) r u more
unfolding item_job_say
iterating-alike o t kw u r more = refl

module _ (o : PyObjectRef) (i : SequenceIterator) (n : ℕ) (old new : World) (reads : (t : Reading) → Reads t new → Reads t old) where
  abbrev DoesNext : Step ItemKept → Type 0
  DoesNext step = Does (OfIterator Next) (o ∷ []) (λ t u. next_in u o i n (found_in n (datum_at u i.object))) old new step

  -- it has ended
  pub nothing-next : ((t : Reading) → found_in n (datum_at (plain t old) i.object) ≡ Nothing) → ((t : Reading) → plain t new ≡ with_place (plain t old) o i None) → DoesNext (End (Err (raised IterEnd)))
  nothing-next found set =
      ends-does (OfIterator Next) (o ∷ []) (λ t u. next_in u o i n (found_in n (datum_at u i.object))) (λ t u. Ends (with_place u o i None) (fault IterEnd)) old new (Err (raised IterEnd))
      (λ t. ap (λ f. next_in (plain t old) o i n f) (found t)) (λ t q. (reads t q, ap (λ p. Ends p (fault IterEnd)) (sym (set t))))

  -- the item moves it on
  pub item-next : (r : PyObjectRef) → ((t : Reading) → found_in n (datum_at (plain t old) i.object) ≡ Item r) → ((t : Reading) → plain t new ≡ with_place (plain t old) o i (next_place n)) → DoesNext (End (Ok (Value r)))
  item-next r found set =
      ends-does (OfIterator Next) (o ∷ []) (λ t u. next_in u o i n (found_in n (datum_at u i.object))) (λ t u. moved_past u o i n r) old new (Ok (Value r))
      (λ t. ap (λ f. next_in (plain t old) o i n f) (found t)) (λ t q. (reads t q, ap (λ p. Ends p (value r)) (sym (set t))))

  -- a new text of the character does
  pub character-next : (c : ℕ) (r : PyObjectRef) → ((t : Reading) → found_in n (datum_at (plain t old) i.object) ≡ Character c) → ((t : Reading) → next_node (plain t old) the_str ≡ r) → ((t : Reading) → plain t new ≡ with_place (with_node (plain t old) the_str (AText (encode_utf8 c))) o i (next_place n)) → DoesNext (End (Ok (Value r)))
  character-next c r found node set =
      ends-does (OfIterator Next) (o ∷ []) (λ t u. next_in u o i n (found_in n (datum_at u i.object))) (λ t u. next_in u o i n (Character c)) old new (Ok (Value r))
      (λ t. ap (λ f. next_in (plain t old) o i n f) (found t))
      (λ t q. (reads t q, ap (λ x. moved_past (with_node (plain t old) the_str (AText (encode_utf8 c))) o i n x) (node t) ∙ ap (λ p. Ends p (value r)) (sym (set t))))

  -- the object is asked for the item of a new number
  pub unknown-next : (asked : Task) → ((t : Reading) → found_in n (datum_at (plain t old) i.object) ≡ Unknown) → ((t : Reading) → plain t new ≡ with_node (plain t old) the_int (ANumber (pos n))) → ((t : Reading) → Reads t new → task_of t asked ≡ ToAttribute (DoSpecial i.object (known_text GetItem) (next_node (plain t old) the_int ∷ []) [])) → DoesNext (Ask asked (Iterating o))
  unknown-next asked found made task =
      let other = λ (t : Reading). ToAttribute (DoSpecial i.object (known_text GetItem) (next_node (plain t old) the_int ∷ []) []) in
      made-does (OfIterator Next) (o ∷ []) (λ t u. next_in u o i n (found_in n (datum_at u i.object))) old new asked other (Iterating o)
      (λ t. ap (λ f. next_in (plain t old) o i n f) (found t) ∙ ap (λ p. Asks p [] (other t)) (sym (made t))) reads task (iterating-alike o)

use Rattle.world_text.proofs.Lemmas.{suc, List, sym, ap, ◌∙◌, arith, String, string_bytes, Global, place_of, PyObjectRef, Payload, item_texts, entry_text, tuple_text, list_text, dict_text, datum_text, containers, text_within, Reading, plain, datum, ok-map, texts_of, inside, or_dots, items-shown, part-there, item-there, inside-less, tuple-text, list-text, dict-text}
use Rattle.std.proofs.Common.{◌≡◌}
use Rattle.world_text.proofs.show.+show.Goals as goal

pub item_texts-text_within-requires : goal.item_texts-text_within-requires
item_texts-text_within-requires t c =
    let items = c.first_items-item-items in
    (omega (arith, c.decreases, c.in-Some.ensures.0, c.in-Some.ensures.1), item-there c.args.world.now c.args.items.now items.result.now c.loop-item.item-index _ items.ensures c.loop-item-test.true c.requires)

pub item_texts-returns-in_ok-push_rest-in-Some : goal.item_texts-returns-in_ok-push_rest-in-Some
item_texts-returns-in_ok-push_rest-in-Some t c = λ t.
    let items = c.first_items-item-items in
    let less : c.args.depth ≡ suc c.in-Some.less = omega (arith, c.in-Some.ensures.0, c.in-Some.ensures.1) in
    inside-less c.args.depth c.in-Some.less (λ n. item_texts (text_within n (plain t c.args.world.now)) c.args.items.now) _ less
    (items-shown (text_within c.in-Some.less (plain t c.args.world.now)) c.args.items.now items.result.now c.loop-item.item-index _ _ items.ensures c.loop-item-test.false (c.loop-item.invariant t) c.in_ok-push_rest-in-Some.ensures)

pub entry_texts-show_entry-requires : goal.entry_texts-show_entry-requires
entry_texts-show_entry-requires t c =
    let items = c.first_items-entry-items in (
      omega (arith, c.decreases, c.in-Some.ensures.0, c.in-Some.ensures.1),
      (
        part-there c.args.world.now (λ e. e.0) c.args.entries.now items.result.now c.loop-entry.entry-index _ items.ensures c.loop-entry-test.true c.requires.keys,
        part-there c.args.world.now (λ e. e.1) c.args.entries.now items.result.now c.loop-entry.entry-index _ items.ensures c.loop-entry-test.true c.requires.values,
      ),
    )

pub entry_texts-returns-in_ok-push_rest-in-Some : goal.entry_texts-returns-in_ok-push_rest-in-Some
entry_texts-returns-in_ok-push_rest-in-Some t c = λ t.
    let items = c.first_items-entry-items in
    let less : c.args.depth ≡ suc c.in-Some.less = omega (arith, c.in-Some.ensures.0, c.in-Some.ensures.1) in
    inside-less c.args.depth c.in-Some.less (λ n. item_texts (entry_text (text_within n (plain t c.args.world.now))) c.args.entries.now) _ less
    (items-shown (entry_text (text_within c.in-Some.less (plain t c.args.world.now))) c.args.entries.now items.result.now c.loop-entry.entry-index _ _ items.ensures c.loop-entry-test.false (c.loop-entry.invariant t) c.in_ok-push_rest-in-Some.ensures)

pub show_payload-returns-in_ok-item_texts-in-Tuple : goal.show_payload-returns-in_ok-item_texts-in-Tuple
unfolding place_of
show_payload-returns-in_ok-item_texts-in-Tuple t c =
    let w = c.args.world.now in
    let k = c.in-Tuple in
    let test = c.if-is-3.ensures in
    let f = λ (s : String Global) (e : string_bytes s ≡ or_dots tuple_text (texts_of c.in_ok-item_texts-in-Tuple.field-0)) (t : Reading).
    let u = plain t w in
    let texts = c.in_ok-item_texts-in-Tuple.ensures t ∙ ap (λ (xs : List (PyObjectRef)). inside c.args.depth (λ n. item_texts (text_within n u) xs)) c.deref.ensures.value in
    tuple-text u c.args.depth c.args.class.0 (string_bytes s) (texts_of c.in_ok-item_texts-in-Tuple.field-0) k.items.items test e texts
    ∙ sym (ap (λ (p : Payload). datum_text (containers c.args.depth u) u c.args.class.0 (datum t p)) k.is) in
    ok-map _ _ c.tuple_of.result f c.tuple_of.ensures

pub show_payload-returns-in_ok-item_texts-in-List : goal.show_payload-returns-in_ok-item_texts-in-List
unfolding place_of
show_payload-returns-in_ok-item_texts-in-List t c =
    let w = c.args.world.now in
    let k = c.in-List in
    let test = c.if-is-4.ensures in
    let f = λ (s : String Global) (e : string_bytes s ≡ or_dots list_text (texts_of c.in_ok-item_texts-in-List.field-0)) (t : Reading).
    let u = plain t w in
    let texts = c.in_ok-item_texts-in-List.ensures t ∙ ap (λ (xs : List (PyObjectRef)). inside c.args.depth (λ n. item_texts (text_within n u) xs)) c.deref-in-List.ensures.value in
    list-text u c.args.depth c.args.class.0 (string_bytes s) (texts_of c.in_ok-item_texts-in-List.field-0) k.items.items test e texts
    ∙ sym (ap (λ (p : Payload). datum_text (containers c.args.depth u) u c.args.class.0 (datum t p)) k.is) in
    ok-map _ _ c.list_of.result f c.list_of.ensures

pub show_payload-returns-in_ok-entry_texts-in-Dict : goal.show_payload-returns-in_ok-entry_texts-in-Dict
unfolding place_of
show_payload-returns-in_ok-entry_texts-in-Dict t c =
    let w = c.args.world.now in
    let k = c.in-Dict in
    let test = c.if-is-5.ensures in
    let f = λ (s : String Global) (e : string_bytes s ≡ or_dots dict_text (texts_of c.in_ok-entry_texts-in-Dict.field-0)) (t : Reading).
    let u = plain t w in
    let texts = c.in_ok-entry_texts-in-Dict.ensures t ∙ ap (λ (xs : List (PyObjectRef × PyObjectRef)). inside c.args.depth (λ n. item_texts (entry_text (text_within n u)) xs)) c.entries.ensures.entries in
    dict-text u c.args.depth c.args.class.0 (string_bytes s) (texts_of c.in_ok-entry_texts-in-Dict.field-0) k.dict.items test e texts
    ∙ sym (ap (λ (p : Payload). datum_text (containers c.args.depth u) u c.args.class.0 (datum t p)) k.is) in
    ok-map _ _ c.dict_of.result f c.dict_of.ensures

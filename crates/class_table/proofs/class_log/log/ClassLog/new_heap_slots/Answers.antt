use Rattle.class_table.proofs.Lemmas.{List, map, sym, ap, ◌∙◌, heap_flags, PyTypeRef, any_has_dict, slots_bring, numbers, slot_names, table_keys, ClassChange, change_of, made_by_script, logged-kept, logged-made, noted-as, heap-made, heap-changed, script-change}
use Rattle.std.proofs.Common.{◌≡◌, ◌||◌}
use Rattle.class_table.proofs.class_log.log.ClassLog.new_heap_slots.Goals as goal
use Rattle.class_table.proofs.class_log.log.ClassLog.new_heap_slots.Goals.{in-Make+in-Some-1, in-Make+in-None-1, in-SetBases-1, in-SetOwn-1}

pub returns-in-Ok-new_heap_slots-clause-law : goal.returns-in-Ok-new_heap_slots-clause-law
returns-in-Ok-new_heap_slots-clause-law c =
    let t = c.args.classes.now in
    let bs = numbers c.args.bases.items in
    let ns = slot_names c.args.slots in
    let change = made_by_script t c.args.number.0 c.args.name.now bs c.args.attrs ns in
    let flags = c.of_script_class-flags.ensures ∙ ap heap_flags (c.would_have_dict.ensures ∙ ap (λ (ds : List PyTypeRef). slots_bring table_keys ns || any_has_dict t (numbers ds)) c.deref.ensures.value) in
    let same : change_of c.in-Ok.change ≡ change = c.in-Ok.ensures ∙ script-change t c.args.number c.args.name.now c.args.bases.items c.deref-2.result.now c.args.attrs c.args.slots c.of_script_class-flags.result c.deref-2.ensures.value flags in
    logged-made c.args.self.now t change
    (heap-made t c.args.number.0 c.args.name.now bs c.args.attrs ns c.requires.fresh c.requires.bases (sym c.in-Ok-new_heap_slots.ensures.refused)) _
    (noted-as c.self.inside.changes.items c.reserve.new.self.items c.push_reserved.new.self.items _ change c.args.self.now c.self.view_is c.reserve.ensures.items c.push_reserved.ensures.items same) _
    (c.in-Ok-new_heap_slots.ensures.added ∙ heap-changed t c.args.number.0 c.args.name.now bs c.args.attrs ns)

-- the change is dropped, whichever it is
pub returns-in-Err-clause-law : goal.returns-in-Err-clause-law
returns-in-Err-clause-law c =
    let whole : c.match-change.self ≡ map change_of c.reserve.new.self.items = elim c.match-change.branch [ in-Make+in-Some-1 w ↦ w.self-is | in-Make+in-None-1 w ↦ w.self-is | in-SetBases-1 w ↦ w.self-is | in-SetOwn-1 w ↦ w.self-is ] in
    logged-kept c.args.self.now c.match-change.self c.args.classes.now _ (whole ∙ ap (λ (cs : List ClassChange). map change_of cs) c.reserve.ensures.items ∙ c.self.view_is) c.in-Err.ensures.err

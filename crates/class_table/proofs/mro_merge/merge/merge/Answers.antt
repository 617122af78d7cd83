use Rattle.class_table.proofs.Lemmas.{[], List, Some, sym, ap, ◌∙◌, append-nil, option_map, Vec, map-append, are_empty, first_free, struck, merged, first-past, merged-empty, merged-stuck, merged-step, struck-fewer, PyTypeRef, rows, put_before}
use Rattle.std.proofs.Common.{◌≡◌, ◌∷◌, ◌++◌}
use Rattle.class_table.specs.MroMerge.Lists.{numbers}
use Rattle.class_table.proofs.mro_merge.merge.merge.Goals as goal

head_at : (xs ys : List (Vec PyTypeRef)) → xs ≡ ys → first_free (rows xs) (rows xs) ≡ first_free (rows ys) (rows ys)
head_at xs ys e = ap (λ (zs : List (Vec PyTypeRef)). first_free (rows zs) (rows zs)) e

pub returns-in-None : goal.returns-in-None
returns-in-None c =
    let full = ap (λ (zs : List (Vec PyTypeRef)). are_empty (rows zs)) (sym c.deref.ensures.value) ∙ sym c.are_empty.ensures ∙ c.loop-lists-test.true in
    let none = sym (c.in-None.ensures ∙ head_at _ _ c.deref-in-loop-lists.ensures.value) in
    sym (c.loop-lists.invariant ∙ ap (option_map (λ xs. numbers c.loop-lists.line.items ++ xs)) (merged-stuck (rows c.loop-lists.lists.items) full none))

pub loop-lists-smaller : goal.loop-lists-smaller
loop-lists-smaller c =
    let some = sym (c.in-Some.ensures ∙ head_at _ _ c.deref-in-loop-lists.ensures.value) in
    let fewer = struck-fewer c.in-Some.next.0 (rows c.loop-lists.lists.items) some in
    rw c.strike.ensures fewer

pub loop-lists-preserved : goal.loop-lists-preserved
loop-lists-preserved c =
    let full = ap (λ (zs : List (Vec PyTypeRef)). are_empty (rows zs)) (sym c.deref.ensures.value) ∙ sym c.are_empty.ensures ∙ c.loop-lists-test.true in
    let some = sym (c.in-Some.ensures ∙ head_at _ _ c.deref-in-loop-lists.ensures.value) in
    c.loop-lists.invariant
    ∙ ap (option_map (λ xs. numbers c.loop-lists.line.items ++ xs)) (merged-step (rows c.loop-lists.lists.items) c.in-Some.next.0 full some)
    ∙ put_before (numbers c.loop-lists.line.items) c.in-Some.next.0 (merged (struck c.in-Some.next.0 (rows c.loop-lists.lists.items)))
    ∙ ap (λ ls. option_map (λ xs. (numbers c.loop-lists.line.items ++ c.in-Some.next.0 ∷ []) ++ xs) (merged ls)) (sym c.strike.ensures)
    ∙ ap (λ line. option_map (λ xs. line ++ xs) (merged (rows c.strike.new.lists.items))) (sym (map-append (λ (k : PyTypeRef). k.0) c.loop-lists.line.items (c.in-Some.next ∷ [])) ∙ ap numbers (sym c.in_ok-push-in-Some.ensures.items))

pub returns : goal.returns
returns c =
    let empty = ap (λ (zs : List (Vec PyTypeRef)). are_empty (rows zs)) (sym c.deref.ensures.value) ∙ sym c.are_empty.ensures ∙ c.loop-lists-test.false in
    sym (c.loop-lists.invariant ∙ ap (option_map (λ xs. numbers c.loop-lists.line.items ++ xs)) (merged-empty (rows c.loop-lists.lists.items) empty) ∙ ap Some (append-nil (numbers c.loop-lists.line.items)))

pub strike-requires : goal.strike-requires
strike-requires c =
    let some = sym (c.in-Some.ensures ∙ head_at _ _ c.deref-in-loop-lists.ensures.value) in
    first-past c.in-Some.next.0 (rows c.loop-lists.lists.items) some

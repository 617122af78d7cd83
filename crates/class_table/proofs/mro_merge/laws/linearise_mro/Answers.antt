use Rattle.class_table.proofs.Lemmas.{false, List, length, arith, Option, Some, None, refl, sym, ap, ◌∙◌, option_map, Vec, PyTypeRef, breaks_precedence, rows, heads, with_heads, IsLeastMerge, IsConflict, merged, least-merge, none-merge, alone-of, rows-heads}
use Rattle.std.proofs.Common.{◌≡◌}
use Rattle.class_table.specs.MroMerge.Lists.{numbers}
use Rattle.class_table.proofs.mro_merge.laws.linearise_mro.Goals as goal

least-of : (lists all : List (Vec PyTypeRef)) (line : Vec PyTypeRef) (r : Option (Vec PyTypeRef)) → rows all ≡ with_heads (rows lists) → r ≡ Some line → option_map (λ (v : Vec PyTypeRef). numbers v.items) r ≡ merged (rows all) → IsLeastMerge (with_heads (rows lists)) (numbers line.items)
least-of lists all line r put is found =
    least-merge (with_heads (rows lists)) (numbers line.items) (sym (ap merged put) ∙ sym found ∙ ap (option_map (λ (v : Vec PyTypeRef). numbers v.items)) is)

conflict-of : (lists all seen : List (Vec PyTypeRef)) (r : Option (Vec PyTypeRef)) → rows all ≡ with_heads (rows lists) → r ≡ None → option_map (λ (v : Vec PyTypeRef). numbers v.items) r ≡ merged (rows all) → breaks_precedence (heads (rows seen)) (rows seen) ≡ false → seen ≡ lists → IsConflict (rows lists)
conflict-of lists all seen r put is found kept same = record {
  kept = ap (λ (l : List (Vec PyTypeRef)). breaks_precedence (heads (rows l)) (rows l)) (sym same) ∙ kept;
  none = none-merge (with_heads (rows lists)) (sym (ap merged put) ∙ sym found ∙ ap (option_map (λ (v : Vec PyTypeRef). numbers v.items)) is);
}

pub returns-in-Some-clause-merge : goal.returns-in-Some-clause-merge
returns-in-Some-clause-merge c =
    let put = rows-heads c.args.lists.items c.push.new.self.items c.deref-2.result.now c.in_ok-last.last c.in_ok-push.ensures.items c.in_ok-last.ensures c.deref-2.ensures.value in
    least-of c.args.lists.items c.push.new.self.items c.in-Some.line c.in_ok-line.field-0 put c.in-Some.is c.in_ok-line.ensures

pub returns-in-Some-clause-conflict : goal.returns-in-Some-clause-conflict
returns-in-Some-clause-conflict c =
    let put = rows-heads c.args.lists.items c.push.new.self.items c.deref-2.result.now c.in_ok-last.last c.in_ok-push.ensures.items c.in_ok-last.ensures c.deref-2.ensures.value in
    let least = least-of c.args.lists.items c.push.new.self.items c.in-Some.line c.in_ok-line.field-0 put c.in-Some.is c.in_ok-line.ensures in
    (λ e. cc, λ k. absurd (k.none (numbers c.in-Some.line.items) least.merge))

pub returns-in-None-clause-conflict : goal.returns-in-None-clause-conflict
returns-in-None-clause-conflict c =
    let put = rows-heads c.args.lists.items c.push.new.self.items c.deref-2.result.now c.in_ok-last.last c.in_ok-push.ensures.items c.in_ok-last.ensures c.deref-2.ensures.value in
    (λ e. conflict-of c.args.lists.items c.push.new.self.items c.deref.result.now c.in_ok-line.field-0 put c.in-None.is c.in_ok-line.ensures (sym c.breaks_precedence.ensures ∙ c.if-breaks_precedence.false) c.deref.ensures.value, λ k. refl)

pub returns-then-len-eq1-clause-merge : goal.returns-then-len-eq1-clause-merge
returns-then-len-eq1-clause-merge c =
    let one : length c.args.lists.items ≡ 1 = omega (arith, c.if-len-eq1.true, c.len.ensures, c.args.lists.ok.0) in
    alone-of c.args.lists.items c.remove.result one c.requires.lines c.remove.ensures.value

pub returns-then-len-eq1-clause-conflict : goal.returns-then-len-eq1-clause-conflict
returns-then-len-eq1-clause-conflict c =
    let one : length c.args.lists.items ≡ 1 = omega (arith, c.if-len-eq1.true, c.len.ensures, c.args.lists.ok.0) in
    let least = alone-of c.args.lists.items c.remove.result one c.requires.lines c.remove.ensures.value in
    (λ e. cc, λ k. absurd (k.none (numbers c.remove.result.items) least.merge))

use Rattle.class_table.proofs.Lemmas.{ℕ, None, List, length, get_or, set, replicate, refl, sym, ap, subst, ◌∙◌, arith, get_or_default, length-map, PyTypeRef, PyStrInterned, is_same_name, class_at, own_of, along, StoredClass, classes_of, is_called, AreAdded, AreFound, rise-then, rise-within, line-some, nothing, found-all}
use Rattle.std.proofs.Common.{◌≡◌, ◌*◌, ◌+◌}
use Rattle.class_table.proofs.probe.values_for.Goals as goal

pub returns-clause-found : goal.returns-clause-found
returns-clause-found g c = λ d.
    let t = classes_of c.args.classes.now in
    let r = c.at-stored.result in
    let q : r ≡ get_or c.args.classes.now c.args.at d = c.at-stored.ensures ∙ get_or_default c.args.classes.now c.args.at r d c.requires.inside in
    let A : List ℕ → Type 0 = λ line. AreAdded (λ n. along (is_called n) t line) (replicate 70 None) c.add_along.new.values in
    let own = c.own_value.ensures.value
    ∙ ap (λ m. own_of (λ k. is_same_name k c.interned-name.result) (class_at t m)) c.number.ensures
    ∙ ap (λ (x : PyStrInterned). own_of (λ k. is_same_name k x) (class_at t r.number)) c.interned-name.ensures in
    let P : StoredClass → Type 0 = λ k. AreFound t k.number k.mro (set c.add_along.new.values 68 c.own_value.result) in
    subst P q (found-all t r.number r.mro (replicate 70 None) c.add_along.new.values _ c.own_value.result (λ n l. nothing 70 n) (subst A c.mro.ensures c.add_along.ensures.added) refl own)

pub returns-clause-steps : goal.returns-clause-steps
returns-clause-steps g c = λ d.
    let r = c.at-stored.result in
    let q : r ≡ get_or c.args.classes.now c.args.at d = c.at-stored.ensures ∙ get_or_default c.args.classes.now c.args.at r d c.requires.inside in
    let some = line-some c.args.classes.now c.requires.lines c.args.at d c.requires.inside in
    let line = length c.mro.result.now in
    let long : line ≡ length (get_or c.args.classes.now c.args.at d).mro = sym (length-map c.mro.result.now (λ (x : PyTypeRef). x.0)) ∙ ap length c.mro.ensures ∙ ap (λ (k : StoredClass). length k.mro) q in
    rise-within 0 (69 * line + 1) 0 (70 * length (get_or c.args.classes.now c.args.at d).mro) c.args.steps.now c.own_value.new.steps (rise-then 0 (69 * line) 0 1 c.args.steps.now c.add_along.new.steps c.own_value.new.steps c.add_along.ensures.steps c.own_value.ensures.steps) (omega arith) (omega (arith, long, some))

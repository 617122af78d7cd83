use Rattle.class_table.proofs.Lemmas.{ℕ, List, length, get_or, sym, ap, subst, rules, arith, IsNonDecreasingBy, IsNonDecreasingBy-from_sort_by_key, slice_get_within, get_or_from_slice_get, AreDescendants, Ranked, found-few, ranked-is}
use Rattle.std.proofs.Common.{◌≡◌}
use Rattle.class_table.proofs.descendants.in_order.Goals as goal

pub returns-clause-ranked : goal.returns-clause-ranked
returns-clause-ranked c =
    let kept = c.args.classes.now in
    let before = c.in_ok-ranked.ranked.items in
    let after = c.sort_unstable_by_key.new.self.items in
    let P : List ℕ → Type 0 = λ ps. AreDescendants kept c.args.class.0 ps in
    let up : IsNonDecreasingBy (λ (r : Ranked). r.length) after = IsNonDecreasingBy-from_sort_by_key (λ (r : Ranked). r.length) _ c.sort_unstable_by_key.ensures.sorted (λ a r q k. search rules) in
    ranked-is kept c.args.class.0 c.all.result.now before after (subst P (sym c.all.ensures.all) c.in_ok-found.ensures) c.in_ok-ranked.ensures c.sort_unstable_by_key.ensures.permutation (λ i j a b l e f.
    let le = up i j a l (slice_get_within after j b f) in
    let x : (get_or after i a).length ≡ a.length = ap (λ (r : Ranked). r.length) (get_or_from_slice_get after i a a e) in
    let y : (get_or after j a).length ≡ b.length = ap (λ (r : Ranked). r.length) (get_or_from_slice_get after j b a f) in
    omega (arith, le, x, y))

pub returns-clause-few : goal.returns-clause-few
returns-clause-few c =
    let a = found-few c.args.classes.now c.requires.coherent c.args.class.0 c.in_ok-found.found c.in_ok-found.ensures in
    let b = c.in_ok-ranked.ensures.count in
    let e : length c.all.result.now ≡ length c.in_ok-found.found = ap length c.all.ensures.all in
    let d = c.sort_unstable_by_key.ensures.len in
    omega (arith, a, b, e, d)

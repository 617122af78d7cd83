use Rattle.order_check.proofs.Lemmas.{Bool, List, Option, ℕ, length, get_or, sym, ap, ◌∙◌, arith, Entry, known_in, are_ranked, some-stuck, unranked-stuck, ranking-more, rank-fewer}
use Rattle.std.proofs.Common.{◌≡◌, ◌<◌}
use Rattle.order_check.proofs.ranks.rank_place.Goals as goal

-- what was tested, of the ranks and the bases
read : (h : List Entry) (rs qs : List (Option ℕ)) (bs ds : List ℕ) (r : Bool) → qs ≡ rs → ds ≡ bs → r ≡ are_ranked (known_in h qs) ds → r ≡ are_ranked (known_in h rs) bs
read h rs qs bs ds r a b e = e ∙ ap (λ w. are_ranked (known_in h w) ds) a ∙ ap (are_ranked (known_in h rs)) b

pub returns-then-is_some-clause-stuck : goal.returns-then-is_some-clause-stuck
returns-then-is_some-clause-stuck c = λ _.
    some-stuck c.args.entries.now c.args.ranks.now.items c.args.place c.index.result.now c.requires.keyed c.requires.count c.requires.inside c.index.ensures (sym c.is_some.ensures ∙ c.if-is_some.true)

pub returns-then-not-are_ranked-clause-stuck : goal.returns-then-not-are_ranked-clause-stuck
returns-then-not-are_ranked-clause-stuck c = λ _.
    let h = c.args.entries.now in
    let rs = c.args.ranks.now.items in
    let e = get_or h c.args.place c.index-entries-place.result in
    let none = read h rs c.deref.result.now e.bases.items c.deref-2.result.now c.are_ranked.result c.deref.ensures.value c.deref-2.ensures.value c.are_ranked.ensures in
    unranked-stuck h rs c.args.place e c.requires.keyed c.requires.inside (ap (get_or h c.args.place) c.index-entries-place.is) (sym none ∙ c.if-not-are_ranked.true)

pub returns-clause-ranking : goal.returns-clause-ranking
returns-clause-ranking c = λ _.
    let h = c.args.entries.now in
    let rs = c.args.ranks.now.items in
    let e = get_or h c.args.place c.index-entries-place.result in
    let all = read h rs c.deref.result.now e.bases.items c.deref-2.result.now c.are_ranked.result c.deref.ensures.value c.deref-2.ensures.value c.are_ranked.ensures in
    ranking-more h rs c.args.place c.args.next e c.index.result.now c.requires.keyed c.requires.count c.requires.inside (ap (get_or h c.args.place) c.index-entries-place.is) c.index.ensures (sym c.is_some.ensures ∙ c.if-is_some.false) (sym all ∙ c.if-not-are_ranked.false) c.requires.ranking

pub returns-clause-fewer : goal.returns-clause-fewer
returns-clause-fewer c = λ _.
    let inside : c.args.place < length c.args.ranks.now.items = omega (arith, c.requires.inside, c.requires.count) in
    rank-fewer c.args.ranks.now.items c.args.place c.args.next c.index.result.now inside c.index.ensures (sym c.is_some.ensures ∙ c.if-is_some.false)

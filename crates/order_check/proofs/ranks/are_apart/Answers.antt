use Rattle.order_check.proofs.Lemmas.{sym, ap, ◌∙◌, arith, have_ranks, ranks-decide, ranking-none}
use Rattle.order_check.proofs.ranks.are_apart.Goals as goal

pub loop-next-init : goal.loop-next-init
loop-next-init c = record {
  count = c.in_ok-ranks.ensures.count;
  ranking = ranking-none c.args.entries.now c.in_ok-ranks.ranks.items (c.in_ok-ranks.ensures.none ∙ sym c.in_ok-ranks.ensures.count);
  room = omega (arith, c.in_ok-ranks.ensures.none);
}

pub returns-then-after-next : goal.returns-then-after-next
returns-then-after-next c =
    let call = c.rank_more-after.ensures in
    let rs = c.rank_more-after.new.ranks.items in
    let d = ranks-decide c.args.entries.now rs c.rank_more-after.result c.requires.keyed c.requires.there call.count call.ranking (call.stuck c.if-after-next.true) in
    let e = c.have_ranks.ensures ∙ ap have_ranks c.deref.ensures.value in
    (λ t. d.0 (sym e ∙ t), λ a. e ∙ d.1 a)

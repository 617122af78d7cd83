use Rattle.class_view.proofs.Lemmas.{◌∙◌, drop, arith, fed-more}
use Rattle.class_view.proofs.press.feed.Goals as goal

pub loop-fed-preserved : goal.loop-fed-preserved
loop-fed-preserved c =
    let p = c.loop-fed.publisher in
    let q = c.hand.new.publisher in (
      omega (arith, c.loop-fed-test.true),
      c.hand.ensures.desk ∙ c.loop-fed.invariant.1,
      fed-more (drop p.behind p.log.items) (drop q.behind q.log.items) c.changes-changes.result.now c.loop-fed.fed c.index-changes-fed.result c.loop-fed-test.true c.index-changes-fed.is c.in-Ok.ensures.ok ∙ c.loop-fed.invariant.2,
    )

use Rattle.class_table.proofs.Lemmas.{drop, sym, ap, ◌∙◌, arith, Vec, PyTypeRef, has, unique, rows, heads, collected, past-nil, filled-at, kept-at, more-at}
use Rattle.std.proofs.Common.{◌+◌}
use Rattle.class_table.specs.MroMerge.Lists.{numbers}
use Rattle.class_table.proofs.mro_merge.merge.heads.Goals as goal
use Rattle.class_table.proofs.mro_merge.merge.heads.Goals.{then-not-has+in_ok-push, else-not-has}

pub loop-list-init : goal.loop-list-init
loop-list-init c = ap (λ found. collected found c.args.lists.now) c.new-found.ensures.items ∙ past-nil (unique (heads (rows c.args.lists.now)))

pub index-head-requires : goal.index-head-requires
index-head-requires c =
    omega (arith, c.list-item.result.ok.0, filled-at c.args.lists.now c.loop-list.list-index c.list-item.result c.requires c.loop-list-test.true c.list-item.is)

pub loop-list-preserved : goal.loop-list-preserved
loop-list-preserved c =
    let rest = drop (c.loop-list.list-index + 1) c.args.lists.now in
    let seen = ap (λ l. has (numbers l) c.index-head.result.now.0) (sym c.deref.ensures.value) ∙ sym c.has.ensures in
    elim c.if-not-has.branch [
      | then-not-has+in_ok-push w ↦
          ap (λ (found : Vec PyTypeRef). collected found.items rest) w.found-is
          ∙ ap (λ found. collected found rest) w.in_ok-push.ensures.items
          ∙ more-at c.loop-list.found.items c.args.lists.now c.loop-list.list-index c.list-item.result c.index-head.result.now c.requires c.loop-list-test.true c.list-item.is c.index-head.ensures (seen ∙ w.if-not-has.true)
          ∙ c.loop-list.invariant
      | else-not-has w ↦
          ap (λ (found : Vec PyTypeRef). collected found.items rest) w.found-is
          ∙ kept-at c.loop-list.found.items c.args.lists.now c.loop-list.list-index c.list-item.result c.index-head.result.now c.requires c.loop-list-test.true c.list-item.is c.index-head.ensures (seen ∙ w.if-not-has.false)
          ∙ c.loop-list.invariant
    ]

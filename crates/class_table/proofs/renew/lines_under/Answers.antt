use Rattle.class_table.proofs.Lemmas.{arith, lines-start, lines-end}
use Rattle.class_table.proofs.renew.lines_under.Goals as goal

pub loop-at-init : goal.loop-at-init
loop-at-init c = lines-start c.args.classes.now c.args.places.now c.args.renewed.now c.new-lines.result c.new-lines.ensures

pub loop-at-preserved : goal.loop-at-preserved
loop-at-preserved c = c.in_ok-add_line.ensures c.loop-at.invariant

pub returns : goal.returns
returns c = lines-end c.args.classes.now c.args.places.now c.args.renewed.now c.loop-at.at c.loop-at.lines c.loop-at.invariant (omega arith) (omega arith) c.requires.inside

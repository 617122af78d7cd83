use Rattle.world_text.proofs.Lemmas.{ap, arith, nat_tests, PyTypeRef, member_more, written_more, held-at, or_empty, name_at, names-end}
use Rattle.world_text.proofs.class_lines.push_members.Goals as goal

abbrev first : PyTypeRef
first = record { 0 = 0 }

pub name-requires : goal.name-requires
name-requires c = c.requires _ (held-at c.args.line.now c.loop-class.class-index first c.loop-class-test.true)

pub loop-class-preserved : goal.loop-class-preserved
loop-class-preserved c = record {
  first = grind (arith, nat_tests);
  written =
      let named = ap or_empty c.name.ensures.short in
      let piece = rw c.loop-class.invariant.first at c.in_ok-push_class_member.ensures in
      let next = member_more (λ k. name_at c.args.classes.now k.0) c.args.line.now c.loop-class.class-index first c.loop-class-test.true in
      written_more _ _ _ _ _ _ piece c.loop-class.invariant.written (rw named at next);
}

pub returns : goal.returns
returns c = rw (← names-end c.args.classes.now c.args.line.now c.loop-class.class-index c.loop-class-test.false) c.loop-class.invariant.written

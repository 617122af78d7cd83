use Rattle.script_text.proofs.Lemmas.{[], arith, nat_tests, member_more, written_more}
use Rattle.script_text.proofs.reply_text.class.push_class_members.Goals as goal

pub loop-name-preserved : goal.loop-name-preserved
loop-name-preserved c = record {
  first = grind (arith, nat_tests);
  written =
      let piece = rw c.loop-name.invariant.first at c.in_ok-push_class_member.ensures in
      let next = member_more (λ s. s.now) c.args.line.now c.loop-name.name-index (record { ref_ptr = (0, 0); now = [] }) c.loop-name-test.true in
      written_more _ _ _ _ _ _ piece c.loop-name.invariant.written next;
}

use Rattle.order_check.proofs.Below.{length, drop, lines_text}
use Rattle.std.proofs.Common.{◌≡◌, ◌++◌}
use Rattle.order_check.proofs.report_text.write.push_lines.Given as goal

abbrev pub invariant-loop-class : goal.invariant-loop-class
invariant-loop-class l =
    l.out.items ++ lines_text l.entries (drop (length l.yielded) l.classes) (drop (length l.yielded) l.lines) ≡ l.initial.out.items ++ lines_text l.entries l.classes l.lines

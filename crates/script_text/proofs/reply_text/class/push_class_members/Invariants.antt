use Rattle.script_text.proofs.Below.{take, map, eqb, codes, escaped, joined}
use Rattle.std.proofs.Common.{◌≡◌, ◌++◌}
use Rattle.script_text.proofs.reply_text.class.push_class_members.Given as goal

abbrev pub invariant-loop-name : goal.invariant-loop-name
invariant-loop-name l = record {
  first : l.is_first ≡ eqb l.name-index 0;
  written : l.out.items ≡ l.initial.out.items ++ joined (codes ", ") (map escaped (map (λ s. s.now) (take l.name-index l.line)));
}

use Rattle.world_text.proofs.Below.{take, map, eqb, codes, escaped, joined, name_at}
use Rattle.std.proofs.Common.{◌≡◌, ◌++◌}
use Rattle.world_text.proofs.class_lines.push_members.Given as goal

abbrev pub invariant-loop-class : goal.invariant-loop-class
invariant-loop-class l = record {
  first : l.is_first ≡ eqb l.class-index 0;
  written : l.out.items ≡ l.initial.out.items ++ joined (codes ", ") (map escaped (map (λ c. name_at l.classes c.0) (take l.class-index l.line)));
}

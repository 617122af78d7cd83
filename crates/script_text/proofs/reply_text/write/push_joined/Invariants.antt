use Rattle.script_text.proofs.Below.{take, map, codes, flat_map}
use Rattle.std.proofs.Common.{◌≡◌, ◌++◌}
use Rattle.std.specs.Prelude.{string_bytes}
use Rattle.script_text.proofs.reply_text.write.push_joined.Given as goal

abbrev pub invariant-loop-text : goal.invariant-loop-text
invariant-loop-text l =
    l.out.items ≡ l.initial.out.items ++ flat_map (λ next. codes ", " ++ next) (map (λ s. string_bytes s) (take l.text-index l.rest))

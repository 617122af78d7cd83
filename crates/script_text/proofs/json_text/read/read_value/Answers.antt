use Rattle.script_text.proofs.Lemmas.{rules, IsMemory, NotJson, value-of_text, value-of_none}
use Rattle.std.proofs.Common.{◌≡◌}
use Rattle.script_text.proofs.json_text.read.read_value.Goals as goal

pub returns-in-Ok-clause-ok : goal.returns-in-Ok-clause-ok
returns-in-Ok-clause-ok c = value-of_text c.args.bytes.now _ c.in-Ok.ensures.ok.0 c.in-Ok.ensures.ok.1

pub returns-else-is_memory-clause-script : goal.returns-else-is_memory-clause-script
returns-else-is_memory-clause-script c e is =
    let same : e ≡ NotJson = cc in
    let other : IsMemory c.in-Err.e → ⊥ = search rules in
    (same, value-of_none c.args.bytes.now (c.in-Err.ensures.err other))

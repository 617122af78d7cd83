use Rattle.script_text.proofs.Lemmas.{None, arith, items_view, Script, fault_of, exprs_of, commands_in, shape-from_fault}
use Rattle.std.proofs.Common.{◌≡◌}
use Rattle.script_text.proofs.read.read_items.Goals as goal

pub returns-in_err-commands-clause-script : goal.returns-in_err-commands-clause-script
unfolding commands_in
returns-in_err-commands-clause-script c e is =
    let u = c.in_err-commands.field-0.0 in
    let told : fault_of u ≡ Script e = grind arith in
    let shape = shape-from_fault u e told in
    let none : exprs_of (items_view c.args.items.now) ≡ None = grind (arith, shape.0) in
    grind (arith, none, shape.1)

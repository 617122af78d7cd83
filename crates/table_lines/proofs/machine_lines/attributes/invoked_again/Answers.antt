use Rattle.table_lines.proofs.Lemmas.{with-nothing}
use Rattle.table_lines.proofs.machine_lines.attributes.invoked_again.Goals as goal

pub invoke_ref-told-requires : goal.invoke_ref-told-requires
invoke_ref-told-requires c =
    rw c.new.ensures.items (rw c.new-2.ensures.items (with-nothing c.method.new.vm.world c.in_ok-method.method c.in_ok-method.ensures))

use Rattle.shared_vm.proofs.Lemmas.{ℕ, List, ap, ap₂, ◌∙◌, Entry, plain_journal, entries_text, classes_of}
use Rattle.std.proofs.Common.{◌++◌}
use Rattle.shared_vm.proofs.shared_run.text.write_journal.Goals as goal

pub returns : goal.returns
returns c =
    let j = plain_journal c.args.closed.now.journal.items in
    let classes = classes_of c.args.closed.now.machine j c.world.result.now c.in_ok-classes.classes.items c.requires c.world.ensures c.in_ok-classes.ensures in
    let entries = c.in_ok-text.ensures ∙ ap (λ (es : List Entry). entries_text (plain_journal es)) c.deref.ensures.value in
    c.in_ok-extend_from_slice.ensures.items ∙ ap₂ (λ (a b : List ℕ). a ++ b) entries (c.deref-2.ensures.value ∙ classes)

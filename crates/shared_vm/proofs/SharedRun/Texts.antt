-- The classes that are written for a journal.
use Rattle.shared_vm.proofs.Below.{List, ap, ◌∙◌, subst, Text, classes_text, Held, Reading, Reads, plain, State, IsReplay, PlainEntry, replay}
use Rattle.std.proofs.Common.{◌≡◌}

pub classes_of : (machine : State) (j : List PlainEntry) (w : Held) (text : Text) → IsReplay machine j → w ≡ machine.world → ((t : Reading) → Reads t w → text ≡ classes_text (plain t w)) → text ≡ classes_text (replay j)
classes_of machine j w text is same told =
    let at : (t : Reading) → Reads t machine.world → text ≡ classes_text (plain t machine.world) = subst (λ (w : Held). (t : Reading) → Reads t w → text ≡ classes_text (plain t w)) same told in
    at is.readable.0 is.readable.1 ∙ ap classes_text (is.world is.readable.0 is.readable.1)

use Rattle.proto_call.proofs.Below.{[], drop, length, Reading, Reads, bindings, plain, Grows, keyed, ArePairs, AreSpelled}
use Rattle.std.proofs.Common.{◌≡◌}
use Rattle.proto_call.proofs.eval_forms.class_form.key_all.Given as goal

abbrev pub invariant-loop-i : goal.invariant-loop-i
invariant-loop-i l =
    ((t : Reading) → Reads t l.world → Reads t l.fn.world × (keyed (plain t l.fn.world) [] (bindings t l.entries) ≡ keyed (plain t l.world) l.pairs.items (bindings t (drop l.i l.entries))))
    × Grows l.fn.world l.world
    × ArePairs l.world l.pairs.items
    × (length l.pairs.items ≡ l.i)
    × ((t : Reading) → Reads t l.world → AreSpelled t (plain t l.world) l.pairs.items l.entries)

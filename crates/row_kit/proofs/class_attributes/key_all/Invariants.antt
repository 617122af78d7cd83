use Rattle.row_kit.proofs.Below.{[], drop, length, Reading, Reads, bindings, plain, Grows, keyed}
use Rattle.std.proofs.Common.{◌≡◌}
use Rattle.row_kit.proofs.ObjectsKeyed.{ArePairs, AreSpelled}
use Rattle.row_kit.proofs.class_attributes.key_all.Given as goal

abbrev pub invariant-loop-i : goal.invariant-loop-i
invariant-loop-i l =
    ((t : Reading) → Reads t l.world → Reads t l.fn.world × (keyed (plain t l.fn.world) [] (bindings t l.attrs) ≡ keyed (plain t l.world) l.entries.items (bindings t (drop l.i l.attrs))))
    × Grows l.fn.world l.world
    × ArePairs l.world l.entries.items
    × (length l.entries.items ≡ l.i)
    × ((t : Reading) → Reads t l.world → AreSpelled t (plain t l.world) l.entries.items l.attrs)

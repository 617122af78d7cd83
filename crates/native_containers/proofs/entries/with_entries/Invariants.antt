use Rattle.native_containers.proofs.Below.{take, fold, with_entry, of_keyed, Reading, Reads, plain, AllHold, Grows, entries_at}
use Rattle.std.proofs.Common.{◌≡◌}
use Rattle.native_containers.proofs.entries.with_entries.Given as goal

abbrev pub invariant-loop-entry : goal.invariant-loop-entry
invariant-loop-entry l = record {
  entries : (t : Reading) → fold (with_entry (plain t l.fn.world)) (entries_at (plain t l.fn.world) l.fn.dict) (take l.entry-index l.entry-items) ≡ l.all.items;
  holds : AllHold l.world (of_keyed l.all);
  same : (t : Reading) → plain t l.world ≡ plain t l.fn.world;
  reads : (t : Reading) → Reads t l.world → Reads t l.fn.world;
  grows : Grows l.fn.world l.world;
}

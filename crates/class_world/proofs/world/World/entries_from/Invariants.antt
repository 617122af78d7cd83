use Rattle.class_world.proofs.Below.{take, entries_from, of_keyed, Reading, Reads, plain, AllHold, Grows}
use Rattle.std.proofs.Common.{◌≡◌}
use Rattle.class_world.proofs.world.World.entries_from.Given as goal

abbrev pub invariant-loop-pair : goal.invariant-loop-pair
invariant-loop-pair l = record {
  entries : (t : Reading) → l.dict.items ≡ entries_from (plain t l.fn.self) (take l.pair-index l.pairs);
  holds : AllHold l.self (of_keyed l.dict);
  same : (t : Reading) → plain t l.self ≡ plain t l.fn.self;
  reads : (t : Reading) → Reads t l.self → Reads t l.fn.self;
  grows : Grows l.fn.self l.self;
}

use Rattle.world_text.proofs.Lemmas.{adds-itself, adds-on, names-stay, no-name, names-next}
use Rattle.world_text.proofs.expressions.names_of.Goals as goal

pub loop-text-init : goal.loop-text-init
loop-text-init c = record { adds = adds-itself _; names = rw c.in_ok-names.ensures.items (no-name _) }

pub loop-text-preserved : goal.loop-text-preserved
loop-text-preserved c = record {
  adds = adds-on c.loop-text.invariant.adds c.name_of.ensures.adds;
  names = rw c.in_ok-push.ensures.items (names-next c.deref-text-items.result.now c.loop-text.text-index c.text-item.result c.loop-text-test.true c.text-item.is (names-stay c.name_of.ensures.adds c.loop-text.invariant.names) c.in_ok-name_of.ensures.name);
}

use Rattle.world_text.proofs.Below.{take, texts_of, Adds, HasNames}
use Rattle.world_text.proofs.expressions.names_of.Given as goal

abbrev pub invariant-loop-text : goal.invariant-loop-text
invariant-loop-text l = record {
  adds : Adds l.initial.world l.world;
  names : HasNames l.world l.names.items (texts_of (take l.text-index l.text-items));
}

use Rattle.py_node.proofs.Below.{take, texts_of}
use Rattle.std.proofs.Common.{◌≡◌}
use Rattle.py_node.proofs.clone.copy_texts.Given as goal

abbrev pub invariant-loop-text : goal.invariant-loop-text
invariant-loop-text l = texts_of l.copies.items ≡ texts_of (take l.text-index l.text-items)

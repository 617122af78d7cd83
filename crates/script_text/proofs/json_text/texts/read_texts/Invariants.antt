use Rattle.script_text.proofs.Below.{drop, items_view, texts_of, texts_in}
use Rattle.std.proofs.Common.{◌≡◌}
use Rattle.script_text.proofs.JsonText.Lists.{onto}
use Rattle.script_text.proofs.json_text.texts.read_texts.Given as goal

abbrev pub invariant-loop-item : goal.invariant-loop-item
invariant-loop-item l = texts_in (items_view l.items) ≡ onto (texts_of l.found.items) (texts_in (items_view (drop l.item-index l.items)))

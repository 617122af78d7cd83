use Rattle.native_containers.proofs.Lemmas.{◌∙◌, sym, YieldsList-from_chars, option_map_id, nth_from_yields_List}
use Rattle.native_containers.proofs.native_items.next.character_in.Goals as goal

pub returns : goal.returns
returns c =
    sym (option_map_id c.nth.result)
    ∙ nth_from_yields_List c.nth.result c.nth.new.self c.args.place c.nth.ensures.ran (YieldsList-from_chars c.args.text.now c.utf8.text c.chars.ensures.rest)

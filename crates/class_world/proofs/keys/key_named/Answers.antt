use Rattle.class_world.proofs.Lemmas.{rules, Some, sym, ap, ◌∙◌, true≢false, is_some, option_map, string_bytes, NumberKey, TextKey, key_in, no-key-in}
use Rattle.class_world.proofs.keys.key_named.Goals as goal

pub returns-in-Number-clause-read : goal.returns-in-Number-clause-read
returns-in-Number-clause-read c = (NumberKey c.in-Number.number, search rules, ap key_in c.in-Number.is)

pub returns-in_ok-intern-in-Text-clause-read : goal.returns-in_ok-intern-in-Text-clause-read
returns-in_ok-intern-in-Text-clause-read c = (TextKey (string_bytes c.in-Text.text), ap (option_map TextKey) (c.in_ok-intern-in-Text.ensures.spelled ∙ ap Some c.as_str.ensures.value), ap key_in c.in-Text.is)

pub returns-in_default-clause-read : goal.returns-in_default-clause-read
returns-in_default-clause-read c = absurd (true≢false (sym c.requires ∙ ap is_some (no-key-in c.args.payload.now c.in_default.not-Number c.in_default.not-Text)))

use Rattle.class_world.proofs.Lemmas.{rules, Some, sym, ap, ◌∙◌, option_map, string_bytes, NumberKey, TextKey, key_in, no-key-in, nothing-named, text-unnamed}
use Rattle.class_world.proofs.keys.known_key.Goals as goal

pub returns-in-Number-clause-read : goal.returns-in-Number-clause-read
returns-in-Number-clause-read c = (NumberKey c.in-Number.number, search rules, ap key_in c.in-Number.is)

pub returns-in-Some-clause-read : goal.returns-in-Some-clause-read
returns-in-Some-clause-read c = (TextKey (string_bytes c.in-Text.text), ap (option_map TextKey) (c.in-Some.ensures.found ∙ ap Some c.as_str.ensures.value), ap key_in c.in-Text.is)

pub returns-in-None-clause-none : goal.returns-in-None-clause-none
returns-in-None-clause-none c = text-unnamed c.args.names.now c.as_str.result.now (key_in c.args.payload.now) (ap key_in c.in-Text.is ∙ ap (λ x. Some (TextKey x)) (sym c.as_str.ensures.value)) c.in-None.ensures.none

pub returns-in_default-clause-none : goal.returns-in_default-clause-none
returns-in_default-clause-none c = nothing-named c.args.names.now (key_in c.args.payload.now) (no-key-in c.args.payload.now c.in_default.not-Number c.in_default.not-Text)

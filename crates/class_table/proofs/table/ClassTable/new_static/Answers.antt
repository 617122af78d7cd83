use Rattle.class_table.proofs.Lemmas.{ap, ◌∙◌, says_so, static-says}
use Rattle.class_table.proofs.table.ClassTable.new_static.Goals as goal

pub new_single-requires-clause-dict : goal.new_single-requires-clause-dict
new_single-requires-clause-dict c =
    let brings = c.has_feature-brings.ensures in
    let dict = c.has_dict.ensures.says in
    rw (brings, ← dict) (ap says_so c.flags_of_static-flags.ensures ∙ static-says c.args.flags.0 c.has_dict.result)

use Rattle.py_node.proofs.Lemmas.{◌∙◌, is_same_key, key-added, inserted}
use Rattle.py_node.proofs.key_index.add_key.Goals as goal

pub returns-clause-ok : goal.returns-clause-ok
returns-clause-ok c =
    let ks = c.args.keys.now.keys in
    c.in_ok-insert.ensures.keys ∙ inserted ks c.args.key ∙ key-added is_same_key ks c.args.key c.requires

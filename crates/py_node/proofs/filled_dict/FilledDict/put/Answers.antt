use Rattle.py_node.proofs.Lemmas.{length, sym, ap, ◌∙◌, subst, PlainDict, dict_put, put-is}
use Rattle.std.proofs.Common.{◌<◌}
use Rattle.py_node.proofs.filled_dict.FilledDict.put.Goals as goal

pub returns : goal.returns
returns c =
    let v = c.self.view_is in
    let l = subst (λ (d : PlainDict). c.args.place < length d.items) (sym v) c.requires in
    let items = put-is c.self.inside.entries.items c.args.place c.index.result.now c.args.value l c.index.ensures in
    ap (λ es. record { keys = c.self.inside.index; items = es }) items
    ∙ ap (λ (d : PlainDict). dict_put d c.args.place c.args.value) v

use Rattle.proto_call.proofs.Lemmas.{ap, ◌∙◌, find, bytes_eq, class_named, find-map}
use Rattle.std.proofs.Common.{option_map}
use Rattle.proto_call.proofs.eval_forms.names.find_class.Goals as goal

pub returns : goal.returns
unfolding class_named
returns c =
    c.class_in.ensures
    ∙ find-map (λ row. (row.0.now, row.1)) (λ row. bytes_eq c.args.text.now row.0) (λ row. row.1) c.all_class_names.result.now
    ∙ ap (λ rows. option_map (λ row. row.1) (find (λ row. bytes_eq c.args.text.now row.0) rows)) c.all_class_names.ensures

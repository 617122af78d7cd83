use Rattle.script_text.proofs.Lemmas.{ap, option_map, ◌∙◌, find, bytes_eq, kind_named, find-map}
use Rattle.script_text.proofs.words.find_kind.Goals as goal

pub returns : goal.returns
unfolding kind_named
returns c =
    c.kind_in.ensures
    ∙ find-map (λ row. (row.0, row.1.now)) (λ row. bytes_eq c.args.text.now row.1) (λ row. row.0) c.all_kinds.result.now
    ∙ ap (λ rows. option_map (λ row. row.0) (find (λ row. bytes_eq c.args.text.now row.1) rows)) c.all_kinds.ensures

use Rattle.script_text.proofs.Lemmas.{ap, option_map, ◌∙◌, find, bytes_eq, find-map}
use Rattle.script_text.proofs.words.find_word.Goals as goal

pub returns : goal.returns
returns c =
    c.find_in.ensures
    ∙ find-map (λ row. (row.0.now, row.1, row.2)) (λ row. bytes_eq c.args.text.now row.0) (λ row. (row.1, row.2)) c.all_words.result.now
    ∙ ap (λ rows. option_map (λ row. (row.1, row.2)) (find (λ row. bytes_eq c.args.text.now row.0) rows)) c.all_words.ensures

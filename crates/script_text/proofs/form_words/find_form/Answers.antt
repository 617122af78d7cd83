use Rattle.script_text.proofs.Lemmas.{ap, option_map, ◌∙◌, find, bytes_eq, find-map}
use Rattle.script_text.proofs.form_words.find_form.Goals as goal

pub returns : goal.returns
returns c =
    c.form_in.ensures
    ∙ find-map (λ row. (row.0.now, row.1)) (λ row. bytes_eq c.args.text.now row.0) (λ row. row.1) c.all_forms.result.now
    ∙ ap (λ rows. option_map (λ row. row.1) (find (λ row. bytes_eq c.args.text.now row.0) rows)) c.all_forms.ensures

use Rattle.class_table.proofs.Lemmas.{ap, ◌∙◌, with_place, insert_key-place}
use Rattle.class_table.proofs.place_set.PlaceSet.add.Goals as goal

pub returns : goal.returns
returns c =
    c.in_ok-insert.ensures.keys ∙ insert_key-place c.self.inside.places.keys c.args.place ∙ ap (λ ps. with_place ps c.args.place) c.self.view_is

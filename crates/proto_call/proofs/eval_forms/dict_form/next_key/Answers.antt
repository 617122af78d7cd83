use Rattle.proto_call.proofs.Lemmas.{sym, ◌∙◌, ok-map, grows-itself, entries_from, EndsRow, Goes, pairs_row, make_dict, key-asked, dict-made, part-holds, has-pair}
use Rattle.proto_call.proofs.eval_forms.dict_form.next_key.Goals as goal

pub returns-in-Some-clause-goes : goal.returns-in-Some-clause-goes
returns-in-Some-clause-goes c =
    let e = rw (c.len.ensures, c.args.found.ok.0) at c.pair.ensures in
    key-asked c.args.world.now c.args.e c.form.result.now c.args.found c.in-Some.pair c.form.ensures.stored (sym e ∙ c.in-Some.is) c.requires.found.1.1.0

pub returns-in-Some-clause-safe : goal.returns-in-Some-clause-safe
returns-in-Some-clause-safe c =
    let w = c.args.world.now in
    let f = c.form.result.now in
    let e = rw (c.len.ensures, c.args.found.ok.0) at c.pair.ensures in
    let here = sym e ∙ c.in-Some.is in (
      grows-itself w,
      (
        (part-holds w f _ c.in-Some.pair c.form.ensures.holds here).0,
        (c.requires.dict, (has-pair w c.args.e _ f c.in-Some.pair c.form.ensures.stored here, c.requires.found)),
      ),
    )

pub returns-in-None-clause-goes : goal.returns-in-None-clause-goes
returns-in-None-clause-goes c =
    let w = c.args.world.now in
    let new = c.make_dict.new.world in
    let es = c.args.found in
    let e = rw (c.len.ensures, c.args.found.ok.0) at c.pair.ensures in
    let goes = rw c.deref.ensures.value at c.make_dict.ensures.goes in
    ok-map (λ step. EndsRow (λ t u. make_dict u (entries_from u es.items)) w new step) (λ step. Goes (λ t. pairs_row (t.tree c.args.e.0) es.items) w new step) c.make_dict.result (λ step k. dict-made w new c.args.e c.form.result.now es step c.form.ensures.stored (sym e ∙ c.in-None.is) c.requires.fits c.requires.found.1.1.0 k) goes

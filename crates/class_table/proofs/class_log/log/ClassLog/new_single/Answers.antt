use Rattle.class_table.proofs.Lemmas.{List, map, ap, ◌∙◌, class_at, is_base_at, ClassChange, change_of, made_single, base-allowed, logged-kept, logged-made, noted-as, single-made, single-changed}
use Rattle.std.proofs.Common.{◌≡◌}
use Rattle.class_table.proofs.class_log.log.ClassLog.new_single.Goals as goal
use Rattle.class_table.proofs.class_log.log.ClassLog.new_single.Goals.{in-Make+in-Some-1, in-Make+in-None-1, in-SetBases-1, in-SetOwn-1}

pub returns-in-Ok-new_single-clause-law : goal.returns-in-Ok-new_single-clause-law
returns-in-Ok-new_single-clause-law c =
    let t = c.args.classes.now in
    let b = c.args.base.0 in
    let change = made_single c.args.number.0 c.args.name.now b c.args.attrs c.args.given.0 in
    let may = base-allowed (is_base_at (class_at t b)) c.in-Ok-new_single.ensures.refused in
    logged-made c.args.self.now t change
    (single-made t c.args.number.0 c.args.name.now b c.args.attrs c.args.given.0 c.args.flags.0 c.args.brings c.requires.fresh c.requires.base c.sound.ensures.sound may c.requires.given) _
    (noted-as c.self.inside.changes.items c.reserve.new.self.items c.push_reserved.new.self.items _ change c.args.self.now c.self.view_is c.reserve.ensures.items c.push_reserved.ensures.items c.in-Ok.ensures) _
    (c.in-Ok-new_single.ensures.added ∙ single-changed t c.args.number.0 c.args.name.now b c.args.attrs c.args.given.0 c.args.flags.0 c.args.brings c.requires.given)

-- the change is dropped, whichever it is
pub returns-in-Err-clause-law : goal.returns-in-Err-clause-law
returns-in-Err-clause-law c =
    let whole : c.match-single.self ≡ map change_of c.reserve.new.self.items = elim c.match-single.branch [ in-Make+in-Some-1 w ↦ w.self-is | in-Make+in-None-1 w ↦ w.self-is | in-SetBases-1 w ↦ w.self-is | in-SetOwn-1 w ↦ w.self-is ] in
    logged-kept c.args.self.now c.match-single.self c.args.classes.now _ (whole ∙ ap (λ (cs : List ClassChange). map change_of cs) c.reserve.ensures.items ∙ c.self.view_is) c.in-Err.ensures.err

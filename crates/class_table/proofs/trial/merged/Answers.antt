use Rattle.class_table.proofs.Lemmas.{Some, refl, sym, ap, ◌∙◌, with_bases, rows, repeat-differs, numbers, classes_of, lines-of, line-tried, blame-tried}
use Rattle.std.proofs.Common.{◌∷◌}
use Rattle.py_node.specs.declared.raised.Cause.TheVariants as causes
use Rattle.class_table.proofs.trial.merged.Goals as goal

pub resolve_mro-requires : goal.resolve_mro-requires
resolve_mro-requires c =
    let u = with_bases (classes_of c.args.change.classes.now) c.args.change.class.0 (numbers c.args.change.bases.now) in
    record { lines = lines-of u (numbers c.args.bases.now) (rows c.args.lines.items) c.requires.lines }

pub unreachable-requires : goal.unreachable-requires
unreachable-requires c =
    let b = c.in-Err-DuplicateBase.field-0-0 in
    let h = rw c.in-Err-DuplicateBase.field-0-is at c.in-Err-DuplicateBase.ensures.duplicate in
    repeat-differs (numbers c.args.bases.now) b.0 ((h b).0 refl) c.requires.distinct

pub returns-in-Err-LocalPrecedence : goal.returns-in-Err-LocalPrecedence
returns-in-Err-LocalPrecedence c =
    let u = with_bases (classes_of c.args.change.classes.now) c.args.change.class.0 (numbers c.args.change.bases.now) in
    let s = rw c.in-Err-LocalPrecedence.field-0-is at c.in-Err-LocalPrecedence.ensures in
    blame-tried u c.args.number.0 (numbers c.args.bases.now) (rows c.args.lines.items) c.requires.bases c.requires.lines causes.LocalPrecedence s.none s.cause

pub returns-in-Err-MroConflict : goal.returns-in-Err-MroConflict
returns-in-Err-MroConflict c =
    let u = with_bases (classes_of c.args.change.classes.now) c.args.change.class.0 (numbers c.args.change.bases.now) in
    let s = rw c.in-Err-MroConflict.field-0-is at c.in-Err-MroConflict.ensures in
    blame-tried u c.args.number.0 (numbers c.args.bases.now) (rows c.args.lines.items) c.requires.bases c.requires.lines causes.MroConflict s.none s.cause

pub returns-in_ok-line-in-Ok : goal.returns-in_ok-line-in-Ok
returns-in_ok-line-in-Ok c =
    let u = with_bases (classes_of c.args.change.classes.now) c.args.change.class.0 (numbers c.args.change.bases.now) in
    line-tried u c.args.number.0 (numbers c.args.bases.now) (rows c.args.lines.items) c.requires.bases c.requires.lines (numbers c.in-Ok.rest.items) c.in-Ok.ensures.order
    ∙ ap Some (sym (c.in_ok-line-in-Ok.ensures ∙ ap (λ ys. c.args.number.0 ∷ numbers ys) c.deref.ensures.value))

use Rattle.class_table.proofs.Lemmas.{sym, ap, ◌∙◌, has, lin, is_sub, is_along, Decides-has, sub-itself, sub-trans, some-of}
use Rattle.std.proofs.Common.{◌≡◌}
use Rattle.class_table.proofs.laws.deriving_is_an_order.Goals as goal

pub returns-clause-itself : goal.returns-clause-itself
returns-clause-itself c = λ k l.
    let r = some-of (lin c.args.classes.now k) (c.sound.ensures.sound.order k l) in
    sub-itself c.args.classes.now k r.0 r.1

pub returns-clause-further : goal.returns-clause-further
returns-clause-further c = λ a b d e f. sub-trans c.args.classes.now a b d e f

pub returns-clause-along : goal.returns-clause-along
returns-clause-along c = λ k d line e.
    let is : is_sub c.args.classes.now k d ≡ has line d = ap (is_along d) e in
    let at = Decides-has line d in
    (λ h. at.0 (sym is ∙ h), λ h. is ∙ at.1 h)

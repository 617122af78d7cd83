use Rattle.class_table.proofs.Lemmas.{List, [], map, sym, subst, ◌∙◌, PyTypeRef, numbers, SetBases, change_of, logged-made, rebase-made}
use Rattle.std.proofs.Common.{◌≡◌, ◌∷◌, ◌++◌}
use Rattle.class_table.proofs.ClassLog.Logged.{noted}
use Rattle.class_table.proofs.class_log.log.ClassLog.set_bases.Goals as goal

pub returns-in-Ok-set_bases-clause-law : goal.returns-in-Ok-set_bases-clause-law
returns-in-Ok-set_bases-clause-law g c =
    let made = rebase-made c.args.classes.now c.args.class.0 (numbers c.args.bases.items) c.requires.own c.requires.there (sym c.in-Ok-set_bases.ensures.refused) in
    let copied = noted c.self.inside.changes.items c.reserve.new.self.items c.push_reserved.new.self.items _ c.args.self.now c.self.view_is c.reserve.ensures.items c.push_reserved.ensures.items in
    let log = subst (λ (xs : List PyTypeRef). map change_of c.push_reserved.new.self.items ≡ c.args.self.now ++ SetBases c.args.class.0 (numbers xs) ∷ []) (c.in-Ok.ensures.items ∙ c.deref-2.ensures.value) copied in
    logged-made c.args.self.now c.args.classes.now _ made _ log _ c.in-Ok-set_bases.ensures.set

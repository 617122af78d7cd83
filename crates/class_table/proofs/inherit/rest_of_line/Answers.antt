use Rattle.class_table.proofs.Lemmas.{Ok, Err, Result, sym, subst, Vec, PyTypeRef, rows, ClassFault, numbers, classes_of, refusal, WithMemory, refused_order, lines-of, follows-of, refused-of}
use Rattle.std.proofs.Common.{◌≡◌}
use Rattle.class_table.proofs.inherit.rest_of_line.Goals as goal

pub resolve_mro-requires : goal.resolve_mro-requires
resolve_mro-requires c = record { lines = lines-of (classes_of c.args.classes.now) (numbers c.args.bases.now) (rows c.in-Ok.lines.items) c.in-Ok.ensures }

pub returns-in-Ok-resolve_mro-clause-rest : goal.returns-in-Ok-resolve_mro-clause-rest
returns-in-Ok-resolve_mro-clause-rest c =
    follows-of (classes_of c.args.classes.now) (numbers c.args.bases.now) (rows c.in-Ok.lines.items) c.in-Ok.ensures (numbers c.in-Ok-resolve_mro.rest.items) c.in-Ok-resolve_mro.ensures.order

pub returns-in-Ok-resolve_mro-clause-refused : goal.returns-in-Ok-resolve_mro-clause-refused
returns-in-Ok-resolve_mro-clause-refused c =
    let s = c.in-Ok-resolve_mro.ensures in
    refused-of (classes_of c.args.classes.now) (numbers c.args.bases.now) (rows c.in-Ok.lines.items) c.in-Ok.ensures (Ok c.in-Ok-resolve_mro.rest) s.order s.duplicate s.precedence s.conflict s.none s.cause

pub returns-in-Err-resolve_mro-clause-refused : goal.returns-in-Err-resolve_mro-clause-refused
returns-in-Err-resolve_mro-clause-refused c =
    let s = c.in-Err-resolve_mro.ensures in
    let P : ClassFault → Type 0 = λ f. let r : Result (Vec PyTypeRef) ClassFault = Err f in WithMemory r (refusal r ≡ refused_order (classes_of c.args.classes.now) (numbers c.args.bases.now)) in
    subst P (sym c.merge_fault.ensures) (refused-of (classes_of c.args.classes.now) (numbers c.args.bases.now) (rows c.in-Ok.lines.items) c.in-Ok.ensures (Err c.in-Err-resolve_mro.fault) s.order s.duplicate s.precedence s.conflict s.none s.cause)

use Rattle.class_table.proofs.Lemmas.{sym, subst, ◌∙◌, PyTypeRef, rows, IsFirstRepeat, same-class, first-repeat, repeat-first, none-repeats, repeat-differs, repeat-none, lines-bases, order-of, duplicate-of, precedence-of, conflict-of, cause-of}
use Rattle.std.proofs.Common.{◌≡◌}
use Rattle.class_table.specs.MroMerge.Lists.{numbers}
use Rattle.class_table.proofs.MroMerge.Resolved.{none-of}
use Rattle.class_table.proofs.mro_merge.laws.resolve_mro.Goals as goal

pub linearise_mro-requires : goal.linearise_mro-requires
linearise_mro-requires c = record { lines = lines-bases (numbers c.args.bases.now) (rows c.args.mros.items) c.requires.lines }

pub returns-in-Some-clause-duplicate : goal.returns-in-Some-clause-duplicate
returns-in-Some-clause-duplicate c = λ b.
    let first = first-repeat (numbers c.args.bases.now) c.in-Some.base.0 (sym c.in-Some.ensures) in (
      λ e. let s : c.in-Some.base ≡ b = cc in let P : PyTypeRef → Type 0 = λ k. IsFirstRepeat (numbers c.args.bases.now) k.0 in subst P s first,
      λ k. let e = c.in-Some.ensures ∙ repeat-first (numbers c.args.bases.now) b.0 k in let n : c.in-Some.base.0 ≡ b.0 = cc in let s = same-class c.in-Some.base b n in cc,
    )

pub returns-in-Some-clause-precedence : goal.returns-in-Some-clause-precedence
returns-in-Some-clause-precedence c =
    let first = first-repeat (numbers c.args.bases.now) c.in-Some.base.0 (sym c.in-Some.ensures) in
    (λ e. cc, λ k. absurd (repeat-differs (numbers c.args.bases.now) c.in-Some.base.0 first k.distinct))

pub returns-in-Some-clause-conflict : goal.returns-in-Some-clause-conflict
returns-in-Some-clause-conflict c =
    let first = first-repeat (numbers c.args.bases.now) c.in-Some.base.0 (sym c.in-Some.ensures) in
    (λ e. cc, λ k. absurd (repeat-differs (numbers c.args.bases.now) c.in-Some.base.0 first k.distinct))

pub returns-in-Some-clause-none : goal.returns-in-Some-clause-none
returns-in-Some-clause-none c =
    repeat-none (numbers c.args.bases.now) (rows c.args.mros.items) c.in-Some.base.0 (first-repeat (numbers c.args.bases.now) c.in-Some.base.0 (sym c.in-Some.ensures))

pub returns-in-None-clause-order : goal.returns-in-None-clause-order
returns-in-None-clause-order c =
    let distinct = none-repeats (numbers c.args.bases.now) (sym c.in-None.ensures) in
    order-of (numbers c.args.bases.now) (rows c.args.mros.items) c.requires.lines distinct c.linearise_mro.result c.linearise_mro.ensures.merge

pub returns-in-None-clause-duplicate : goal.returns-in-None-clause-duplicate
returns-in-None-clause-duplicate c =
    let distinct = none-repeats (numbers c.args.bases.now) (sym c.in-None.ensures) in
    duplicate-of (numbers c.args.bases.now) (rows c.args.mros.items) c.requires.lines distinct c.linearise_mro.result c.linearise_mro.ensures.duplicate

pub returns-in-None-clause-precedence : goal.returns-in-None-clause-precedence
returns-in-None-clause-precedence c =
    let distinct = none-repeats (numbers c.args.bases.now) (sym c.in-None.ensures) in
    precedence-of (numbers c.args.bases.now) (rows c.args.mros.items) c.requires.lines distinct c.linearise_mro.result c.linearise_mro.ensures.precedence

pub returns-in-None-clause-conflict : goal.returns-in-None-clause-conflict
returns-in-None-clause-conflict c =
    let distinct = none-repeats (numbers c.args.bases.now) (sym c.in-None.ensures) in
    conflict-of (numbers c.args.bases.now) (rows c.args.mros.items) c.requires.lines distinct c.linearise_mro.result c.linearise_mro.ensures.conflict

pub returns-in-None-clause-none : goal.returns-in-None-clause-none
returns-in-None-clause-none c =
    let distinct = none-repeats (numbers c.args.bases.now) (sym c.in-None.ensures) in
    none-of (numbers c.args.bases.now) (rows c.args.mros.items) c.requires.lines distinct c.linearise_mro.result c.linearise_mro.ensures.duplicate c.linearise_mro.ensures.precedence c.linearise_mro.ensures.conflict

pub returns-in-None-clause-cause : goal.returns-in-None-clause-cause
returns-in-None-clause-cause c =
    let distinct = none-repeats (numbers c.args.bases.now) (sym c.in-None.ensures) in
    cause-of (numbers c.args.bases.now) (rows c.args.mros.items) c.requires.lines distinct c.linearise_mro.result c.linearise_mro.ensures.precedence c.linearise_mro.ensures.conflict

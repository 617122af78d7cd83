use Rattle.script_text.proofs.Lemmas.{sym, ◌∙◌, arith, subst, HasFrom, repeated, one-more, still-differ}
use Rattle.std.proofs.Common.{◌-◌}
use Rattle.script_text.proofs.forms.is_distinct.Goals as goal

pub returns-then-not-branch : goal.returns-then-not-branch
returns-then-not-branch c =
    let l = c.texts in
    repeated c.args.texts.now l.i c.index-texts-i.result l.later.keys c.as_str.result (omega arith) l.invariant.within c.index-texts-i.is c.as_str.ensures.value l.invariant.has (sym c.if-not-branch.true ∙ c.in_ok-insert.ensures.added)

pub texts-preserved : goal.texts-preserved
texts-preserved c =
    let l = c.texts in
    let s = c.index-texts-i.result in
    let grown = one-more c.args.texts.now l.i s l.later.keys c.as_str.result (omega arith) l.invariant.within c.index-texts-i.is c.as_str.ensures.value l.invariant.has in
    record {
      within = omega (arith, l.invariant.within);
      has = subst (λ ks. HasFrom ks c.args.texts.now (l.i - 1)) (sym c.in_ok-insert.ensures.keys) grown;
      differ = still-differ c.args.texts.now l.i s l.later.keys c.as_str.result (omega arith) l.invariant.within c.index-texts-i.is c.as_str.ensures.value l.invariant.has (sym c.if-not-branch.false ∙ c.in_ok-insert.ensures.added) l.invariant.differ;
    }

use Rattle.row_kit.proofs.Lemmas.{length, IfNone, Option, Some, None, List, ℕ, sym, ap, ◌∙◌, subst, arith, drop, take, append_cancel_left, HasNoSignature, ending}
use Rattle.std.proofs.Common.{◌≡◌, ◌≤◌, ◌++◌}
use Rattle.row_kit.proofs.signatures.signature.signature.Goals as goal

if-none : {A : Type 0} (r : Option A) {P : Type 0} → P → IfNone r P
if-none None p = p
if-none (Some x) p = tt

pub returns-in_err-close-clause-none : goal.returns-in_err-close-clause-none
returns-in_err-close-clause-none c =
    let name = c.args.name.now in
    let rest = c.in_ok-rest.rest.now in
    let strip = c.in_ok-rest.ensures.cases in
    let begins : c.args.doc.now ≡ name ++ rest = strip.1.1 ∙ ap (λ (r : List ℕ). name ++ r) (sym strip.2) in
    let none : HasNoSignature name c.args.doc.now = λ r e o i l s.
    let same : r ≡ rest = append_cancel_left name r rest (sym e ∙ begins) in
    c.in_err-close.ensures.cases i (subst (λ (r : List ℕ). i ≤ length r) same l) s.0 (subst (λ (r : List ℕ). drop i r ≡ ending ++ s.0) same s.1)
    in if-none _ none

pub returns-clause-found : goal.returns-clause-found
returns-clause-found c =
    let rest = c.in_ok-rest.rest.now in
    let strip = c.in_ok-rest.ensures.cases in
    let opened = c.if-not-starts_with.ensures.cases in
    let found = c.in_ok-close.ensures.cases in
    record {
      rest = rest;
      begins = strip.1.1 ∙ ap (λ (r : List ℕ). c.args.name.now ++ r) (sym strip.2);
      opens = (drop opened.0 rest, opened.1.1);
      close = c.in_ok-close.close;
      ends = (drop found.0 rest, found.1.1.split);
      first = λ i before s. found.1.0 i before s.0 s.1;
      text_of = c.range.ensures.value ∙ ap (λ n. take n rest) (omega arith);
    }

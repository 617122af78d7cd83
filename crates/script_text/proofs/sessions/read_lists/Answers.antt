use Rattle.script_text.proofs.Lemmas.{[], arith, length-append, ap, ◌∙◌, subst, sym, vec_len, length, ℕ, List, Vec, All, Global, All-push, Command, TOO_MANY, lists-turn}
use Rattle.std.proofs.Common.{◌≡◌, ◌+◌, ◌++◌, ◌∷◌}
use Rattle.std.specs.Prelude.{◌<◌}
use Rattle.script_text.proofs.sessions.read_lists.Goals as goal

pub loop-item-preserved : goal.loop-item-preserved
loop-item-preserved c =
    let l = c.loop-item in
    let s = c.in_ok-read_list.field-0 in
    let few : List (Vec Command Global) → Type 0 = λ ss. All (λ (s : Vec Command Global). vec_len s < TOO_MANY) ss in
    let grown : c.push.new.self.items ≡ l.sessions.items ++ s ∷ [] = grind arith in
    record {
      read = rw grown (lists-turn c.args.items.now l.item-index c.item-item.result l.sessions.items s (omega arith) c.item-item.is c.in_ok-read_list.ensures.ok l.invariant.read);
      len = ap length grown ∙ (length-append l.sessions.items (s ∷ []) ∙ ap (λ (n : ℕ). n + 1) l.invariant.len);
      few = subst few (sym grown) (All-push (λ (s : Vec Command Global). vec_len s < TOO_MANY) l.sessions.items s l.invariant.few c.in_ok-read_list.ensures.few);
    }

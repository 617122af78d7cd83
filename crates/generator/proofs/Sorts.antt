-- Each reply is of one sort.
use Rattle.generator.proofs.Below.{List, [], length, refl, sym, ap, ◌∙◌, arith, cond, PlainReply, PlainReplyAnswer, GivesValue, GivesRaise, GivesBudget, length-append, sum_by-cons, sum_by_push, Tally, values, raised, budget, is_value, is_raise, is_budget, Added, Counts}
use Rattle.std.proofs.Common.{◌≡◌, ◌+◌, ◌∷◌, ◌++◌}

one-sort : (a : PlainReplyAnswer) → cond (is_value a) 1 0 + cond (is_raise a) 1 0 + cond (is_budget a) 1 0 ≡ 1
one-sort (GivesValue object text) = refl
one-sort (GivesRaise fault) = refl
one-sort GivesBudget = refl

pub sorts-add-up : (replies : List PlainReply) → values replies + raised replies + budget replies ≡ length replies
sorts-add-up [] = refl
sorts-add-up (r ∷ rs) =
    omega (
      arith,
      one-sort r.answer,
      sorts-add-up rs,
      sum_by-cons (λ (s : PlainReply). cond (is_value s.answer) 1 0) r rs,
      sum_by-cons (λ (s : PlainReply). cond (is_raise s.answer) 1 0) r rs,
      sum_by-cons (λ (s : PlainReply). cond (is_budget s.answer) 1 0) r rs,
    )

-- one more reply is counted
pub counts-one-more : (old new : Tally) (rs : List PlainReply) (r : PlainReply) → Added old r new → Counts old rs → Counts new (rs ++ r ∷ [])
counts-one-more old new rs r more so_far = record {
  replied = omega (arith, more.replied, so_far.replied, length-append rs (r ∷ []));
  valued = more.valued ∙ ap (λ n. n + cond (is_value r.answer) 1 0) so_far.valued ∙ sym (sum_by_push (λ (s : PlainReply). cond (is_value s.answer) 1 0) rs r);
  faulted = more.faulted ∙ ap (λ n. n + cond (is_raise r.answer) 1 0) so_far.faulted ∙ sym (sum_by_push (λ (s : PlainReply). cond (is_raise s.answer) 1 0) rs r);
  ended = more.ended ∙ ap (λ n. n + cond (is_budget r.answer) 1 0) so_far.ended ∙ sym (sum_by_push (λ (s : PlainReply). cond (is_budget s.answer) 1 0) rs r);
  started = more.started ∙ ap (λ n. n + length r.calls) so_far.started ∙ sym (sum_by_push (λ (s : PlainReply). length s.calls) rs r);
}

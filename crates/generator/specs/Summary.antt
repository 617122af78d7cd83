-- How many replies are of each sort, how many bodies were started, and what is written of these.
use Rattle.generator.specs.Below.{ℕ, Bool, true, false, cond, List, length, codes, count_by, sum_by, decimal, Text, PlainReply, PlainReplyAnswer, GivesValue, GivesRaise, GivesBudget, end_of_line}
use Rattle.std.specs.Prelude.{◌≡◌, ◌+◌, ◌++◌}
use Rattle.generator.specs.declared.tally.Tally.{Tally}

abbrev pub is_value : PlainReplyAnswer → Bool
is_value (GivesValue object text) = true
is_value other = false

abbrev pub is_raise : PlainReplyAnswer → Bool
is_raise (GivesRaise fault) = true
is_raise other = false

abbrev pub is_budget : PlainReplyAnswer → Bool
is_budget GivesBudget = true
is_budget other = false

-- how many replies are values, faults, and ends of the budget
abbrev pub values : List PlainReply → ℕ
values replies = count_by (λ reply. is_value reply.answer) replies

abbrev pub raised : List PlainReply → ℕ
raised replies = count_by (λ reply. is_raise reply.answer) replies

abbrev pub budget : List PlainReply → ℕ
budget replies = count_by (λ reply. is_budget reply.answer) replies

-- how many bodies were started in all
abbrev pub calls : List PlainReply → ℕ
calls replies = sum_by (λ reply. length reply.calls) replies

-- a word with its number
abbrev pub line : Text → ℕ → Text
line word n = word ++ codes " " ++ decimal n ++ end_of_line

-- the four numbers, a line each
abbrev pub summary : List PlainReply → Text
summary replies = line (codes "values") (values replies) ++ line (codes "raised") (raised replies) ++ line (codes "budget") (budget replies) ++ line (codes "calls") (calls replies)

-- the numbers of a tally are those of these replies
pub record Counts (tally : Tally) (rs : List PlainReply) : Type 0 where
  pub replied : tally.replies ≡ length rs
  pub valued : tally.values ≡ values rs
  pub faulted : tally.raised ≡ raised rs
  pub ended : tally.budget ≡ budget rs
  pub started : tally.calls ≡ calls rs

-- one more reply is counted
pub record Added (old : Tally) (r : PlainReply) (new : Tally) : Type 0 where
  pub replied : new.replies ≡ old.replies + 1
  pub valued : new.values ≡ old.values + cond (is_value r.answer) 1 0
  pub faulted : new.raised ≡ old.raised + cond (is_raise r.answer) 1 0
  pub ended : new.budget ≡ old.budget + cond (is_budget r.answer) 1 0
  pub started : new.calls ≡ old.calls + length r.calls

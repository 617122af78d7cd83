-- What is written for the replies to a script.
use Rattle.plain_machine.specs.Below.{List, [], codes, flat_map, Text, kind_word, cause_word, PlainReply, Started, PlainReplyAnswer, GivesValue, GivesRaise, GivesBudget}
use Rattle.std.specs.Prelude.{◌∷◌, ◌++◌}
use Rattle.plain_machine.specs.Escapes.{escaped}

-- an end of line
abbrev pub end_of_line : Text
end_of_line = 10 ∷ []

-- texts joined by a separator: it stands before each but the first
abbrev pub joined : Text → List Text → Text
joined between [] = []
joined between (text ∷ texts) = text ++ flat_map (λ next. between ++ next) texts

-- a body that was started
abbrev pub call_line : Started → Text
call_line call =
    codes "call " ++ escaped call.name ++ codes "(" ++ joined (codes ", ") call.args ++ codes ")" ++ end_of_line

-- how a command ended
abbrev pub answer_line : PlainReplyAnswer → Text
answer_line (GivesValue object text) = codes "= " ++ text ++ end_of_line
answer_line (GivesRaise fault) = codes "! " ++ kind_word fault.kind ++ codes " " ++ cause_word fault.cause ++ end_of_line
answer_line GivesBudget = codes "? Budget" ++ end_of_line

-- the bodies that a command started, in order, and how it ended
abbrev pub reply_lines : PlainReply → Text
reply_lines reply = flat_map call_line reply.calls ++ answer_line reply.answer

abbrev pub replies_text : List PlainReply → Text
replies_text replies = flat_map reply_lines replies

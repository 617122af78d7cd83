-- Replies, with texts for the strings of the code.
use Rattle.py_node.specs.Below.{List, map, string_bytes}
use Rattle.py_node.specs.declared.raised.Raised.{Raised as Fault}
use Rattle.py_node.specs.declared.refs.PyObjectRef.{PyObjectRef}
use Rattle.py_node.specs.declared.reply.BodyCall.{BodyCall}
use Rattle.py_node.specs.declared.reply.Reply.{Reply}
use Rattle.py_node.specs.declared.reply.ReplyAnswer.{ReplyAnswer}
use Rattle.py_node.specs.declared.reply.ReplyAnswer.TheVariants.{Value, Raised, Budget}
use Rattle.py_node.specs.Tree.{Text}

-- a body that was started, with the texts of its parameters' values
pub record Started : Type 0 where
  pub name : Text
  pub args : List Text

-- how a command ended
pub data PlainReplyAnswer : Type 0 where
  GivesValue : PyObjectRef → Text → PlainReplyAnswer
  GivesRaise : Fault → PlainReplyAnswer
  GivesBudget : PlainReplyAnswer

pub record PlainReply : Type 0 where
  pub answer : PlainReplyAnswer
  pub calls : List Started

abbrev pub started_of : BodyCall → Started
started_of c = record { name = string_bytes c.name; args = map (λ s. string_bytes s) c.args.items }

abbrev pub reply_answer_of : ReplyAnswer → PlainReplyAnswer
reply_answer_of (Value r s) = GivesValue r (string_bytes s)
reply_answer_of (Raised x) = GivesRaise x
reply_answer_of Budget = GivesBudget

-- the reply that one of the code stands for
abbrev pub reply_of : Reply → PlainReply
reply_of r = record { answer = reply_answer_of r.answer; calls = map started_of r.calls.items }

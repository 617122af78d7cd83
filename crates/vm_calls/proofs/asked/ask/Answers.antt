use Rattle.vm_calls.proofs.Lemmas.{rules, subst, Answer, PyResult, Done, AllHold, of_answer, Asked, of_done, asked-kind}
use Rattle.vm_calls.proofs.asked.ask.Goals as goal

pub from_answer-requires : goal.from_answer-requires
from_answer-requires g c =
    let asked : Asked c.args.task c.args.vm.now.world c.args.budget c.ask.new.self.world (Done c.in-Done.answer) = subst (λ (r : PyResult Answer). Asked c.args.task c.args.vm.now.world c.args.budget c.ask.new.self.world r) c.in-Done.is c.in_ok-answer.ensures.answers in
    let kind = asked-kind c.answers_are_of_their_kinds.ensures c.args.task c.args.vm.now.world c.ask.new.self.world c.args.budget c.in-Done.answer asked c.in_ok-answer.ensures.readable in
    c.requires.kind kind.0 c.in-Done.answer kind.1

pub returns-in-Done : goal.returns-in-Done
returns-in-Done g c =
    let asked : Asked c.args.task c.args.vm.now.world c.args.budget c.ask.new.self.world (Done c.in-Done.answer) = subst (λ (r : PyResult Answer). Asked c.args.task c.args.vm.now.world c.args.budget c.ask.new.self.world r) c.in-Done.is c.in_ok-answer.ensures.answers in
    let held : AllHold c.ask.new.self.world (of_done of_answer (Done c.in-Done.answer)) = subst (λ (r : PyResult Answer). AllHold c.ask.new.self.world (of_done of_answer r)) c.in-Done.is c.in_ok-answer.ensures.holds in
    record {
      leads = (Done c.in-Done.answer, asked, c.from_answer.ensures.told);
      holds = c.from_answer.ensures.holds c.ask.new.self.world held;
      failed = search rules;
      memory = search rules;
      works = search rules;
      gives_up = search rules;
      readable = search rules;
      grows = search rules;
      rests = search rules;
      sound = search rules;
    }

use Rattle.vm_eval.proofs.Lemmas.{[], arith, each-pop, of_kept, no-frames, under-way, ended, resumed-next, began-next, asked-holds, over, spent-next}
use Rattle.std.proofs.Common.{◌≡◌, ◌-◌}
use Rattle.vm_eval.proofs.stack.take_turns.Goals as goal

pub turns-init : goal.turns-init
turns-init c = record {
  way = under-way c.args.task c.args.world.now c.args.units c.begin.new.world c.begin.new.stack.items c.in_ok-next.next (rw c.clear.ensures.items at c.in_ok-next.ensures.goes);
  room = let k = c.clear.ensures.capacity in let m = c.in_ok-next.ensures.room in omega (arith, k, m);
}

-- an answer goes to the frame on top
pub resume-requires-clause-kept : goal.resume-requires-clause-kept
resume-requires-clause-kept c =
    let way = ended c.args.task c.args.world.now c.args.units c.turns.world c.turns.stack.items c.turns.left c.in-End.answer (rw c.in-End.is at c.turns.invariant.way) in
    (each-pop c.turns.world of_kept c.pop.new.self.items c.in-Some.kept (rw c.in-Some.ensures.items at way.frames)).1

pub resume-requires-clause-answer : goal.resume-requires-clause-answer
resume-requires-clause-answer c =
    (ended c.args.task c.args.world.now c.args.units c.turns.world c.turns.stack.items c.turns.left c.in-End.answer (rw c.in-End.is at c.turns.invariant.way)).claims

pub turns-preserved-in-Some : goal.turns-preserved-in-Some
turns-preserved-in-Some c = record {
  way = resumed-next c.args.task c.args.world.now c.args.units c.turns.world c.resume.new.world c.pop.new.self.items c.resume.new.stack.items c.in-Some.kept c.in-End.answer c.turns.left c.in_ok-next-in-Some.next (rw (c.in-End.is, c.in-Some.ensures.items) at c.turns.invariant.way) c.in_ok-next-in-Some.ensures.goes;
  room = let k = c.turns.invariant.room in let m = c.pop.ensures.capacity in let n = c.in_ok-next-in-Some.ensures.room in omega (arith, k, m, n);
}

-- or no frame waits for it
pub returns-in-None-clause-reaches : goal.returns-in-None-clause-reaches
returns-in-None-clause-reaches c =
    let none : c.turns.stack.items ≡ [] = no-frames _ (omega (arith, c.in-None.ensures.cases, c.turns.stack.ok.0)) in
    over c.args.task c.args.world.now c.args.units c.turns.world c.in-End.answer c.turns.left (ended c.args.task c.args.world.now c.args.units c.turns.world [] c.turns.left c.in-End.answer (rw (c.in-End.is, none) at c.turns.invariant.way))

-- no unit is left
pub returns-then-left-eq0-clause-reaches : goal.returns-then-left-eq0-clause-reaches
returns-then-left-eq0-clause-reaches c =
    rw c.unpaid.ensures (spent-next c.args.task c.args.world.now c.args.units c.turns.world c.turns.stack.items c.in-Ask.asked (rw (c.in-Ask.is, c.if-left-eq0.true) at c.turns.invariant.way))

-- a row asks
pub begin_above-requires : goal.begin_above-requires
begin_above-requires c = asked-holds c.args.task c.args.world.now c.args.units c.turns.world c.turns.stack.items c.turns.left c.in-Ask.asked (rw c.in-Ask.is at c.turns.invariant.way)

pub turns-preserved : goal.turns-preserved
turns-preserved c = record {
  way = began-next c.args.task c.args.world.now c.args.units c.turns.world c.begin_above.new.world c.turns.stack.items c.begin_above.new.stack.items c.in-Ask.asked c.turns.left (c.turns.left - 1) c.in_ok-next-in-Ask.next (omega arith) (rw c.in-Ask.is at c.turns.invariant.way) c.in_ok-next-in-Ask.ensures.goes;
  room = let k = c.turns.invariant.room in let m = c.in_ok-next-in-Ask.ensures.room in omega (arith, k, m);
}

use Rattle.shared_vm.proofs.Lemmas.{ℕ, length, rules, subst, sym, ap, ◌∙◌, YieldsList-from_zip, YieldsList-from_vec, YieldsList-turn, YieldsList-end, length_push, Known, IsFree, Entry, paired_len, next_free, ready_more}
use Rattle.std.proofs.Common.{◌+◌}
use mathlib.Core.List.{IsPrefix}
use Rattle.shared_vm.proofs.shared_run.crew.introduce.Goals as goal

pub meet-requires-clause-seat : goal.meet-requires-clause-seat
meet-requires-clause-seat c =
    let gives = YieldsList-from_zip {s = c.into_iter-seat-iterator.result} (YieldsList-from_vec c.args.seats.items (search rules) (search rules)) (YieldsList-from_vec c.args.sessions.items (search rules) (search rules)) in
    let turn = YieldsList-turn gives c.loop-seat.yielded c.loop-seat.seat-iterator c.loop-seat.yielded_by c.next.result c.next.new.self (c.in-Some.seat, c.in-Some.session) c.in-Some.is c.next.ensures.steps in
    next_free c.args.vm.now.id (length c.loop-seat.yielded) c.args.seats.items c.args.sessions.items c.in-Some.seat c.in-Some.session c.requires.seats c.requires.len turn

pub meet-requires-clause-other : goal.meet-requires-clause-other
meet-requires-clause-other c = subst (λ (s : Known Entry). IsFree c.args.vm.now.id s) (sym c.loop-seat.invariant.same) c.requires.first

pub loop-seat-preserved : goal.loop-seat-preserved
loop-seat-preserved c =
    let gives = YieldsList-from_zip {s = c.into_iter-seat-iterator.result} (YieldsList-from_vec c.args.seats.items (search rules) (search rules)) (YieldsList-from_vec c.args.sessions.items (search rules) (search rules)) in
    let turn = YieldsList-turn gives c.loop-seat.yielded c.loop-seat.seat-iterator c.loop-seat.yielded_by c.next.result c.next.new.self (c.in-Some.seat, c.in-Some.session) c.in-Some.is c.next.ensures.steps in
    let v = c.loop-seat.invariant in
    record {
      same = c.meet.ensures.other ∙ v.same;
      len = ap length c.in_ok-push.ensures.items ∙ (length_push c.loop-seat.crew.items _ ∙ (ap (λ (n : ℕ). n + 1) v.len ∙ sym (length_push c.loop-seat.yielded (c.in-Some.seat, c.in-Some.session))));
      ready = ready_more c.args.vm.now.id (length c.loop-seat.yielded) c.args.seats.items c.args.sessions.items c.in-Some.seat c.in-Some.session c.requires.seats c.requires.len turn c.args.first.now.seen c.meet.new.seat
          c.loop-seat.crew.items c.push.new.self.items c.requires.short c.meet.ensures.same c.meet.ensures.free c.meet.ensures.own (subst (λ (s : Known Entry). IsPrefix s.seen c.meet.new.seat.seen) v.same c.meet.ensures.told) v.len v.ready c.in_ok-push.ensures.items;
    }

pub returns-clause-len : goal.returns-clause-len
returns-clause-len c =
    let gives = YieldsList-from_zip {s = c.into_iter-seat-iterator.result} (YieldsList-from_vec c.args.seats.items (search rules) (search rules)) (YieldsList-from_vec c.args.sessions.items (search rules) (search rules)) in
    let end = YieldsList-end gives c.loop-seat.yielded c.loop-seat.seat-iterator c.loop-seat.yielded_by c.next.result c.next.new.self c.in-None.is c.next.ensures.steps in
    c.loop-seat.invariant.len ∙ paired_len c.args.seats.items c.args.sessions.items (length c.loop-seat.yielded) c.requires.len end.1

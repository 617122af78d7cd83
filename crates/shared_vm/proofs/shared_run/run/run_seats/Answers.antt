use Rattle.shared_vm.proofs.Lemmas.{ℕ, List, length, vec_len, sym, subst, rules, All, with_items, places, MayPerform, Worker, session_trees, first_taken, first_fresh, later_fresh, fresh_may, first_short, later_short, tails_same, may_of_ready, kept_len, worked_in, run_did}
use Rattle.std.proofs.Common.{◌≡◌, ◌<◌}
use Rattle.shared_vm.proofs.shared_run.run.run_seats.Goals as goal

pub perform-requires : goal.perform-requires
perform-requires g c =
    let sessions = first_taken c.args.sessions.items c.remove-opening.new.self.items c.remove-opening.result c.requires.opening c.remove-opening.ensures.value c.remove-opening.ensures.by_index.2 in
    let seats = first_taken c.args.seats.items c.remove-first.new.self.items c.remove-first.result (subst (λ (n : ℕ). 0 < n) (sym c.requires.len) c.requires.opening) c.remove-first.ensures.value c.remove-first.ensures.by_index.2 in
    fresh_may c.args.vm.now.id 0 _ c.remove-first.result (first_fresh c.args.vm.now.id c.args.seats.items c.remove-first.new.self.items c.remove-first.result seats c.requires.seats)
    (first_short c.args.sessions.items c.remove-opening.new.self.items c.remove-opening.result sessions c.requires.short)

pub introduce-requires-clause-first : goal.introduce-requires-clause-first
introduce-requires-clause-first g c = c.perform.ensures.stays.free

pub introduce-requires-clause-seats : goal.introduce-requires-clause-seats
introduce-requires-clause-seats g c =
    let seats = first_taken c.args.seats.items c.remove-first.new.self.items c.remove-first.result (subst (λ (n : ℕ). 0 < n) (sym c.requires.len) c.requires.opening) c.remove-first.ensures.value c.remove-first.ensures.by_index.2 in
    later_fresh c.args.vm.now.id c.args.seats.items c.remove-first.new.self.items c.remove-first.result seats c.requires.seats

pub introduce-requires-clause-short : goal.introduce-requires-clause-short
introduce-requires-clause-short g c =
    let sessions = first_taken c.args.sessions.items c.remove-opening.new.self.items c.remove-opening.result c.requires.opening c.remove-opening.ensures.value c.remove-opening.ensures.by_index.2 in
    later_short c.args.sessions.items c.remove-opening.new.self.items c.remove-opening.result sessions c.requires.short

pub introduce-requires-clause-len : goal.introduce-requires-clause-len
introduce-requires-clause-len g c =
    let sessions = first_taken c.args.sessions.items c.remove-opening.new.self.items c.remove-opening.result c.requires.opening c.remove-opening.ensures.value c.remove-opening.ensures.by_index.2 in
    let seats = first_taken c.args.seats.items c.remove-first.new.self.items c.remove-first.result (subst (λ (n : ℕ). 0 < n) (sym c.requires.len) c.requires.opening) c.remove-first.ensures.value c.remove-first.ensures.by_index.2 in
    tails_same c.args.seats.items c.remove-first.new.self.items c.args.sessions.items c.remove-opening.new.self.items c.remove-first.result c.remove-opening.result seats sessions c.requires.len

pub work_all-requires-clause-crew : goal.work_all-requires-clause-crew
work_all-requires-clause-crew g c κs within =
    subst (λ (ws : List Worker). All (λ (w : Worker). MayPerform c.args.vm.now.id (vec_len w.session) w.seat) ws) (sym c.as_mut_slice.ensures.value)
    (may_of_ready c.args.vm.now.id c.perform.new.seat.seen (session_trees c.remove-opening.new.self.items) c.in_ok-crew.crew.items c.in_ok-crew.ensures.ready)

pub returns-clause-did : goal.returns-clause-did
returns-clause-did g c =
    let sessions = first_taken c.args.sessions.items c.remove-opening.new.self.items c.remove-opening.result c.requires.opening c.remove-opening.ensures.value c.remove-opening.ensures.by_index.2 in
    let seats = first_taken c.args.seats.items c.remove-first.new.self.items c.remove-first.result (subst (λ (n : ℕ). 0 < n) (sym c.requires.len) c.requires.opening) c.remove-first.ensures.value c.remove-first.ensures.by_index.2 in
    let crew = c.in_ok-crew.crew in
    let new = c.work_all.new.crew in
    let long : length new ≡ crew.len = search (rules, places) in (
      c.perform.new.seat.seen,
      run_did c.args.vm.now.id c.args.budget c.args.seats.items c.remove-first.new.self.items c.args.sessions.items c.remove-opening.new.self.items c.remove-opening.result c.remove-first.result c.perform.new.seat c.introduce.new.first
          crew.items (with_items crew new).items c.in_ok-all.all.items seats sessions c.requires.seats c.perform.ensures.stays (c.perform.ensures.all c.if-not-perform.false) c.in_ok-crew.ensures.same c.in_ok-crew.ensures.ready
          (kept_len crew new) (worked_in c.args.vm.now.id c.args.budget crew c.as_mut_slice.result.now new c.as_mut_slice.ensures.value long c.work_all.ensures) c.in_ok-all.ensures.accepted c.in_ok-all.ensures.seats,
    )

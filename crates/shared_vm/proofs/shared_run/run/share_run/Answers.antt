use Rattle.shared_vm.proofs.Lemmas.{length, sym, ◌∙◌, arith, Vec, Global, length-map, Command, trees_in, session_trees, mix_of, fresh_at}
use Rattle.std.proofs.Common.{◌≡◌, ◌<◌}
use Rattle.shared_vm.proofs.shared_run.run.share_run.Goals as goal

pub run_seats-requires-clause-seats : goal.run_seats-requires-clause-seats
run_seats-requires-clause-seats g c κs within = fresh_at c.in_ok-vm.vm.id _ c.in_ok-vm.seats.items (sym c.in_ok-vm.seats.ok.0 ∙ c.in_ok-vm.ensures.len) c.in_ok-vm.ensures.seats

pub close-closed-requires-clause-free : goal.close-closed-requires-clause-free
close-closed-requires-clause-free g c = λ k d less. (c.in_ok-seats.ensures.did.1 k d less).free

pub returns-clause-mix : goal.returns-clause-mix
returns-clause-mix g c =
    let sessions = c.args.sessions.items in
    let long : length (session_trees sessions) ≡ length sessions = length-map sessions (λ (v : Vec Command Global). trees_in v.items) in
    let whole = c.close-closed.ensures.whole in
    let did = c.in_ok-seats.ensures.did in
    let count : c.in_ok-vm.vm.seats ≡ length sessions = c.in_ok-vm.ensures.vm ∙ (c.len-count.ensures ∙ c.args.sessions.ok.0) in
    let some : 0 < c.in_ok-vm.vm.seats = omega (arith, count, c.requires.opening, c.args.sessions.ok.0) in
    mix_of c.in_ok-vm.vm.id c.args.budget c.in_ok-vm.vm.seats did.0 (session_trees sessions) c.in_ok-seats.seats.items c.close-closed.result.journal.items whole.0 did.1
    (c.in_ok-seats.ensures.len ∙ sym long) (count ∙ sym long) some whole.1 whole.3

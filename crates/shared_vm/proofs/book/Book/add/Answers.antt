use Rattle.shared_vm.proofs.Lemmas.{[], List, length, Some, refl, ap, ◌∙◌, Entry, Pages, true_added, on_err}
use Rattle.std.proofs.Common.{◌≡◌, ◌++◌, ◌∷◌}
use Rattle.shared_vm.proofs.book.Book.add.Goals as goal

pub invariant_of-self-in_err-copy : goal.invariant_of-self-in_err-copy
invariant_of-self-in_err-copy c =
    let old : Pages = record { machine = c.self.inside.machine; journal = c.self.inside.journal.items } in
    let e : Entry = record { seat = c.args.seat; number = c.next_number-number.result; command = c.args.command; budget = c.args.budget; reply = c.in_ok-reply.reply } in
    true_added old c.run_single.new.machine e c.reserve.new.self.items c.deref.result.now c.push_reserved.new.self.items c.self.invariant (ap (λ (b : Pages). b.machine.failed) c.self.view_is ∙ c.requires)
    c.in_ok-reply.ensures.ran c.in_ok-reply.ensures.readable c.next_number-number.ensures c.deref.ensures.value c.in_ok-reserve.ensures.items c.push_reserved.ensures.items

pub invariant_of-self-2 : goal.invariant_of-self-2
invariant_of-self-2 c =
    let old : Pages = record { machine = c.self.inside.machine; journal = c.self.inside.journal.items } in
    let e : Entry = record { seat = c.args.seat; number = c.next_number-number.result; command = c.args.command; budget = c.args.budget; reply = c.in_ok-reply.reply } in
    true_added old c.run_single.new.machine e c.reserve.new.self.items c.deref.result.now c.push_reserved.new.self.items c.self.invariant (ap (λ (b : Pages). b.machine.failed) c.self.view_is ∙ c.requires)
    c.in_ok-reply.ensures.ran c.in_ok-reply.ensures.readable c.next_number-number.ensures c.deref.ensures.value c.in_ok-reserve.ensures.items c.push_reserved.ensures.items

pub returns-in_err-copy-clause-left : goal.returns-in_err-copy-clause-left
returns-in_err-copy-clause-left c =
    let e : Entry = record { seat = c.args.seat; number = c.next_number-number.result; command = c.args.command; budget = c.args.budget; reply = c.in_ok-reply.reply } in
    let was : c.reserve.new.self.items ≡ c.args.self.now.journal = c.in_ok-reserve.ensures.items ∙ ap (λ (b : Pages). b.journal) c.self.view_is in
    on_err c.from_residual-in_err-copy.result (Some e, c.push_reserved.ensures.items ∙ ap (λ (j : List Entry). j ++ e ∷ []) was, record { seat_is = refl; command_is = refl; budget_is = refl })

pub returns-clause-added : goal.returns-clause-added
returns-clause-added c =
    let e : Entry = record { seat = c.args.seat; number = c.next_number-number.result; command = c.args.command; budget = c.args.budget; reply = c.in_ok-reply.reply } in
    let was : c.reserve.new.self.items ≡ c.args.self.now.journal = c.in_ok-reserve.ensures.items ∙ ap (λ (b : Pages). b.journal) c.self.view_is in (
      e,
      c.push_reserved.ensures.items ∙ ap (λ (j : List Entry). j ++ e ∷ []) was,
      record { seat_is = refl; command_is = refl; budget_is = refl },
      record { place_is = c.len-place.ensures ∙ (c.reserve.new.self.ok.0 ∙ ap (λ (j : List Entry). length j) was); seat_is = refl; command_is = c.in_ok-told.ensures; reply_is = c.in_ok-copy.ensures },
    )

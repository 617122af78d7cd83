use Rattle.proto_object.proofs.Lemmas.{true, false, sym, ◌∙◌, ap, arith, nat_le, most_items, more-nodes, grows-itself, next-asked, too-many}
use Rattle.std.proofs.Common.{◌≡◌, length}
use Rattle.proto_object.proofs.proto_items.listed.one_more.Goals as goal

pub returns-then-not-is_within_limit-clause-goes : goal.returns-then-not-is_within_limit-clause-goes
returns-then-not-is_within_limit-clause-goes c =
    let a = c.args in
    let later = c.push.new.self in
    let size : c.len.result ≡ length later.items = let h = c.len.ensures in omega (arith, h) in
    let no : nat_le (length later.items) most_items ≡ false = ap (λ n. nat_le n most_items) (sym size) ∙ sym c.is_within_limit.ensures ∙ c.if-not-is_within_limit.true in
    rw c.raise.ensures (too-many a.world.now a.iterator a.items a.item later c.in_ok-push.ensures.items no)

pub returns-clause-goes : goal.returns-clause-goes
returns-clause-goes c =
    let a = c.args in
    let later = c.push.new.self in
    let size : c.len.result ≡ length later.items = let h = c.len.ensures in omega (arith, h) in
    let yes : nat_le (length later.items) most_items ≡ true = ap (λ n. nat_le n most_items) (sym size) ∙ sym c.is_within_limit.ensures ∙ c.if-not-is_within_limit.false in
    rw c.ask_next.ensures (next-asked a.world.now a.iterator a.items a.item later c.in_ok-push.ensures.items yes)

pub returns-clause-safe : goal.returns-clause-safe
returns-clause-safe c =
    let a = c.args in
    let w = a.world.now in
    rw (c.ask_next.ensures, c.in_ok-push.ensures.items) (grows-itself w, (c.requires.iterator, (c.requires.iterator, (more-nodes w a.items.items a.item c.requires.items c.requires.item, tt))))

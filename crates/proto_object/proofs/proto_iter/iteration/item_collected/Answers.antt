use Rattle.proto_object.proofs.Lemmas.{◌∙◌, true, false, Ok, ap, sym, arith, length, nat_le, Value, Exhausted, most_items, more-nodes, grows-itself, Collecting, answered, answer-holds, ends-same, item-is, none-is, steps-so, asks-more, ends-all, ends-long}
use Rattle.std.proofs.Common.{◌≡◌}
use Rattle.proto_object.proofs.ProtoIter.Collect.{ends-other}
use Rattle.proto_object.proofs.proto_iter.iteration.item_collected.Goals as goal

pub returns-then-not-is_within_limit-clause-goes : goal.returns-then-not-is_within_limit-clause-goes
returns-then-not-is_within_limit-clause-goes c =
    let a = c.args in
    let v = c.in-Ok-Some.item in
    let more = c.push.new.self in
    let size : c.len.result ≡ length more.items = let h = c.len.ensures in omega (arith, h) in
    let room : nat_le (length more.items) most_items ≡ false = ap (λ n. nat_le n most_items) (sym size) ∙ sym c.is_within_limit.ensures ∙ c.if-not-is_within_limit.true in
    answered (Collecting a.iterator a.items) a.answer (Ok (Value v)) a.world.now _ (item-is c.in-Ok-Some.field-0 v c.args.answer (cc) c.in-Ok-Some.ensures.item) (
    steps-so (Collecting a.iterator a.items) (Ok (Value v)) a.world.now c.raise.result _ c.raise.ensures (ends-long a.iterator a.items more v a.world.now c.in_ok-push-in-Ok-Some.ensures.items room))

pub returns-else-not-is_within_limit-clause-goes : goal.returns-else-not-is_within_limit-clause-goes
returns-else-not-is_within_limit-clause-goes c =
    let a = c.args in
    let v = c.in-Ok-Some.item in
    let more = c.push.new.self in
    let size : c.len.result ≡ length more.items = let h = c.len.ensures in omega (arith, h) in
    let room : nat_le (length more.items) most_items ≡ true = ap (λ n. nat_le n most_items) (sym size) ∙ sym c.is_within_limit.ensures ∙ c.if-not-is_within_limit.false in
    answered (Collecting a.iterator a.items) a.answer (Ok (Value v)) a.world.now _ (item-is c.in-Ok-Some.field-0 v c.args.answer (cc) c.in-Ok-Some.ensures.item) (asks-more a.iterator a.items more v a.world.now c.in_ok-push-in-Ok-Some.ensures.items room)

pub returns-else-not-is_within_limit-clause-safe : goal.returns-else-not-is_within_limit-clause-safe
returns-else-not-is_within_limit-clause-safe c =
    let a = c.args in
    let v = c.in-Ok-Some.item in
    let node = answer-holds a.world.now a.answer (Ok (Value v)) (item-is c.in-Ok-Some.field-0 v c.args.answer (cc) c.in-Ok-Some.ensures.item) c.requires.answer in
    (grows-itself a.world.now, (c.requires.iterator, (c.requires.iterator, (rw c.in_ok-push-in-Ok-Some.ensures.items (more-nodes a.world.now a.items.items v c.requires.items node.0), tt))))

pub returns-in-Ok-None-clause-goes : goal.returns-in-Ok-None-clause-goes
returns-in-Ok-None-clause-goes c =
    let a = c.args in
    answered (Collecting a.iterator a.items) a.answer (Ok Exhausted) a.world.now _ (none-is c.in-Ok-None.field-0 c.args.answer (cc) c.in-Ok-None.ensures.item) (ends-all a.iterator a.items a.world.now)

pub returns-in-Err-clause-goes : goal.returns-in-Err-clause-goes
returns-in-Err-clause-goes c =
    let a = c.args in
    ends-same (Collecting a.iterator a.items) a.answer c.in-Err.other a.world.now c.in-Err.ensures.same (ends-other a.iterator a.items a.answer a.world.now c.in-Err.ensures.other)

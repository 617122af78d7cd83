use Rattle.order_check.proofs.Lemmas.{length, add-one, zip_turn, zip_end, length_push, one-more, all-there}
use Rattle.order_check.proofs.report_text.write.push_lines.Goals as goal

pub loop-class-preserved : goal.loop-class-preserved
loop-class-preserved c =
    let h = c.args.entries.now in
    let es = c.args.classes.now in
    let ls = c.args.lines.now in
    let xs = c.loop-class.yielded in
    let e = c.in-Some.class.now in
    let l = c.in-Some.line.now in
    let s = c.into_iter-class-iterator.result in
    let turn = zip_turn es ls xs s c.loop-class.class-iterator c.next.new.self c.next.result (cc) (cc) c.loop-class.yielded_by _ c.in-Some.is c.next.ensures.steps in
    let next = length_push xs (c.in-Some.class, c.in-Some.line) in
    rw (next, add-one) (one-more h es ls (length xs) e l _ _ _ turn.0 turn.1 (turn.2 e) (turn.3 l) c.in_ok-push_line.ensures c.loop-class.invariant)

pub returns : goal.returns
returns c =
    let h = c.args.entries.now in
    let es = c.args.classes.now in
    let ls = c.args.lines.now in
    let xs = c.loop-class.yielded in
    let s = c.into_iter-class-iterator.result in
    let done = zip_end es ls xs s c.loop-class.class-iterator c.next.new.self c.next.result (cc) (cc) c.loop-class.yielded_by c.in-None.is c.next.ensures.steps in
    all-there h es ls (length xs) _ _ done c.loop-class.invariant

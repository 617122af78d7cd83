use Rattle.class_table.proofs.Lemmas.{ℕ, suc, List, Some, length, get_or, ap, sym, ◌∙◌, arith, drop, drop-cons, PyTypeRef, layout_along, members_in, place_along, numbers, classes_of, layout-none, layout-below, layout-own}
use Rattle.std.proofs.Common.{◌≡◌, ◌+◌, ◌-◌, ◌<◌, ◌∷◌, slice_index_or}
use Rattle.class_table.proofs.member_place.place_along.Goals as goal

-- the rest of a line begins with its class
rest-begins : (line : List PyTypeRef) (i : ℕ) (d : PyTypeRef) → i < length line → numbers (drop i line) ≡ (get_or line i d).0 ∷ numbers (drop (i + 1) line)
rest-begins line i d l =
    let next : suc i ≡ i + 1 = omega arith in
    ap numbers (drop-cons line i d l) ∙ ap (λ n. (get_or line i d).0 ∷ numbers (drop n line)) next

pub returns-then-before-offset : goal.returns-then-before-offset
returns-then-before-offset c =
    let t = classes_of c.args.classes.now in
    let i = c.loop-owner.invariant in
    let here = i.0 in
    let low = c.if-before-offset.true in
    sym (i.1 ∙ layout-none t (numbers (drop c.loop-owner.owner-index c.args.line.now)) c.args.offset (omega (arith, here, low)))

pub returns-then-before-offset-2 : goal.returns-then-before-offset-2
returns-then-before-offset-2 c =
    let t = classes_of c.args.classes.now in
    let line = c.args.line.now in
    let n = c.loop-owner.owner-index in
    let owner = slice_index_or line n (record { 0 = 0 }) in
    let rest = numbers (drop (n + 1) line) in
    let begins = rest-begins line n (record { 0 = 0 }) c.loop-owner-test.true in
    let i = c.loop-owner.invariant in
    let here : c.loop-owner.before ≡ members_in t (owner.0 ∷ rest) = i.0 ∙ ap (members_in t) begins in
    let count = c.members_at-before.ensures in
    let below = c.if-before-offset.false in
    let past = c.if-before-offset-2.true in
    let before : c.loop-owner.before - c.members_at-before.result ≡ members_in t rest = omega (arith, here, count) in
    ap (λ m. Some (owner.0, c.args.offset - m)) before
    ∙ sym (i.1 ∙ ap (λ cs. place_along t (layout_along t cs) c.args.offset) begins ∙ layout-own t owner.0 rest c.args.offset (omega (arith, before, past)) (omega (arith, here, below)))

pub loop-owner-preserved : goal.loop-owner-preserved
loop-owner-preserved c =
    let t = classes_of c.args.classes.now in
    let line = c.args.line.now in
    let n = c.loop-owner.owner-index in
    let owner = slice_index_or line n (record { 0 = 0 }) in
    let rest = numbers (drop (n + 1) line) in
    let begins = rest-begins line n (record { 0 = 0 }) c.loop-owner-test.true in
    let i = c.loop-owner.invariant in
    let here : c.loop-owner.before ≡ members_in t (owner.0 ∷ rest) = i.0 ∙ ap (members_in t) begins in
    let count = c.members_at-before.ensures in
    let below = c.if-before-offset-2.false in
    let before : c.loop-owner.before - c.members_at-before.result ≡ members_in t rest = omega (arith, here, count) in
    (before, i.1 ∙ ap (λ cs. place_along t (layout_along t cs) c.args.offset) begins ∙ layout-below t owner.0 rest c.args.offset (omega (arith, before, below)))

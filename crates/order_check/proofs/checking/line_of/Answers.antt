use Rattle.order_check.proofs.Lemmas.{ℕ, length, map, Some, sym, ap, ◌∙◌, Vec, length-map, all_some, all_some-at, all_some-some, rows, cycle_of, lists_of, orders, order_in, known_in, found_pairs, read-all, read-without, known-apart, all-in, all-known, first_without-same, all_some-length, cycle-line}
use Rattle.std.proofs.Common.{◌≡◌}
use Rattle.order_check.proofs.checking.line_of.Goals as goal

pub returns-in-Some-clause-line : goal.returns-in-Some-clause-line
returns-in-Some-clause-line c =
    sym (all-in c.args.entries.now (orders c.args.known.now) c.requires.known c.args.entry.now.key)
    ∙ c.in-Some.ensures.some
    ∙ ap Some (sym c.in_ok-from_slice.ensures.items)

pub returns-in-Without-clause-line : goal.returns-in-Without-clause-line
returns-in-Without-clause-line c =
    let h = c.args.entries.now in
    let f = known_in h (orders c.args.known.now) in
    let bs = c.args.entry.now.bases.items in
    sym (first_without-same f (order_in h) (all-in h (orders c.args.known.now) c.requires.known) bs)
    ∙ read-without f bs c.deref.result.now c.in_ok-base.field-0 c.deref.ensures.value c.in_ok-base.ensures c.in-Without.base c.in-Without.is

pub cycle_pairs-requires : goal.cycle_pairs-requires
cycle_pairs-requires c =
    let f = known_in c.args.entries.now (orders c.args.known.now) in
    let bs = c.args.entry.now.bases.items in
    let all = read-all f bs c.deref.result.now c.in_ok-base.field-0 c.deref.ensures.value c.in_ok-base.ensures c.in-All.lines c.in-All.is in
    sym (length-map c.in-All.lines.items (λ (v : Vec ℕ). v.items))
    ∙ all_some-length (map f bs) (rows c.in-All.lines.items) all
    ∙ length-map bs f
    ∙ ap length (sym c.deref-in-All.ensures.value)

pub returns-in_ok-cycle_pairs-in-All-clause-line : goal.returns-in_ok-cycle_pairs-in-All-clause-line
returns-in_ok-cycle_pairs-in-All-clause-line c =
    let h = c.args.entries.now in
    let os = orders c.args.known.now in
    let f = known_in h os in
    let bs = c.args.entry.now.bases.items in
    let lines = rows c.in-All.lines.items in
    let all = read-all f bs c.deref.result.now c.in_ok-base.field-0 c.deref.ensures.value c.in_ok-base.ensures c.in-All.lines c.in-All.is in
    let known = all-known h os c.requires.known in
    let told = all_some-at f (order_in h) bs lines (λ b l i j q. sym (all-in h os c.requires.known b) ∙ q) all in
    let none = sym (all-in h os c.requires.known c.args.entry.now.key) ∙ c.in_default.ensures.none in
    let pairs = c.in_ok-cycle_pairs-in-All.field-0.items in
    let is = c.in_ok-cycle_pairs-in-All.ensures ∙ ap (λ ds. found_pairs ds (lists_of ds lines) (cycle_of (lists_of ds lines))) c.deref-in-All.ensures.value in
    cycle-line h c.args.entry.now c.requires.class lines told (known-apart h os known c.args.entry.now.key bs lines c.requires.class all) none pairs is

pub returns-in_ok-cycle_pairs-in-All-clause-found : goal.returns-in_ok-cycle_pairs-in-All-clause-found
returns-in_ok-cycle_pairs-in-All-clause-found c = λ lines e.
    let h = c.args.entries.now in
    let os = orders c.args.known.now in
    let f = known_in h os in
    let bs = c.args.entry.now.bases.items in
    let mine = rows c.in-All.lines.items in
    let all = read-all f bs c.deref.result.now c.in_ok-base.field-0 c.deref.ensures.value c.in_ok-base.ensures c.in-All.lines c.in-All.is in
    let told = all_some-at f (order_in h) bs mine (λ b l i j q. sym (all-in h os c.requires.known b) ∙ q) all in
    let other = ap all_some e ∙ all_some-some lines in
    let same : mine ≡ lines = cc (told, other) in
    c.in_ok-cycle_pairs-in-All.ensures
    ∙ ap (λ ds. found_pairs ds (lists_of ds mine) (cycle_of (lists_of ds mine))) c.deref-in-All.ensures.value
    ∙ ap (λ ls. found_pairs bs (lists_of bs ls) (cycle_of (lists_of bs ls))) same

use Rattle.order_check.proofs.Lemmas.{length, get_or, arith, false≢true, length-map, Entry, keys_of, before-none, before-more, before-at, taken, not-taken, taken-held}
use Rattle.std.proofs.Common.{◌<◌}
use Rattle.order_check.proofs.forms.are_before.Goals as goal

pub loop-base-init : goal.loop-base-init
loop-base-init c = before-none (keys_of c.args.entries.now) c.args.place

pub returns-in-None : goal.returns-in-None
returns-in-None c =
    let keys = keys_of c.args.entries.now in
    let bs = c.args.bases.now in
    let i = c.loop-base.base-index in
    (λ t. absurd (false≢true t), λ a. absurd (c.in-None.ensures (taken-held c.args.place keys (get_or bs i 0) (before-at keys c.args.place bs i c.loop-base-test.true a))))

pub returns-then-other-place : goal.returns-then-other-place
returns-then-other-place c =
    let keys = keys_of c.args.entries.now in
    let bs = c.args.bases.now in
    let i = c.loop-base.base-index in
    let size = length-map c.args.entries.now (λ (e : Entry). e.key) in
    let within : c.in-Some.other < length (keys_of c.args.entries.now) = omega (arith, size, c.in-Some.ensures.0) in
    (λ t. absurd (false≢true t), λ a. absurd (not-taken keys c.args.place c.in-Some.other (get_or bs i 0) c.requires c.if-other-place.true within c.in-Some.ensures.1 (before-at keys c.args.place bs i c.loop-base-test.true a)))

pub loop-base-preserved : goal.loop-base-preserved
loop-base-preserved c =
    let keys = keys_of c.args.entries.now in
    let bs = c.args.bases.now in
    let i = c.loop-base.base-index in
    let size = length-map c.args.entries.now (λ (e : Entry). e.key) in
    let within : c.in-Some.other < length (keys_of c.args.entries.now) = omega (arith, size, c.in-Some.ensures.0) in
    before-more keys c.args.place bs i c.loop-base-test.true c.loop-base.invariant (taken keys c.args.place c.in-Some.other (get_or bs i 0) c.if-other-place.false within c.in-Some.ensures.1)

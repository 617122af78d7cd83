use Rattle.order_check.proofs.Lemmas.{sym, ◌∙◌, All-pop, IsFound, keep-one}
use Rattle.order_check.proofs.levels.keep.Goals as goal

pub loop-one-preserved : goal.loop-one-preserved
loop-one-preserved c =
    let l = c.loop-one in
    record {
      count = l.invariant.count;
      known = l.invariant.known;
      found = (All-pop (IsFound c.args.entries.now) l.found.items c.pop.new.self.items c.pop.result c.pop.ensures.items l.invariant.found).0;
    }

pub loop-one-preserved-then-is_some : goal.loop-one-preserved-then-is_some
loop-one-preserved-then-is_some c =
    let l = c.loop-one in
    let kept = keep-one c.args.entries.now l.known.items l.found.items c.pop.new.self.items c.pop.result c.in-Some.one c.requires.keyed l.invariant.count l.invariant.known l.invariant.found c.pop.ensures.items c.in-Some.is (sym c.is_some.ensures ∙ c.if-is_some.true) in
    record { count = kept.0; known = kept.1; found = kept.2 }

pub loop-one-preserved-then-is_some-2 : goal.loop-one-preserved-then-is_some-2
loop-one-preserved-then-is_some-2 c =
    let l = c.loop-one in
    let kept = keep-one c.args.entries.now l.known.items l.found.items c.pop.new.self.items c.pop.result c.in-Some.one c.requires.keyed l.invariant.count l.invariant.known l.invariant.found c.pop.ensures.items c.in-Some.is (sym c.is_some.ensures ∙ c.if-is_some.true) in
    record { count = kept.0; known = kept.1; found = kept.2 }

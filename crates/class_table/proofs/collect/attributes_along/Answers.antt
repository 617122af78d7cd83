use Rattle.class_table.proofs.Lemmas.{[], sym, ap, ◌∙◌, nil_from_length, is_same_name, with_values, attrs_of, classes_of, numbers}
use Rattle.std.proofs.Common.{◌≡◌}
use Rattle.class_table.proofs.Collected.{along_from, from-nothing, along-step}
use Rattle.class_table.proofs.collect.attributes_along.Goals as goal

pub loop-class-init : goal.loop-class-init
loop-class-init c =
    let whole : c.into_iter-class-iterator.result.iter.rest.now ≡ c.args.line.now = search in
    ap (λ found. along_from is_same_name (classes_of c.args.classes.now) found (numbers c.into_iter-class-iterator.result.iter.rest.now)) c.new-found.ensures
    ∙ ap (λ line. along_from is_same_name (classes_of c.args.classes.now) [] (numbers line)) whole
    ∙ from-nothing is_same_name (classes_of c.args.classes.now) (numbers c.args.line.now)

pub loop-class-preserved-in-Continue-1 : goal.loop-class-preserved-in-Continue-1
loop-class-preserved-in-Continue-1 c =
    let attrs = c.attributes.ensures ∙ ap attrs_of c.in-Some-find.ensures.class in
    let found = c.in_ok-put_all.ensures ∙ ap (with_values is_same_name c.loop-class.found) attrs in
    along-step is_same_name (classes_of c.args.classes.now) c.loop-class.found c.put_all.new.found c.loop-class.class-iterator.iter.rest.now c.next.new.self.iter.rest.now c.in-Some.class.now c.in-Some.ensures.steps found
    ∙ c.loop-class.invariant

pub loop-class-preserved : goal.loop-class-preserved
loop-class-preserved c =
    let found = ap (λ k. with_values is_same_name c.loop-class.found (attrs_of k)) c.in_default.ensures.class in
    along-step is_same_name (classes_of c.args.classes.now) c.loop-class.found c.loop-class.found c.loop-class.class-iterator.iter.rest.now c.next.new.self.iter.rest.now c.in-Some.class.now c.in-Some.ensures.steps found
    ∙ c.loop-class.invariant

pub returns : goal.returns
returns c = sym (ap (λ line. along_from is_same_name (classes_of c.args.classes.now) c.loop-class.found (numbers line)) (nil_from_length c.loop-class.class-iterator.iter.rest.now c.in-None.ensures.steps.0)) ∙ c.loop-class.invariant

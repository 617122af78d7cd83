use Rattle.proto_call.proofs.Lemmas.{[], ap, ◌∙◌, with_value, is_text, next_node, AreNames, AreNodes, IsName, with_value-read, with_value-holds, the_tuple, filled, last-given}
use Rattle.proto_call.proofs.body.with_rest.Goals as goal

pub returns-clause-vars : goal.returns-clause-vars
returns-clause-vars c = λ t r.
    let vars = c.in_ok-vars.ensures.vars t ∙ ap (λ xs. filled [] xs c.args.args.now) (c.single-singles.ensures.names t) in
    let last = c.in_ok-last.ensures.spelled t (c.make_tuple.ensures.reads t r) in
    let tuple = c.in_ok-tuple.ensures.number t ∙ ap (λ u. next_node u the_tuple) (c.last_name.ensures.same t) in
    rw c.in_ok-insert.ensures.ok (with_value-read t c.in_ok-vars.vars c.in_ok-last.last c.in_ok-tuple.tuple ∙ (λ i. with_value is_text (vars i) (last i) (tuple i)))

pub returns-clause-holds : goal.returns-clause-holds
returns-clause-holds c =
    let w = c.make_tuple.new.world in
    let first = c.last_name.ensures.grows.still in
    let then = c.make_tuple.ensures.grows.still in
    let names = c.single-singles.ensures.holds w (then (AreNames c.args.params.now) (first (AreNames c.args.params.now) c.requires.params)) in
    let nodes = then (AreNodes c.args.args.now) (first (AreNodes c.args.args.now) c.requires.args) in
    rw c.in_ok-insert.ensures.ok (with_value-holds w c.in_ok-vars.vars c.in_ok-last.last c.in_ok-tuple.tuple (c.in_ok-vars.ensures.holds w names nodes) (then (IsName c.in_ok-last.last) c.in_ok-last.ensures.holds) c.in_ok-tuple.ensures.node)

pub returns-clause-last : goal.returns-clause-last
returns-clause-last c = rw c.in_ok-insert.ensures.ok (last-given c.args.params.now c.in_ok-vars.vars c.in_ok-last.last c.in_ok-tuple.tuple c.in_ok-last.ensures.last)

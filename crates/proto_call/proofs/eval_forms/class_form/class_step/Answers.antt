use Rattle.proto_call.proofs.Lemmas.{ap, map, ◌∙◌, bindings, spelled, class_say, class_within, class-said, take-nodes, drop-nodes, takes-same}
use Rattle.std.proofs.Common.{option_map}
use Rattle.proto_call.proofs.eval_forms.class_form.class_step.Goals as goal

pub class_within-requires-clause-bases : goal.class_within-requires-clause-bases
class_within-requires-clause-bases c = rw c.split_at.ensures.front (take-nodes c.args.world.now c.args.bases c.args.values.now c.requires.values)

pub class_within-requires-clause-keywords : goal.class_within-requires-clause-keywords
class_within-requires-clause-keywords c =
    let w = c.args.world.now in
    let held = rw c.in-Some.is at c.in_ok-unrepeated.ensures.holds in
    held w c.requires.keys (rw (c.split_at-2.ensures.front, c.split_at.ensures.back) (take-nodes w _ _ (drop-nodes w c.args.bases c.args.values.now c.requires.values)))

pub class_within-requires-clause-entries : goal.class_within-requires-clause-entries
class_within-requires-clause-entries c =
    let w = c.args.world.now in
    c.in_ok-entries-in-Some.ensures.holds w c.requires.names (rw (c.split_at-2.ensures.back, c.split_at.ensures.back) (drop-nodes w _ _ (drop-nodes w c.args.bases c.args.values.now c.requires.values)))

pub returns-in_ok-entries-in-Some-clause-goes : goal.returns-in_ok-entries-in-Some-clause-goes
returns-in_ok-entries-in-Some-clause-goes c =
    let w = c.args.world.now in
    let x = c.args.name in
    let n = c.args.bases in
    let keys = c.args.keys.now in
    let names = c.args.names.now in
    let vs = c.args.values.now in
    let bs = c.split_at.result.0.now in
    let given = c.split_at-2.result.0.now in
    let rest = c.split_at-2.result.1.now in
    let kw = c.in-Some.keywords in
    let es = c.in_ok-entries-in-Some.entries in
    let front = rw c.split_at.ensures.back at c.split_at-2.ensures.front in
    let back = rw c.split_at.ensures.back at c.split_at-2.ensures.back in
    takes-same (λ t u. class_within u (t.text x.0) bs (bindings t kw) (bindings t es)) (λ t u. class_say u (t.text x.0) n (map (spelled t) keys) (map (spelled t) names) vs) w c.class_within.new.world c.class_within.result
    (λ t. λ i u. class-said t u (t.text x.0) n keys names vs bs given rest (bindings t kw) (bindings t es) c.split_at.ensures.front front back (c.in_ok-unrepeated.ensures.keywords t ∙ ap (option_map (bindings t)) c.in-Some.is) (c.in_ok-entries-in-Some.ensures.vars t) i)
    c.class_within.ensures.goes

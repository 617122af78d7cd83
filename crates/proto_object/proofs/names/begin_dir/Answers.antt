use Rattle.proto_object.proofs.Lemmas.{[], ap, sym, ◌∙◌, bindings, plain, keyed, names_made, other_keys, sorted_ends, EndsAs, dir-ends, dir-said}
use Rattle.proto_object.proofs.names.begin_dir.Goals as goal

pub returns-clause-goes : goal.returns-clause-goes
returns-clause-goes c =
    let a = c.args in
    let w = a.world.now in
    let attrs = c.in_ok-attrs.attrs in
    let others = c.deref-2.result.now in
    let new = c.new_names.new.world in
    dir-ends w new a.o (λ t u. names_made others (keyed u [] (bindings t attrs))) c.in_ok-ended.ended (λ t r.
    let u = plain t w in
    dir-said u a.o c.class_of.result.0 (bindings t attrs) c.in_ok-keys.keys.items others (c.class_of.ensures.reads t) (c.in_ok-attrs.ensures.attrs t r) (c.in_ok-keys.ensures.keys t) (ap (other_keys u (bindings t attrs)) (sym c.deref.ensures.value) ∙ c.in_ok-others.ensures.others t r ∙ sym c.deref-2.ensures.value)) (sorted_ends c.new_names.result c.in_ok-ended.ended (EndsAs (λ t u. names_made others (keyed u [] (bindings t attrs))) w new) c.in_ok-ended.ensures c.new_names.ensures.ends)

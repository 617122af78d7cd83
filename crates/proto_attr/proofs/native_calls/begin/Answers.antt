use Rattle.proto_attr.proofs.Lemmas.{◌∙◌, sym, Binds, Wraps, does-begins, does-begins-ok}
use Rattle.proto_attr.proofs.native_calls.begin.Goals as goal

pub returns-in-Binds-clause-goes : goal.returns-in-Binds-clause-goes
returns-in-Binds-clause-goes c =
    let a = c.args in
    let goes = rw (c.deref.ensures.value, c.deref-2.ensures.value) at c.binds.ensures.goes in
    does-begins-ok a.entry a.args.items a.kw.items (Binds c.in-Binds.kind) a.world.now c.binds.new.world c.binds.result (sym c.way_of.ensures ∙ c.in-Binds.is) goes

pub returns-in-Wraps-clause-goes : goal.returns-in-Wraps-clause-goes
returns-in-Wraps-clause-goes c =
    let a = c.args in
    let goes = rw (c.deref.ensures.value, c.deref-2.ensures.value) at c.ask_for_doc.ensures.goes in
    does-begins a.entry a.args.items a.kw.items (Wraps c.in-Wraps.wrapper) a.world.now a.world.now c.ask_for_doc.result (sym c.way_of.ensures ∙ c.in-Wraps.is) goes

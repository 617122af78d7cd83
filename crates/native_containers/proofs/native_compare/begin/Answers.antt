use Rattle.native_containers.proofs.Lemmas.{◌∙◌, ap, Compare, bindings, dicts_by, sequences_by, compare_native_say, begins-ok}
use Rattle.std.proofs.Common.{◌≡◌}
use Rattle.py_node.specs.declared.built_in.BuiltIn.TheVariants as built_in
use Rattle.row_kit.specs.declared.take_containers.Kind.TheVariants as kind
use Rattle.native_containers.proofs.native_compare.begin.Goals as goal

pub returns-in-Compare-Tuple-default-clause-goes : goal.returns-in-Compare-Tuple-default-clause-goes
returns-in-Compare-Tuple-default-clause-goes c =
    let a = c.args in
    let i = c.in-Compare-Tuple-default in
    let class = rw i.is at i.field-0-is in
    let is : a.entry ≡ Compare built_in.Tuple i.native = i.is ∙ ap (λ b. Compare b i.native) class in
    let goes = rw (c.deref.ensures.value, c.deref-2.ensures.value) at c.sequences.ensures.goes in
    begins-ok a.entry i.native a.args a.kw (λ t u. sequences_by kind.Tuple u i.native a.args.items (bindings t a.kw.items)) a.world.now c.sequences.result (λ t u. ap (λ e. compare_native_say u e a.args.items (bindings t a.kw.items)) is) goes

pub returns-in-Compare-List-default-clause-goes : goal.returns-in-Compare-List-default-clause-goes
returns-in-Compare-List-default-clause-goes c =
    let a = c.args in
    let i = c.in-Compare-List-default in
    let class = rw i.is at i.field-0-is in
    let is : a.entry ≡ Compare built_in.List i.native = i.is ∙ ap (λ b. Compare b i.native) class in
    let goes = rw (c.deref.ensures.value, c.deref-2.ensures.value) at c.sequences-in-Compare-List-default.ensures.goes in
    begins-ok a.entry i.native a.args a.kw (λ t u. sequences_by kind.List u i.native a.args.items (bindings t a.kw.items)) a.world.now c.sequences-in-Compare-List-default.result (λ t u. ap (λ e. compare_native_say u e a.args.items (bindings t a.kw.items)) is) goes

pub returns-in-Compare-Dict-default-clause-goes : goal.returns-in-Compare-Dict-default-clause-goes
returns-in-Compare-Dict-default-clause-goes c =
    let a = c.args in
    let i = c.in-Compare-Dict-default in
    let class = rw i.is at i.field-0-is in
    let is : a.entry ≡ Compare built_in.Dict i.native = i.is ∙ ap (λ b. Compare b i.native) class in
    let goes = rw (c.deref.ensures.value, c.deref-2.ensures.value) at c.dicts.ensures.goes in
    begins-ok a.entry i.native a.args a.kw (λ t u. dicts_by u i.native a.args.items (bindings t a.kw.items)) a.world.now c.dicts.result (λ t u. ap (λ e. compare_native_say u e a.args.items (bindings t a.kw.items)) is) goes

use Rattle.native_containers.proofs.Lemmas.{IfOk, sym, subst, NewOf, Starts}
use Rattle.std.proofs.Common.{◌≡◌}
use Rattle.py_node.specs.declared.built_in.BuiltIn.TheVariants as built_in
use Rattle.native_containers.proofs.native_conversions.begin.Goals as goal

pub returns-in-NewOf-Int-clause-goes : goal.returns-in-NewOf-Int-clause-goes
returns-in-NewOf-Int-clause-goes c =
    let a = c.args in
    let i = c.in-NewOf-Int in
    let class = rw i.is at i.field-0-is in
    let is : a.entry ≡ NewOf built_in.Int = rw class at i.is in
    let goes = rw (c.deref.ensures.value, c.deref-2.ensures.value) at c.begin_int.ensures.goes in
    subst (λ n. IfOk c.begin_int.result (λ step. Starts n a.args.items a.kw.items a.world.now c.begin_int.new.world step)) (sym is) goes

pub returns-in-NewOf-Str-clause-goes : goal.returns-in-NewOf-Str-clause-goes
returns-in-NewOf-Str-clause-goes c =
    let a = c.args in
    let i = c.in-NewOf-Str in
    let class = rw i.is at i.field-0-is in
    let is : a.entry ≡ NewOf built_in.Str = rw class at i.is in
    let goes = rw (c.deref.ensures.value, c.deref-2.ensures.value) at c.begin_str.ensures.goes in
    subst (λ n. IfOk c.begin_str.result (λ step. Starts n a.args.items a.kw.items a.world.now c.begin_str.new.world step)) (sym is) goes

pub returns-in-NewOf-Tuple-clause-goes : goal.returns-in-NewOf-Tuple-clause-goes
returns-in-NewOf-Tuple-clause-goes c =
    let a = c.args in
    let i = c.in-NewOf-Tuple in
    let class = rw i.is at i.field-0-is in
    let is : a.entry ≡ NewOf built_in.Tuple = rw class at i.is in
    let goes = rw (c.deref.ensures.value, c.deref-2.ensures.value) at c.begin_tuple.ensures.goes in
    subst (λ n. IfOk c.begin_tuple.result (λ step. Starts n a.args.items a.kw.items a.world.now c.begin_tuple.new.world step)) (sym is) goes

pub returns-in-NewOf-Bool-clause-goes : goal.returns-in-NewOf-Bool-clause-goes
returns-in-NewOf-Bool-clause-goes c =
    let a = c.args in
    let i = c.in-NewOf-Bool in
    let class = rw i.is at i.field-0-is in
    let is : a.entry ≡ NewOf built_in.Bool = rw class at i.is in
    let goes = rw (c.deref.ensures.value, c.deref-2.ensures.value) at c.begin_bool.ensures.goes in
    subst (λ n. Starts n a.args.items a.kw.items a.world.now a.world.now c.begin_bool.result) (sym is) goes

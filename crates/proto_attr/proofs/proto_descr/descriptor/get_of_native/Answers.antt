use Rattle.py_node.specs.declared.task.DescriptorTask.TheVariants as descriptor
use Rattle.proto_attr.proofs.Lemmas.{PlainWorld, datum_at, Reading, plain, native_get, described, closes-starts, sorted_ends}
use Rattle.proto_attr.proofs.proto_descr.descriptor.get_of_native.Goals as goal

pub returns-clause-goes : goal.returns-clause-goes
returns-clause-goes c =
    let a = c.args in
    let native = c.descriptor_of-native in
    let said = λ (t : Reading). λ (u : PlainWorld). native_get u (datum_at u a.m) a.m a.o a.class in
    let other = λ (t : Reading). λ (u : PlainWorld). native_get u (described t native.result) a.m a.o a.class in
    closes-starts (descriptor.DescrGet a.m a.o a.class) said other a.world.now c.native_get.new.world c.in_ok-ended.ended
    (λ t r. native.ensures.reads t (plain t a.world.now) a.o a.class)
    (sorted_ends c.native_get.result c.in_ok-ended.ended _ c.in_ok-ended.ensures c.native_get.ensures.goes)

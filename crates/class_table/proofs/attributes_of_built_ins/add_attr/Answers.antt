use Rattle.class_table.proofs.Lemmas.{true, sym, subst, is_class, built_ins, place-first, own-set}
use Rattle.std.proofs.Common.{◌≡◌, ◌<◌}
use Rattle.class_table.proofs.attributes_of_built_ins.add_attr.Goals as goal

pub put_attr-requires-clause-there : goal.put_attr-requires-clause-there
put_attr-requires-clause-there c = subst (λ n. is_class c.args.table.now n ≡ true) (sym c.class.ensures) (c.requires.there c.args.class)

pub put_attr-requires-clause-first : goal.put_attr-requires-clause-first
put_attr-requires-clause-first c = subst (λ n. n < built_ins) (sym c.class.ensures) (place-first c.args.class)

pub returns : goal.returns
returns c =
    own-set c.args.class (c.args.table.now, c.args.next) c.args.attr c.put_attr.new.self c.past.result c.class.result.0 c.interned.result c.value_of-value.result c.in_ok-put_attr.ensures.set c.class.ensures c.interned.ensures c.value_of-value.ensures c.past.ensures

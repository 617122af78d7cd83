use Rattle.world_text.proofs.Lemmas.{table_keys, numbers, lin-classes, class-written}
use Rattle.world_text.proofs.class_lines.push_class.Goals as goal

pub push_names-requires : goal.push_names-requires
push_names-requires c = λ x h. lin-classes c.args.classes.now c.args.class.0 (numbers c.mro.result.now) x c.mro.ensures.line h

pub returns : goal.returns
returns c =
    class-written table_keys c.args.classes.now c.args.class.0 _ _ _ _ _ c.name-name.ensures.short c.mro.ensures.line c.in_ok-push_names.ensures c.in_ok-push_slots.ensures

use Rattle.class_table.proofs.Lemmas.{value_of, is_called, added-asked}
use Rattle.class_table.proofs.probe.add_own.Goals as goal

pub returns-else-len-lt-SPECIAL_NAMES-clause-added :
    goal.returns-else-len-lt-SPECIAL_NAMES-clause-added
returns-else-len-lt-SPECIAL_NAMES-clause-added g c =
    let first = c.ask_some.ensures in
    let second = c.ask_some-else-len-lt-SPECIAL_NAMES.ensures in
    added-asked (λ n. value_of (is_called n) c.args.attrs.now) c.args.values.now c.ask_some.new.values c.ask_some-else-len-lt-SPECIAL_NAMES.new.values second.count first.asked first.others second.asked second.others

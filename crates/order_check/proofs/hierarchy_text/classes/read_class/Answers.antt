use Rattle.order_check.proofs.Lemmas.{Some, Err, string_bytes, arith, view, items_view, Shape, or_first, texts, base_keys, class-new, class-old, class-without}
use Rattle.std.proofs.Common.{◌≡◌, option_map}
use Rattle.order_check.proofs.hierarchy_text.classes.read_class.Goals as goal

pub returns-in_err-bases-clause-shape : goal.returns-in_err-bases-clause-shape
returns-in_err-bases-clause-shape c h =
    let told : c.read_bases.result ≡ Err Shape = grind (arith, c.in_err-bases.was) in
    class-without (texts c.args.names.now.keys) (view c.args.item.now) c.in_ok-name.name.now (items_view c.in_ok-name.items.now) c.in_ok-name.ensures.ok (c.read_bases.ensures.shape told)

pub returns-in_err-key-clause-shape : goal.returns-in_err-key-clause-shape
returns-in_err-key-clause-shape c h =
    let told : c.new_key.result ≡ Err Shape = grind (arith, c.in_err-key.was) in
    class-old (texts c.args.names.now.keys) (view c.args.item.now) c.in_ok-name.name.now (items_view c.in_ok-name.items.now) c.in_ok-name.ensures.ok (c.new_key.ensures.shape told)

pub returns-clause-ok : goal.returns-clause-ok
returns-clause-ok c =
    let names = texts c.args.names.now.keys in
    let same : string_bytes c.in_ok-name-2.name ≡ c.in_ok-name.name.now = c.in_ok-name-2.ensures.ok in
    let bases : option_map or_first (base_keys names (items_view c.in_ok-name.items.now)) ≡ Some c.in_ok-bases.bases.items = c.in_ok-bases.ensures.ok in
    class-new names (view c.args.item.now) c.in_ok-name.name.now (items_view c.in_ok-name.items.now) c.in_ok-name.ensures.ok c.in_ok-key.key (string_bytes c.in_ok-name-2.name) c.in_ok-bases.bases.items c.in_ok-key.ensures.key same c.in_ok-key.ensures.is_new bases

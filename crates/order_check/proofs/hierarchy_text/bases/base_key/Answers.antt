use Rattle.order_check.proofs.Lemmas.{Some, None, Err, position, arith, bytes_eq, as_str, view, if-err, base_key-is}
use Rattle.std.proofs.Common.{◌≡◌}
use Rattle.order_check.proofs.hierarchy_text.bases.base_key.Goals as goal

pub returns-in_err-key-clause-shape : goal.returns-in_err-key-clause-shape
returns-in_err-key-clause-shape c =
    let names = c.args.names.now.keys in
    let name = c.in_ok-name.name.now in
    let is : as_str (view c.args.item.now) ≡ Some name = grind arith in
    let told : c.ok_or-2.result ≡ Err c.in_err-key.field-0.0 = c.in_err-key.was in
    let found : None ≡ position (λ n. bytes_eq name n.now) names = grind (arith, c.ok_or-2.ensures.value, told, c.get_index_of.ensures.index) in
    if-err _ (base_key-is names name (view c.args.item.now) None is found)

pub returns-clause-ok : goal.returns-clause-ok
returns-clause-ok c =
    let is : as_str (view c.args.item.now) ≡ Some c.in_ok-name.name.now = grind arith in
    let found : Some c.in_ok-key.key ≡ position (λ n. bytes_eq c.in_ok-name.name.now n.now) c.args.names.now.keys = grind arith in
    base_key-is c.args.names.now.keys c.in_ok-name.name.now (view c.args.item.now) (Some c.in_ok-key.key) is found

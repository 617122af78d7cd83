use Rattle.proto_ops.proofs.Lemmas.{to_z-of_z, total-is}
use Rattle.proto_ops.proofs.int.total.Goals as goal

pub returns : goal.returns
returns c =
    let f = c.ranges.x in
    let g = c.ranges.y in
    let h = simp to_z-of_z at c.checked_add.ensures in
    total-is c.args.x c.args.y c.checked_add.result h

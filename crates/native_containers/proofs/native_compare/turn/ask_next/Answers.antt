use Rattle.native_containers.proofs.Lemmas.{length, refl, arith, ComparedKept, asks-none, asks-two, left-here, none-first, none-second}
use Rattle.std.proofs.Common.{◌<◌, ◌≤◌, ◌+◌}
use Rattle.native_containers.proofs.native_compare.turn.ask_next.Goals as goal
use Rattle.native_containers.proofs.native_compare.turn.ask_next.Goals.{else-next-len-via-then-next-len+else-next-len-2, else-next-len-via-else-next-len}

pub returns-then-next-len-2-clause-goes : goal.returns-then-next-len-2-clause-goes
returns-then-next-len-2-clause-goes c =
    let k = c.args.kept in
    let later : ComparedKept = record { way = k.way; last = k.last; first = k.first; second = k.second; next = k.next + 1 } in
    let x = c.index.result.now in
    let y = c.index-then-next-len-2.result.now in
    let h = c.len.ensures in
    let g = c.len-then-next-len.ensures in
    let a : k.next < length k.first.items = omega (arith, h) in
    let b : k.next < length k.second.items = omega (arith, g) in
    let here = left-here k later x y a b refl refl refl c.index.ensures c.index-then-next-len-2.ensures in
    asks-two k later c.args.world.now x y c.asked.result here refl refl c.asked.ensures

pub returns-else-next-len-clause-goes : goal.returns-else-next-len-clause-goes
returns-else-next-len-clause-goes c =
    let k = c.args.kept in
    let h = c.len.ensures in
    elim c.else-next-len.branch [
      | else-next-len-via-then-next-len+else-next-len-2 w ↦
          let g = w.len-then-next-len.ensures in
          let q = w.if-next-len-2.false in
          let l : length k.second.items ≤ k.next = omega (arith, g, q) in
          asks-none k c.args.world.now c.truth.result (none-second k l) c.truth.ensures.object
      | else-next-len-via-else-next-len w ↦
          let q = w.if-next-len.false in
          let l : length k.first.items ≤ k.next = omega (arith, h, q) in
          asks-none k c.args.world.now c.truth.result (none-first k l) c.truth.ensures.object
    ]

use Rattle.native_containers.proofs.Lemmas.{◌∙◌, length, refl, sym, ap, arith, ComparedKept, turns_of, compares-turns}
use Rattle.std.proofs.Common.{◌≡◌}
use Rattle.native_containers.proofs.native_compare.turn.compare.Goals as goal

pub returns-in-Each-clause-goes : goal.returns-in-Each-clause-goes
returns-in-Each-clause-goes c =
    let a = c.args in
    let k : ComparedKept = record { way = c.in-Each.way; last = c.in-Each.last; first = a.first; second = a.second; next = 0 } in
    let h = c.len.ensures in
    let g = c.len-2.ensures in
    let first : length a.first.items ≡ c.len.result = omega (arith, h) in
    let second : length a.second.items ≡ c.len-2.result = omega (arith, g) in
    let is = ap (λ n. turns_of a.native n (length a.second.items)) first ∙ ap (λ m. turns_of a.native c.len.result m) second ∙ sym c.turns_of.ensures ∙ c.in-Each.is in
    compares-turns a.native k a.world.now c.ask_next.result is refl c.ask_next.ensures.goes

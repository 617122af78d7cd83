use Rattle.order_check.proofs.Lemmas.{false, cond, ℕ, List, length, get_or, drop, Some, sym, ap, ◌∙◌, arith, Vec, drop_more, rows, is_before, list_with}
use Rattle.std.proofs.Common.{◌≡◌, ◌+◌, ◌<◌, ◌∷◌}
use Rattle.order_check.proofs.checking.list_with.Goals as goal

-- a list that has no such pair is passed
passed : (x y : ℕ) (bs : List ℕ) (ls : List (Vec ℕ)) (i : ℕ) (v : Vec ℕ) → i < length bs → i < length ls → v ≡ get_or ls i v → is_before x y v.items ≡ false → list_with x y (drop (i + 1) bs) (rows (drop (i + 1) ls)) ≡ list_with x y (drop i bs) (rows (drop i ls))
passed x y bs ls i v l m is n =
    sym (ap (λ w. list_with x y w (rows (drop i ls))) (drop_more bs i 0 l)
    ∙ ap (λ w. list_with x y (get_or bs i 0 ∷ drop (i + 1) bs) (rows w)) (drop_more ls i v m)
    ∙ ap (λ (w : Vec ℕ). cond (is_before x y w.items) (Some (get_or bs i 0)) (list_with x y (drop (i + 1) bs) (rows (drop (i + 1) ls)))) (sym is)
    ∙ ap (λ b. cond b (Some (get_or bs i 0)) (list_with x y (drop (i + 1) bs) (rows (drop (i + 1) ls)))) n)

pub loop-place-preserved : goal.loop-place-preserved
loop-place-preserved c =
    let within : c.loop-place.place < length c.args.lists.now = omega arith in
    let none = ap (is_before c.args.first c.args.second) (sym c.deref.ensures.value) ∙ sym c.is_before.ensures ∙ c.if-is_before.false in
    passed c.args.first c.args.second c.args.bases.now c.args.lists.now c.loop-place.place c.index-lists-place.result c.loop-place-test.true within c.index-lists-place.is none
    ∙ c.loop-place.invariant

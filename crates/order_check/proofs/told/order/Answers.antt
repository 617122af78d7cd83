use Rattle.order_check.proofs.Lemmas.{ℕ, zero, suc, List, length, get_or, Option, Some, None, sym, ap, subst, ◌∙◌, arith, IfSome, IfNone, Entry, keys_of, AreKeyed, known_in, order_told, orders_told, known-at, known-none}
use Rattle.std.proofs.Common.{◌≡◌, ◌-◌, ◌<◌, ◌∷◌}
use Rattle.std.specs.Prelude.{map}
use Rattle.order_check.proofs.told.order.Goals as goal

told-at : (h : List Entry) (os : List (Option (List ℕ))) (key place : ℕ) → AreKeyed h → place < length h → get_or (keys_of h) place 0 ≡ key → known_in h os key ≡ get_or os place None
told-at h os key place d l k = ap (known_in h os) (sym k) ∙ known-at h os place d l

later-at : (o : Option (List ℕ)) (os : List (Option (List ℕ))) (i : ℕ) → (i ≡ 0 → ⊥) → get_or (o ∷ os) i None ≡ get_or os (i - 1) None
later-at o os zero n = absurd (n (let e : zero ≡ 0 = omega arith in e))
later-at o os (suc i) n = let e : i ≡ suc i - 1 = omega arith in ap (λ k. get_or os k None) e

pub returns-in-None-clause-none : goal.returns-in-None-clause-none
returns-in-None-clause-none c =
    known-none c.args.told.entries.now (orders_told c.args.told.root.now c.args.told.lines.now) c.args.key c.in-None.ensures

pub returns-in-Some-eq0-clause-some : goal.returns-in-Some-eq0-clause-some
returns-in-Some-eq0-clause-some c =
    let os = orders_told c.args.told.root.now c.args.told.lines.now in
    let zeroth : c.in-Some-eq0.field-0 ≡ 0 = omega arith in
    told-at c.args.told.entries.now os c.args.key c.in-Some-eq0.field-0 c.requires c.in-Some-eq0.ensures.0 c.in-Some-eq0.ensures.1
    ∙ ap (λ i. get_or os i None) zeroth

pub returns-in-Some-clause-some : goal.returns-in-Some-clause-some
returns-in-Some-clause-some c =
    let os = orders_told c.args.told.root.now c.args.told.lines.now in
    let later : c.in-Some.place ≡ 0 → ⊥ = λ e. omega arith in
    let e = told-at c.args.told.entries.now os c.args.key c.in-Some.place c.requires c.in-Some.ensures.0 c.in-Some.ensures.1 ∙ later-at (Some c.args.told.root.now) (map order_told c.args.told.lines.now) c.in-Some.place later in
    let P : Option (List ℕ) → Type 0 = λ w. IfSome c.order_at.result (λ order. w ≡ Some order.now) in
    subst P (sym e) c.order_at.ensures.some

pub returns-in-Some-clause-none : goal.returns-in-Some-clause-none
returns-in-Some-clause-none c =
    let os = orders_told c.args.told.root.now c.args.told.lines.now in
    let later : c.in-Some.place ≡ 0 → ⊥ = λ e. omega arith in
    let e = told-at c.args.told.entries.now os c.args.key c.in-Some.place c.requires c.in-Some.ensures.0 c.in-Some.ensures.1 ∙ later-at (Some c.args.told.root.now) (map order_told c.args.told.lines.now) c.in-Some.place later in
    let P : Option (List ℕ) → Type 0 = λ w. IfNone c.order_at.result (w ≡ None) in
    subst P (sym e) c.order_at.ensures.none

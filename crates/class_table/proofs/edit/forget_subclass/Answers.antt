use Rattle.class_table.proofs.Lemmas.{ℕ, zero, suc, List, [], length, get_or, set, refl, ap, ◌∙◌, arith, StoredClass, class_of, classes_of}
use Rattle.std.proofs.Common.{◌≡◌, ◌<◌, ◌∷◌}
use Rattle.class_table.proofs.edit.forget_subclass.Goals as goal

plain-set : (ks : List StoredClass) (at : ℕ) (x y : StoredClass) → at < length ks → x ≡ get_or ks at x → class_of y ≡ class_of x → classes_of (set ks at y) ≡ classes_of ks
plain-set [] at x y l h e = refl
plain-set (k ∷ ks) zero x y l h e = ap (λ z. z ∷ classes_of ks) (e ∙ ap class_of h)
plain-set (k ∷ ks) (suc at) x y l h e = ap (λ t. class_of k ∷ t) (plain-set ks at x y (omega (arith, l)) h e)

pub returns-clause-plain : goal.returns-clause-plain
returns-clause-plain c =
    plain-set c.args.classes.now.items c.args.at c.index_mut.result.now c.forget_subclass.new.self c.requires c.index_mut.ensures.value c.forget_subclass.ensures.plain

use Rattle.class_table.proofs.Lemmas.{ℕ, List, get_or, set, sym, ap, subst, ◌∙◌, get_or_default, with_value, is_same_name, with_class_attr, StoredClass, classes_of, HasLines, AreNear, IsRefreshed, element, number-within, read-number, setting, lines-changed, near-changed, plain-final, coherent-final}
use Rattle.std.proofs.Common.{◌≡◌}
use Rattle.class_table.proofs.put.put.Goals as goal

pub set_attr-requires : goal.set_attr-requires
set_attr-requires c = number-within c.args.classes.now c.place-at.result c.args.class.0 c.place-at.ensures

pub refresh-requires : goal.refresh-requires
refresh-requires c =
    let kept = c.args.classes.now in
    let at = c.place-at.result in
    let within = number-within kept at c.args.class.0 c.place-at.ensures in
    let k = get_or kept at (element kept at within) in
    let held : k ≡ get_or kept at k = get_or_default kept at (element kept at within) k within in
    let num : k.number ≡ c.args.class.0 = read-number kept at c.args.class.0 k c.place-at.ensures held in
    let is : c.set_attr.new.self ≡ set kept at (record k { attrs = with_value is_same_name k.attrs c.args.name c.args.value }) = c.in_ok-set_attr.ensures.ok (element kept at within) in
    let P : List StoredClass → Type 0 = λ ys. HasLines ys in
    let Q : List StoredClass → Type 0 = λ ys. AreNear c.args.name c.args.class.0 ys in
    let R : ℕ → Type 0 = λ n. AreNear c.args.name n (set kept at (record k { attrs = with_value is_same_name k.attrs c.args.name c.args.value })) in
    record {
      lines = subst P (sym is) (lines-changed kept c.requires.coherent at k within held c.args.name (λ attrs. with_value is_same_name attrs c.args.name c.args.value) (setting c.args.name c.args.value));
      near = subst Q (sym is) (subst R num (near-changed kept c.requires.coherent at k within held c.args.name (λ attrs. with_value is_same_name attrs c.args.name c.args.value) (setting c.args.name c.args.value)));
    }

pub returns-clause-coherent : goal.returns-clause-coherent
returns-clause-coherent c =
    let kept = c.args.classes.now in
    let at = c.place-at.result in
    let within = number-within kept at c.args.class.0 c.place-at.ensures in
    let k = get_or kept at (element kept at within) in
    let held : k ≡ get_or kept at k = get_or_default kept at (element kept at within) k within in
    let num : k.number ≡ c.args.class.0 = read-number kept at c.args.class.0 k c.place-at.ensures held in
    let P : List StoredClass → Type 0 = λ ys. IsRefreshed k.number ys c.refresh.new.classes in
    let R : ℕ → Type 0 = λ n. IsRefreshed n c.set_attr.new.self c.refresh.new.classes in
    let done = subst P (c.in_ok-set_attr.ensures.ok (element kept at within)) (subst R (sym num) c.refresh.ensures) in
    coherent-final kept c.requires.coherent at k within held c.args.name (λ attrs. with_value is_same_name attrs c.args.name c.args.value) (setting c.args.name c.args.value) c.refresh.new.classes done

pub returns-clause-ok : goal.returns-clause-ok
returns-clause-ok c =
    let kept = c.args.classes.now in
    let at = c.place-at.result in
    let within = number-within kept at c.args.class.0 c.place-at.ensures in
    let k = get_or kept at (element kept at within) in
    let held : k ≡ get_or kept at k = get_or_default kept at (element kept at within) k within in
    let num : k.number ≡ c.args.class.0 = read-number kept at c.args.class.0 k c.place-at.ensures held in
    let P : List StoredClass → Type 0 = λ ys. IsRefreshed k.number ys c.refresh.new.classes in
    let R : ℕ → Type 0 = λ n. IsRefreshed n c.set_attr.new.self c.refresh.new.classes in
    let done = subst P (c.in_ok-set_attr.ensures.ok (element kept at within)) (subst R (sym num) c.refresh.ensures) in
    plain-final kept c.requires.coherent at k within held c.args.name (λ attrs. with_value is_same_name attrs c.args.name c.args.value) (setting c.args.name c.args.value) c.refresh.new.classes done
    ∙ ap (λ (n : ℕ). with_class_attr is_same_name (classes_of kept) n c.args.name c.args.value) num

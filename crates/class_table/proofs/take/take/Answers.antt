use Rattle.class_table.proofs.Lemmas.{ℕ, Bool, true, false, List, Option, Some, get_or, set, sym, ap, subst, ◌∙◌, get_or_default, is_some, PyStrInterned, value_of, without_key, is_same_name, Class, class_at, own_of, is_ascending, without_class_attr, StoredClass, number_at, classes_of, HasLines, IsCoherent, AreNear, IsRefreshed, element, number-within, read-number, read-class, taking, lines-changed, near-changed, plain-changed, plain-final, coherent-final, untaken}
use Rattle.std.proofs.Common.{◌≡◌}
use Rattle.class_table.proofs.take.take.Goals as goal

pub refresh-requires : goal.refresh-requires
refresh-requires c =
    let kept = c.args.classes.now in
    let at = c.place-at.result in
    let within = number-within kept at c.args.class.0 c.place-at.ensures in
    let k = get_or kept at (element kept at within) in
    let held : k ≡ get_or kept at k = get_or_default kept at (element kept at within) k within in
    let num : k.number ≡ c.args.class.0 = read-number kept at c.args.class.0 k c.place-at.ensures held in
    let is = c.remove_attr-there.ensures.left (element kept at within) in
    let P : List StoredClass → Type 0 = λ ys. HasLines ys in
    let Q : List StoredClass → Type 0 = λ ys. AreNear c.args.name c.args.class.0 ys in
    let R : ℕ → Type 0 = λ n. AreNear c.args.name n (set kept at (record k { attrs = without_key is_same_name k.attrs c.args.name })) in
    record {
      lines = subst P (sym is) (lines-changed kept c.requires.coherent at k within held c.args.name (λ attrs. without_key is_same_name attrs c.args.name) (taking c.args.name));
      near = subst Q (sym is) (subst R num (near-changed kept c.requires.coherent at k within held c.args.name (λ attrs. without_key is_same_name attrs c.args.name) (taking c.args.name)));
    }

-- the slots were found anew in the classes after the change
done : (kept cur final : List StoredClass) (at class : ℕ) (k : StoredClass) (n : PyStrInterned) → k.number ≡ class → cur ≡ set kept at (record k { attrs = without_key is_same_name k.attrs n }) → IsRefreshed class cur final → IsRefreshed k.number (set kept at (record k { attrs = without_key is_same_name k.attrs n })) final
done kept cur final at class k n num is r =
    let P : List StoredClass → Type 0 = λ ys. IsRefreshed k.number ys final in
    let R : ℕ → Type 0 = λ m. IsRefreshed m cur final in
    subst P is (subst R (sym num) r)

-- whether the attribute was there
present : (kept : List StoredClass) (up : is_ascending (classes_of kept) ≡ true) (at class : ℕ) (k : StoredClass) (n : PyStrInterned) (b : Bool) → number_at kept at ≡ Some class → k ≡ get_or kept at k → b ≡ is_some (value_of (λ j. is_same_name j n) (get_or kept at k).attrs) → b ≡ is_some (own_of (λ j. is_same_name j n) (class_at (classes_of kept) class))
present kept up at class k n b of is e =
    e
    ∙ ap (λ (z : StoredClass). is_some (value_of (λ j. is_same_name j n) z.attrs)) (sym is)
    ∙ ap (λ (o : Option (Class PyStrInterned)). is_some (own_of (λ j. is_same_name j n) o)) (sym (read-class kept up at class k of is))

pub returns-then-there-clause-coherent : goal.returns-then-there-clause-coherent
returns-then-there-clause-coherent c =
    let kept = c.args.classes.now in
    let at = c.place-at.result in
    let within = number-within kept at c.args.class.0 c.place-at.ensures in
    let k = get_or kept at (element kept at within) in
    let held : k ≡ get_or kept at k = get_or_default kept at (element kept at within) k within in
    let n = c.args.name in
    let num : k.number ≡ c.args.class.0 = read-number kept at c.args.class.0 k c.place-at.ensures held in
    let is = c.remove_attr-there.ensures.left (element kept at within) in
    coherent-final kept c.requires.coherent at k within held n (λ attrs. without_key is_same_name attrs n) (taking n) c.refresh.new.classes (done kept c.remove_attr-there.new.self c.refresh.new.classes at c.args.class.0 k n num is c.refresh.ensures)

pub returns-then-there-clause-there : goal.returns-then-there-clause-there
returns-then-there-clause-there c =
    let kept = c.args.classes.now in
    let at = c.place-at.result in
    let within = number-within kept at c.args.class.0 c.place-at.ensures in
    let k = get_or kept at (element kept at within) in
    let held : k ≡ get_or kept at k = get_or_default kept at (element kept at within) k within in
    sym c.if-there.true ∙ present kept c.requires.coherent.sound.ascending at c.args.class.0 k c.args.name c.remove_attr-there.result c.place-at.ensures held (c.remove_attr-there.ensures.there k)

pub returns-then-there-clause-taken : goal.returns-then-there-clause-taken
returns-then-there-clause-taken c =
    let kept = c.args.classes.now in
    let at = c.place-at.result in
    let within = number-within kept at c.args.class.0 c.place-at.ensures in
    let k = get_or kept at (element kept at within) in
    let held : k ≡ get_or kept at k = get_or_default kept at (element kept at within) k within in
    let n = c.args.name in
    let num : k.number ≡ c.args.class.0 = read-number kept at c.args.class.0 k c.place-at.ensures held in
    let is = c.remove_attr-there.ensures.left (element kept at within) in
    plain-final kept c.requires.coherent at k within held n (λ attrs. without_key is_same_name attrs n) (taking n) c.refresh.new.classes (done kept c.remove_attr-there.new.self c.refresh.new.classes at c.args.class.0 k n num is c.refresh.ensures)
    ∙ ap (λ (m : ℕ). without_class_attr is_same_name (classes_of kept) m n) num

pub returns : goal.returns
returns c =
    let kept = c.args.classes.now in
    let at = c.place-at.result in
    let within = number-within kept at c.args.class.0 c.place-at.ensures in
    let k = get_or kept at (element kept at within) in
    let held : k ≡ get_or kept at k = get_or_default kept at (element kept at within) k within in
    let n = c.args.name in
    let num : k.number ≡ c.args.class.0 = read-number kept at c.args.class.0 k c.place-at.ensures held in
    let is = c.remove_attr-there.ensures.left (element kept at within) in
    let missing : is_some (value_of (λ j. is_same_name j n) k.attrs) ≡ false =
    ap (λ (z : StoredClass). is_some (value_of (λ j. is_same_name j n) z.attrs)) held ∙ sym (c.remove_attr-there.ensures.there k) ∙ c.if-there.false in
    let same = is ∙ untaken kept at k held n missing in
    let P : List StoredClass → Type 0 = λ ys. IsCoherent ys in
    record {
      coherent = subst P (sym same) c.requires.coherent;
      there = sym c.if-there.false ∙ present kept c.requires.coherent.sound.ascending at c.args.class.0 k n c.remove_attr-there.result c.place-at.ensures held (c.remove_attr-there.ensures.there k);
      taken =
          ap classes_of is
          ∙ plain-changed kept c.requires.coherent at k within held n (λ attrs. without_key is_same_name attrs n) (taking n)
          ∙ ap (λ (m : ℕ). without_class_attr is_same_name (classes_of kept) m n) num;
      absent = λ e. same;
    }

pub remove_attr-there-requires : goal.remove_attr-there-requires
remove_attr-there-requires c = number-within c.args.classes.now c.place-at.result c.args.class.0 c.place-at.ensures

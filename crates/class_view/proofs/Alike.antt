-- Lists that are compared place by place.
use Rattle.class_view.proofs.Below.{ℕ, List, map, length, take, drop, get_or, Some, slice_get, sym, ap, ◌∙◌, subst, arith, take-append-drop, take_all, take_more_same, length-map, get_or-map, get_or_from_slice_get, slice_get_within, ClassChange, Change, change_of, BeginsWith}
use Rattle.std.proofs.Common.{◌≡◌, ◌+◌, ◌<◌, ◌≤◌, ◌++◌}

-- one place further, of lists that are read by places
pub further : {A : Type 0} (a b : List A) (i : ℕ) (x : A) → slice_get a i ≡ Some x → slice_get b i ≡ Some x → take i a ≡ take i b → take (i + 1) a ≡ take (i + 1) b
further a b i x at-a at-b same =
    take_more_same a b i x (slice_get_within a i x at-a) (slice_get_within b i x at-b) same (get_or_from_slice_get a i x x at-a ∙ sym (get_or_from_slice_get b i x x at-b))

-- the same of two lists of changes
pub changes-further : (list part : List ClassChange) (i : ℕ) (x y : ClassChange) → i < length list → i < length part → x ≡ get_or list i x → y ≡ get_or part i y → change_of x ≡ change_of y
    → take i (map change_of list) ≡ take i (map change_of part) → take (i + 1) (map change_of list) ≡ take (i + 1) (map change_of part)
changes-further list part i x y in-list in-part x-is y-is alike same =
    let a : i < length (map change_of list) = subst (λ (n : ℕ). i < n) (sym (length-map list change_of)) in-list in
    let b : i < length (map change_of part) = subst (λ (n : ℕ). i < n) (sym (length-map part change_of)) in-part in
    take_more_same (map change_of list) (map change_of part) i (change_of x) a b same (
    get_or-map change_of list i x (change_of x) in-list ∙ ap change_of (sym x-is) ∙ alike ∙ ap change_of y-is ∙ sym (get_or-map change_of part i y (change_of x) in-part))

pub whole-part : (list part : List ClassChange) (n : ℕ) → n ≡ length part → take n (map change_of list) ≡ take n (map change_of part) → BeginsWith (map change_of part) (map change_of list)
whole-part list part n is same =
    let most : length (map change_of part) ≤ n = omega (arith, length-map part change_of, is) in
    let part-is : map change_of part ≡ take n (map change_of list) = sym (take_all n (map change_of part) most) ∙ sym same in
    (drop n (map change_of list), ap (λ (p : List Change). p ++ drop n (map change_of list)) part-is ∙ take-append-drop n (map change_of list))

-- all places of two lists of one length
pub all-same : {A : Type 0} (a b : List A) (n : ℕ) → n ≡ length a → n ≡ length b → take n a ≡ take n b → a ≡ b
all-same a b n in-a in-b same =
    let most-a : length a ≤ n = omega (arith, in-a) in
    let most-b : length b ≤ n = omega (arith, in-b) in
    sym (take_all n a most-a) ∙ same ∙ take_all n b most-b

-- What follows a new class in its linearisation, by the merge of its bases' linearisations, and why there is nothing.
use Rattle.class_table.proofs.Below.{ℕ, true, cond, List, [], map, Option, Some, None, Result, Ok, Err, refl, sym, ap, ◌∙◌, arith, IfOk, IfErr, is_some, option_and_then, Vec, false_from_ne_true, Cause, PyTypeRef, is_distinct, least_order, all_some, Distinct, Classes, lin, limit, order_cause, Decides-distinct, least_order-order, lin-begins, lin-distinct, all_some-some, subsequence-distinct, lines-below, MroFault, AreLinesOf, IsApart, IsFirstRepeat, IsBrokenPrecedence, IsOrderConflict, IsRest, HasNoOrder, OnRefusal, Tells, numbers, refusal, WithMemory, refused_lines, refused_order, Follows, fault_of, ClassFault}
use Rattle.std.proofs.Common.{◌≡◌, ◌≤◌, ◌∷◌}
use Rattle.std.specs.Prelude.{◌↔◌}
use Rattle.py_node.specs.declared.raised.Cause.TheVariants as causes
use Rattle.class_table.specs.declared.mro_merge.fault.MroFault.TheVariants as merge
use Rattle.class_table.specs.MroMerge.Faults as faults
use Rattle.class_table.proofs.MroMerge.Repeats.{repeat-differs}

-- what is answered, by what the merge answers
abbrev pub answer_of : Result (Vec PyTypeRef) MroFault → Result (Vec PyTypeRef) ClassFault
answer_of (Ok rest) = Ok rest
answer_of (Err fault) = Err (fault_of fault)

module _ {K : Type 0} (t : Classes K) where
  pub lines-of : (bs : List ℕ) (ls : List (List ℕ)) → map Some ls ≡ map (lin t) bs → AreLinesOf bs ls
  lines-of [] [] e = tt
  lines-of [] (l ∷ ls) e = cc
  lines-of (b ∷ bs) [] e = cc
  lines-of (b ∷ bs) (l ∷ ls) e =
      let here : lin t b ≡ Some l = cc in
      let rest : map Some ls ≡ map (lin t) bs = cc in
      (lin-begins t b l here, lin-distinct t b l here, lines-of bs ls rest)

  module _ (bs : List ℕ) (ls : List (List ℕ)) (of : map Some ls ≡ map (lin t) bs) where
    all : all_some (map (lin t) bs) ≡ Some ls
    all = ap all_some (sym of) ∙ all_some-some ls

    apart : (n : ℕ) → limit t ≤ n → IsApart n ls
    apart n fresh l h k = let r = lines-below t bs ls l n all h k in absurd (omega arith)

    pub follows-of : (xs : List ℕ) → IsRest bs ls xs → Follows t bs xs
    follows-of xs rest n fresh = ap (option_and_then (least_order n bs)) all ∙ rest.computed n (apart n fresh)

    -- an order of distinct bases
    ordered : (o : Option (List ℕ)) → least_order (limit t) bs ls ≡ o → is_distinct bs ≡ true → refused_order t bs ≡ cond (is_some o) None (Some (order_cause bs ls))
    ordered o e d =
        ap (λ v. cond v (option_and_then (refused_lines t bs) (all_some (map (lin t) bs))) (Some causes.DuplicateBase)) d
        ∙ ap (option_and_then (refused_lines t bs)) all
        ∙ ap (λ o. cond (is_some o) None (Some (order_cause bs ls))) e

    none-refused : (xs : List ℕ) → IsRest bs ls xs → None ≡ refused_order t bs
    none-refused xs rest =
        let e = rest.computed (limit t) (apart (limit t) (omega arith)) in
        let order = least_order-order (limit t) bs ls (limit t ∷ xs) e in
        sym (ordered (Some (limit t ∷ xs)) e ((Decides-distinct bs).1 (subsequence-distinct bs (limit t ∷ xs) order.keeps_bases order.distinct)))

    caused : (cause : Cause) → HasNoOrder bs ls → Distinct bs → order_cause bs ls ≡ cause → Some cause ≡ refused_order t bs
    caused cause none d e =
        sym (ordered None (none.computed (limit t) (apart (limit t) (omega arith))) ((Decides-distinct bs).1 d) ∙ ap Some e)

    twice : (b : ℕ) → IsFirstRepeat bs b → Some causes.DuplicateBase ≡ refused_order t bs
    twice b h =
        sym (ap (λ v. cond v (option_and_then (refused_lines t bs) (all_some (map (lin t) bs))) (Some causes.DuplicateBase)) (false_from_ne_true (is_distinct bs) (λ q. repeat-differs bs b h ((Decides-distinct bs).0 q))))

    pub refused-of : (r : Result (Vec PyTypeRef) MroFault) → IfOk r (λ line. IsRest bs ls (numbers line.items)) → ((b : PyTypeRef) → (r ≡ Err (merge.DuplicateBase b)) ↔ IsFirstRepeat bs b.0) → (r ≡ Err merge.LocalPrecedence) ↔ IsBrokenPrecedence bs ls → faults.WithMemory r ((r ≡ Err merge.MroConflict) ↔ IsOrderConflict bs ls) → OnRefusal r (HasNoOrder bs ls) → IfErr r (λ fault. Tells fault (order_cause bs ls)) → WithMemory (answer_of r) (refusal (answer_of r) ≡ refused_order t bs)
    refused-of (Ok rest) order double broken conflict none cause = none-refused (numbers rest.items) order
    refused-of (Err (merge.DuplicateBase b)) order double broken conflict none cause = twice b.0 ((double b).0 refl)
    refused-of (Err merge.LocalPrecedence) order double broken conflict none cause = let k : IsBrokenPrecedence bs ls = broken.0 refl in caused causes.LocalPrecedence none k.distinct cause
    refused-of (Err merge.MroConflict) order double broken conflict none cause = let k : IsOrderConflict bs ls = conflict.0 refl in caused causes.MroConflict none k.distinct cause
    refused-of (Err merge.OutOfMemory) order double broken conflict none cause = tt

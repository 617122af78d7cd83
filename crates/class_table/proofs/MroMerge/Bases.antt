-- The lists of a class's bases: their heads are the bases.
use Rattle.class_table.proofs.Below.{ℕ, List, [], Some, None, inl, inr, refl, sym, ap, subst, ◌∙◌, option_map, unique, without, least_order, Includes, Distinct, BeginsWith, least_order-least, least_order-none, IsApart, heads, with_heads, IsLeastMerge, HasNoMerge, AreLines, AreLinesOf, IsRest, HasNoOrder, merged}
use Rattle.std.proofs.Common.{◌≡◌, ◌∷◌, ◌++◌}
use Rattle.class_table.proofs.MroMerge.Struck.{without-none}
use Rattle.class_table.proofs.MroMerge.Steps.{least_order-merged}
use Rattle.class_table.proofs.MroMerge.Linearised.{merged-least, merged-none}

pub heads-bases : (bs : List ℕ) (ls : List (List ℕ)) → AreLinesOf bs ls → heads ls ≡ bs
heads-bases [] [] h = refl
heads-bases [] (l ∷ ls) h = absurd h
heads-bases (b ∷ bs) [] h = absurd h
heads-bases (b ∷ bs) ([] ∷ ls) h = absurd h.0
heads-bases (b ∷ bs) ((x ∷ l) ∷ ls) h = let rest = heads-bases bs ls h.2 in let here = h.0 in cc (rest, here)

pub lines-bases : (bs : List ℕ) (ls : List (List ℕ)) → AreLinesOf bs ls → AreLines ls
lines-bases [] [] h = tt
lines-bases [] (l ∷ ls) h = absurd h
lines-bases (b ∷ bs) [] h = absurd h
lines-bases (b ∷ bs) ([] ∷ ls) h = absurd h.0
lines-bases (b ∷ bs) ((x ∷ l) ∷ ls) h = (h.1, lines-bases bs ls h.2)

begins-holds : (b : ℕ) (l : List ℕ) → BeginsWith b l → Includes l b
begins-holds b [] h = absurd h
begins-holds b (x ∷ l) h = inl h

based : (bs : List ℕ) (ls : List (List ℕ)) → AreLinesOf bs ls → (b : ℕ) → Includes bs b → (l : List ℕ) × Includes ls l × Includes l b
based [] ls h b k = absurd k
based (a ∷ bs) [] h b k = absurd h
based (a ∷ bs) (l ∷ ls) h b (inl e) = let P : ℕ → Type 0 = λ w. Includes l w in (l, inl refl, subst P e (begins-holds a l h.0))
based (a ∷ bs) (l ∷ ls) h b (inr k) = let r = based bs ls h.2 b k in (r.0, inr r.1, r.2)

unique-distinct : (bs : List ℕ) → Distinct bs → unique bs ≡ bs
unique-distinct [] d = refl
unique-distinct (b ∷ bs) d = ap (λ l. b ∷ l) (ap (without b) (unique-distinct bs d.1) ∙ without-none b bs d.0)

with_heads-bases : (bs : List ℕ) (ls : List (List ℕ)) → AreLinesOf bs ls → Distinct bs → with_heads ls ≡ ls ++ bs ∷ []
with_heads-bases bs ls h d = ap (λ w. ls ++ w ∷ []) (ap unique (heads-bases bs ls h) ∙ unique-distinct bs d)

pub merge-rest : (bs : List ℕ) (ls : List (List ℕ)) (xs : List ℕ) → AreLinesOf bs ls → Distinct bs → IsLeastMerge (with_heads ls) xs → IsRest bs ls xs
merge-rest bs ls xs h d m = record { computed = computed; least = λ c apart. least_order-least c bs ls (c ∷ xs) (computed c apart) }
  where
    computed : (c : ℕ) → IsApart c ls → least_order c bs ls ≡ Some (c ∷ xs)
    computed c apart =
        least_order-merged c bs ls apart (based bs ls h)
        ∙ ap (option_map (λ xs. c ∷ xs)) (sym (ap merged (with_heads-bases bs ls h d)) ∙ merged-least (with_heads ls) xs m)

pub conflict-none : (bs : List ℕ) (ls : List (List ℕ)) → AreLinesOf bs ls → Distinct bs → HasNoMerge (with_heads ls) → HasNoOrder bs ls
conflict-none bs ls h d n = record { computed = computed; none = λ c apart xs o. least_order-none c bs ls xs (computed c apart) o }
  where
    computed : (c : ℕ) → IsApart c ls → least_order c bs ls ≡ None
    computed c apart =
        least_order-merged c bs ls apart (based bs ls h)
        ∙ ap (option_map (λ xs. c ∷ xs)) (sym (ap merged (with_heads-bases bs ls h d)) ∙ merged-none (with_heads ls) n)

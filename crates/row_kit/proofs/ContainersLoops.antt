-- Loops over pairs and over keywords, a step at a time.
use Rattle.row_kit.proofs.Below.{ℕ, suc, List, [], length, get_or, drop, sym, ap, ◌∙◌, arith, drop_all, drop-cons, PyObjectRef, Entries, the_tuple, ATuple, PlainWorld, with_node, next_node, list_made, pairs_made}
use Rattle.std.proofs.Common.{◌≡◌, ◌+◌, ◌<◌, ◌≤◌, ◌∷◌, ◌++◌}

pub next : (i : ℕ) → suc i ≡ i + 1
next i = omega arith

pub pair-more : (w new : PlainWorld) (rs : List PyObjectRef) (r : PyObjectRef) (es : Entries) (i : ℕ) (e : PyObjectRef × PyObjectRef) → i < length es → new ≡ with_node w the_tuple (ATuple ((get_or es i e).0 ∷ (get_or es i e).1 ∷ [])) → r ≡ next_node w the_tuple → pairs_made w rs (drop i es) ≡ pairs_made new (rs ++ r ∷ []) (drop (i + 1) es)
pair-more w new rs r es i e l made number =
    ap (pairs_made w rs) (drop-cons es i e l)
    ∙ ap (λ u. pairs_made u (rs ++ next_node w the_tuple ∷ []) (drop (suc i) es)) (sym made)
    ∙ ap (λ p. pairs_made new (rs ++ p ∷ []) (drop (suc i) es)) (sym number)
    ∙ ap (λ n. pairs_made new (rs ++ r ∷ []) (drop n es)) (next i)

pub pairs-all : (w : PlainWorld) (rs : List PyObjectRef) (es : Entries) (i : ℕ) → length es ≤ i → pairs_made w rs (drop i es) ≡ list_made w rs
pairs-all w rs es i l = ap (pairs_made w rs) (drop_all i es l)

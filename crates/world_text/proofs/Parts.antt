-- Lists of expressions, keys and entries that grow by one.
use Rattle.world_text.proofs.Below.{List, [], length, map, sym, subst, arith, ExprRef, PyStrInterned, Held, IsExpression, AreExpressions, IsName, AreNames, Holds, all-push, map-push, names-push}
use Rattle.std.proofs.Common.{◌<◌, ◌∷◌, ◌++◌}

pub expressions-push : (w : Held) (ns : List ExprRef) (n : ExprRef) → Holds w (AreExpressions ns) → Holds w (IsExpression n) → Holds w (AreExpressions (ns ++ n ∷ []))
unfolding Holds
expressions-push w ns n h p = all-push (λ n. n.0 < length w.forms) ns n h p

pub no-expressions : (w : Held) → Holds w (AreExpressions [])
unfolding Holds
no-expressions w = λ i d l. absurd (omega arith)

-- the keys and the values of pairs, with one more
pub keys-push : (w : Held) (ps : List (ExprRef × ExprRef)) (p : ExprRef × ExprRef) → Holds w (AreExpressions (map (λ p. p.0) ps)) → Holds w (IsExpression p.0)
    → Holds w (AreExpressions (map (λ p. p.0) (ps ++ p ∷ [])))
keys-push w ps p h e = subst (λ ns. Holds w (AreExpressions ns)) (sym (map-push (λ p. p.0) ps p)) (expressions-push w _ p.0 h e)

pub values-push : (w : Held) (ps : List (ExprRef × ExprRef)) (p : ExprRef × ExprRef) → Holds w (AreExpressions (map (λ p. p.1) ps)) → Holds w (IsExpression p.1)
    → Holds w (AreExpressions (map (λ p. p.1) (ps ++ p ∷ [])))
values-push w ps p h e = subst (λ ns. Holds w (AreExpressions ns)) (sym (map-push (λ p. p.1) ps p)) (expressions-push w _ p.1 h e)

pub entry-names-push : (w : Held) (es : List (PyStrInterned × ExprRef)) (e : PyStrInterned × ExprRef) → Holds w (AreNames (map (λ e. e.0) es)) → Holds w (IsName e.0) → Holds w (AreNames (map (λ e. e.0) (es ++ e ∷ [])))
entry-names-push w es e h p = subst (λ xs. Holds w (AreNames xs)) (sym (map-push (λ e. e.0) es e)) (names-push w _ e.0 h p)

pub entry-expressions-push : (w : Held) (es : List (PyStrInterned × ExprRef)) (e : PyStrInterned × ExprRef) → Holds w (AreExpressions (map (λ e. e.1) es)) → Holds w (IsExpression e.1) → Holds w (AreExpressions (map (λ e. e.1) (es ++ e ∷ [])))
entry-expressions-push w es e h p = subst (λ ns. Holds w (AreExpressions ns)) (sym (map-push (λ e. e.1) es e)) (expressions-push w _ e.1 h p)

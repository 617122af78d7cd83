-- One text more, where texts are joined.
use Rattle.script_text.proofs.Below.{ℕ, cond, eqb, List, [], map, length, get_or, take, sym, ap, ◌∙◌, arith, append_assoc, append-nil, codes, common_steps, map-append, map_more, length-map, Text, escaped, joined, class_member}
use Rattle.std.proofs.Common.{◌≡◌, ◌+◌, ◌<◌, ◌∷◌, ◌++◌}

pub joined_push : (between : Text) (texts : List Text) (text : Text) → joined between (texts ++ text ∷ []) ≡ joined between texts ++ (cond (eqb (length texts) 0) [] between ++ text)
joined_push between [] text = append-nil text
joined_push between (first ∷ texts) text = grind (arith, common_steps)

-- one name more along a linearisation
member_push : (names : List Text) (name : Text) → joined (codes ", ") (map escaped (names ++ name ∷ [])) ≡ joined (codes ", ") (map escaped names) ++ class_member (eqb (length names) 0) name
member_push names name =
    rw (map-append escaped names (name ∷ []), joined_push (codes ", ") (map escaped names) (escaped name), length-map names escaped)

-- the same, where a loop has come to its item i
pub member_more : {X : Type 0} (text : X → Text) (xs : List X) (i : ℕ) (d : X) → i < length xs → joined (codes ", ") (map escaped (map text (take (i + 1) xs))) ≡ joined (codes ", ") (map escaped (map text (take i xs))) ++ class_member (eqb i 0) (text (get_or xs i d))
member_more text xs i d below =
    let count : length (map text (take i xs)) ≡ i = grind (arith, common_steps, length-map (take i xs) text) in
    rw (map_more text xs i d below, member_push (map text (take i xs)) (text (get_or xs i d)), count)

-- one piece more is written
pub written_more : (before old new done next piece : Text) → new ≡ old ++ piece → old ≡ before ++ done → next ≡ done ++ piece → new ≡ before ++ next
written_more before old new done next piece now so_far all =
    now ∙ ap (λ text. text ++ piece) so_far ∙ append_assoc before done piece ∙ sym (ap (λ text. before ++ text) all)

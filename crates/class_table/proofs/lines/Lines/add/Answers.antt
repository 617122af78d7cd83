use Rattle.class_table.proofs.Lemmas.{List, [], length, map, refl, ap, ◌∙◌, arith, PyTypeRef, numbers, part_of, Part, lines-added}
use Rattle.std.proofs.Common.{◌≡◌, ◌++◌, ◌∷◌}
use Rattle.class_table.proofs.lines.Lines.add.Goals as goal

pub returns-clause-ok : goal.returns-clause-ok
returns-clause-ok c =
    let array = c.self.inside.array.items in
    let parts = c.self.inside.parts.items in
    let p : Part = record { start = c.len.result; length = length c.args.line.now } in
    let start : c.len.result ≡ length array = let h = c.len.ensures in omega (arith, h) in
    let now : c.extend_from_slice-2.new.self.items ≡ array ++ c.args.line.now = c.in_ok-extend_from_slice-2.ensures.items in
    let held : c.push_reserved.new.self.items ≡ parts ++ p ∷ [] = c.push_reserved.ensures.items ∙ ap (λ (ps : List Part). ps ++ p ∷ []) c.in_ok-reserve.ensures.items in
    ap (λ (xs : List PyTypeRef). map (part_of xs) c.push_reserved.new.self.items) now
    ∙ ap (λ (ps : List Part). map (part_of (array ++ c.args.line.now)) ps) held
    ∙ lines-added array c.args.line.now parts p c.self.invariant start refl
    ∙ ap (λ (ls : List _). ls ++ numbers c.args.line.now ∷ []) c.self.view_is

use Rattle.py_node.proofs.Lemmas.{[], map, ◌∙◌, ap, subst, sym, string_bytes, AreDistinct, Stands, AreDistinct-push, texts-insert}
use Rattle.std.proofs.Common.{◌≡◌, ◌∷◌, ◌++◌}
use Rattle.py_node.proofs.names.Names.push.Goals as goal

-- the text is new
absent : (c : goal.In_ok-insert) → Stands (map (λ s. string_bytes s) c.self.inside.texts.keys) c.args.text.now → ⊥
absent c = subst (λ v. Stands v c.args.text.now → ⊥) (sym c.self.view_is) c.requires

-- the texts once the new one is in
pushed : (c : goal.In_ok-insert) → map (λ s. string_bytes s) c.insert.new.self.keys ≡ map (λ s. string_bytes s) c.self.inside.texts.keys ++ c.args.text.now ∷ []
pushed c =
    ap (λ ks. map (λ s. string_bytes s) ks) c.in_ok-insert.ensures.keys
    ∙ texts-insert (λ s. string_bytes s) c.args.text.now c.self.inside.texts.keys c.in_ok-copy.copy (sym c.in_ok-copy.ensures.ok) (absent c)

pub invariant_of-self-2 : goal.invariant_of-self-2
invariant_of-self-2 c = subst AreDistinct (sym (pushed c)) (AreDistinct-push _ c.args.text.now c.self.invariant (absent c))

pub returns-clause-added : goal.returns-clause-added
returns-clause-added c = pushed c ∙ ap (λ v. v ++ c.args.text.now ∷ []) c.self.view_is

use Rattle.order_check.proofs.Lemmas.{refl, sym, ◌∙◌, length-map, Decides-distinct, Entry, keys_of, ascend-distinct}
use Rattle.std.specs.Prelude.{length}
use Rattle.order_check.proofs.forms.are_keyed.Goals as goal

pub returns-then-ascend : goal.returns-then-ascend
returns-then-ascend c = (λ t. ascend-distinct (keys_of c.args.entries.now) (length c.args.entries.now) (length-map c.args.entries.now (λ (e : Entry). e.key)) (c.ascend.ensures c.if-ascend.true), λ d. refl)

pub returns : goal.returns
returns c = let d = Decides-distinct (keys_of c.args.entries.now) in (λ t. d.0 (sym c.all_differ.ensures ∙ t), λ k. c.all_differ.ensures ∙ d.1 k)

use Rattle.class_world.proofs.Lemmas.{ℕ, Option, Some, None, refl, sym, ap, ◌∙◌, subst, slice_get, option_map, PyObjectRef, PyStrInterned, place_of, Text, Class, at-renamed, the_none_type, Node, none, Held, Reading, spelled, plain, Holds, class_ref_at, flags_at, the_view, node-read, flags-seen}
use Rattle.std.proofs.Common.{◌≡◌}
use Rattle.py_node.specs.declared.payload.Node.{Node as StoredNode}
use Rattle.plain_machine.specs.World.{class_at}
use Rattle.class_world.proofs.world.World.keeps_built_ins.Goals as goal

flags-read : (w now : Held) → w ≡ now → (t : Reading) (c n : ℕ) → flags_at w.classes c ≡ Some n → flags_at (plain t now).classes c ≡ Some n
unfolding plain
flags-read w now v t c n h =
    subst (λ u. flags_at (plain t u).classes c ≡ Some n) v (at-renamed (spelled t) (option_map (λ (k : Class Text). k.flags)) (option_map (λ (k : Class PyStrInterned). k.flags)) refl (λ k. refl) w.classes c ∙ h)

class-read : (w now : Held) → w ≡ now → (t : Reading) (r : PyObjectRef) (c : ℕ) → class_ref_at w.nodes r.0 ≡ Some c → class_at (plain t now) r ≡ Some c
class-read w now v t r c h = go (slice_get w.nodes r.0) refl h
  where
    go : (o : Option StoredNode) → slice_get w.nodes r.0 ≡ o → option_map (λ (x : StoredNode). x.class.0) o ≡ Some c → class_at (plain t now) r ≡ Some c
    go None e h = cc
    go (Some x) e h = ap (option_map (λ (x : Node). x.class)) (node-read w now r x v e t) ∙ h

pub returns-clause-flags : goal.returns-clause-flags
unfolding Holds
returns-clause-flags c = λ t b.
    flags-read (the_view c.self.inside) c.args.self.now c.self.view_is t (place_of b) _ (c.self.invariant.flags b)

pub returns-clause-of_none : goal.returns-clause-of_none
unfolding Holds
returns-clause-of_none c = λ t.
    class-read (the_view c.self.inside) c.args.self.now c.self.view_is t none the_none_type c.self.invariant.of_none.0

pub returns-clause-unmarked : goal.returns-clause-unmarked
returns-clause-unmarked c = λ t k n e.
    let w = the_view c.self.inside in
    c.self.invariant.unmarked k n (sym (flags-seen w c.args.self.now c.self.view_is t k) ∙ e)

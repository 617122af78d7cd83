use Rattle.class_world.proofs.Lemmas.{ℕ, Some, refl, ◌∙◌, subst, option_map, PyStrInterned, Text, class_at, short_name, at-renamed, Held, Reading, spelled, plain, the_view, Holds, IsClass, opened-one}
use Rattle.std.proofs.Common.{◌≡◌}
use Rattle.class_world.proofs.world.World.class_name.Goals as goal

-- the name of a class as a reading has it
name-read : (w now : Held) (c : ℕ) (name : Text) → w ≡ now → option_map short_name (class_at w.classes c) ≡ Some name → (t : Reading) → option_map short_name (class_at (plain t now).classes c) ≡ Some name
unfolding plain
name-read w now c name v h t = subst (λ n. option_map short_name (class_at (plain t n).classes c) ≡ Some name) v (at-renamed (spelled t) (option_map (short_name {K = Text})) (option_map (short_name {K = PyStrInterned})) refl (λ k. refl) w.classes c ∙ h)

pub name-requires : goal.name-requires
unfolding Holds
name-requires c = opened-one (the_view c.self.inside) c.args.self.now (IsClass c.args.class.0) c.self.view_is c.requires

pub returns : goal.returns
returns c = name-read (the_view c.self.inside) c.args.self.now c.args.class.0 c.name.result.now c.self.view_is c.name.ensures.short

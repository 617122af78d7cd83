use Rattle.vm_calls.proofs.Lemmas.{ℕ, Option, Some, ap, ◌∙◌, sym, option_map, Text, Class}
use Rattle.std.proofs.Common.{◌≡◌}
use Rattle.vm_calls.proofs.attribute_laws.methods.every_world_is_usual.Goals as goal

-- the flags of a class that is there
its-flags : (o : Option (Class Text)) (k : Class Text) (n : ℕ) → option_map (λ (k : Class Text). k.flags) o ≡ Some n → o ≡ Some k → k.flags ≡ n
its-flags o k n h e = let both : Some k.flags ≡ Some n = sym (ap (option_map (λ (k : Class Text). k.flags)) e) ∙ h in cc both

pub returns : goal.returns
returns c = λ t. record {
  sound = c.sound.ensures t;
  flags = λ b k e. its-flags _ k _ (c.keeps_built_ins.ensures.flags t b) e;
  of_none = c.keeps_built_ins.ensures.of_none t;
  unmarked = c.keeps_built_ins.ensures.unmarked t;
}

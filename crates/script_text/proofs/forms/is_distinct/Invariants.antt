use Rattle.script_text.proofs.Below.{ℕ, List, length, drop, true, list_any, bytes_eq, texts_of, all_differ}
use Rattle.std.proofs.Common.{◌≡◌, ◌≤◌}
use Rattle.script_text.proofs.forms.is_distinct.Given as goal

abbrev pub invariant-texts : goal.invariant-texts
invariant-texts l = record {
  within : l.i ≤ length l.texts;
  has : (bs : List ℕ) → list_any (λ k. bytes_eq bs k.now) l.later.keys ≡ list_any (bytes_eq bs) (texts_of (drop l.i l.texts));
  differ : all_differ (texts_of (drop l.i l.texts)) ≡ true;
}

abbrev pub decreases-texts : goal.decreases-texts
decreases-texts l = l.i

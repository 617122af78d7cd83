-- That no body runs and none is noted: in a world, and as the world is read.
use Rattle.vm_eval.proofs.Below.{List, [], length, map, refl, ap, sym, ◌∙◌, arith, Held, Reading, plain, scope_of, Lasts, Grows, AsDeep}
use Rattle.std.proofs.Common.{◌≡◌, ◌∷◌}

none-short : {A : Type 0} (xs : List A) → length xs ≡ 0 → xs ≡ []
none-short [] h = refl
none-short (x ∷ xs) h = absurd (omega arith)

none-mapped : {A B : Type 0} (f : A → B) (xs : List A) → map f xs ≡ [] → xs ≡ []
none-mapped f [] h = refl
none-mapped f (x ∷ xs) h = cc

pub none-read : (t : Reading) (w : Held) → w.scopes ≡ [] → (plain t w).scopes ≡ []
unfolding plain
none-read t w h = ap (map (scope_of t)) h

pub none-held : (t : Reading) (w : Held) → (plain t w).scopes ≡ [] → w.scopes ≡ []
unfolding plain
none-held t w h = none-mapped (scope_of t) w.scopes h

pub still-none : (old new : Held) → old.scopes ≡ [] → AsDeep old new → new.scopes ≡ []
still-none old new h n = none-short new.scopes (n ∙ ap length h)

-- no start of a body is noted, in a world and as the world is read
pub quiet-read : (t : Reading) (w : Held) → w.calls ≡ [] → (plain t w).calls ≡ []
unfolding plain
quiet-read t w h = h

pub quiet-held : (t : Reading) (w : Held) → (plain t w).calls ≡ [] → w.calls ≡ []
unfolding plain
quiet-held t w h = h

-- from rest to rest
pub rest-grows : (old new : Held) → Lasts old new → old.scopes ≡ [] → new.scopes ≡ [] → old.calls ≡ [] → new.calls ≡ [] → Grows old new
rest-grows old new l a b p q = record { still = l.still; log = l.log; bodies = ap length b ∙ sym (ap length a); notes = q ∙ sym p }

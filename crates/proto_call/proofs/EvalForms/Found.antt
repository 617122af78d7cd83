-- What is found in a list.
use Rattle.proto_call.proofs.Below.{List, [], map, Bool, true, false, cond, Option, Some, refl, find}
use Rattle.std.proofs.Common.{◌≡◌, ◌∷◌, option_map}

found-or : {A B C : Type 0} (f : A → B) (g : B → C) (x : A) (o : Option A) (p : Option B) (b : Bool) → option_map (λ a. g (f a)) o ≡ option_map g p → option_map (λ a. g (f a)) (cond b (Some x) o) ≡ option_map g (cond b (Some (f x)) p)
found-or f g x o p true h = refl
found-or f g x o p false h = h

-- what is found among what is made of each is made of what is found
pub find-map : {A B C : Type 0} (f : A → B) (p : B → Bool) (g : B → C) (xs : List A) → option_map (λ a. g (f a)) (find (λ a. p (f a)) xs) ≡ option_map g (find p (map f xs))
find-map f p g [] = refl
find-map f p g (x ∷ xs) = found-or f g x (find (λ a. p (f a)) xs) (find p (map f xs)) (p (f x)) (find-map f p g xs)

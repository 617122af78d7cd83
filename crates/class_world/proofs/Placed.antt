-- Places of objects under other keys.
use Rattle.class_world.proofs.Below.{ℕ, cond, List, [], Option, Some, None, refl, ap, ◌∙◌, nat_lt, option_and_then, length-map, Classes, class_at, renamed, layout, member_count, place_along, place_at, layout-renamed, at-renamed}
use Rattle.std.proofs.Common.{◌≡◌, ◌-◌, ◌∷◌}

-- names under other keys change no place
module _ {K L : Type 0} (f : K → L) (t : Classes K) where
  along-renamed : (line : List ℕ) (n : ℕ) → place_along (renamed f t) line n ≡ place_along t line n
  along-renamed [] n = refl
  along-renamed (c ∷ cs) n =
      let count : member_count (class_at (renamed f t) c) ≡ member_count (class_at t c) = at-renamed f member_count member_count refl (λ k. length-map k.members f) t c in
      ap (λ m. cond (nat_lt n m) (Some (c, n)) (place_along (renamed f t) cs (n - m))) count
      ∙ ap (cond (nat_lt n (member_count (class_at t c))) (Some (c, n))) (along-renamed cs (n - member_count (class_at t c)))

  pub place_at-renamed : (c n : ℕ) → place_at (renamed f t) c n ≡ place_at t c n
  place_at-renamed c n =
      ap (option_and_then (λ line. place_along (renamed f t) line n)) (layout-renamed f t c) ∙ go (layout t c)
    where
      go : (o : Option (List ℕ)) → option_and_then (λ line. place_along (renamed f t) line n) o ≡ option_and_then (λ line. place_along t line n) o
      go None = refl
      go (Some line) = along-renamed line n

-- How many places the objects of a class have, as a reading has the classes.
use Rattle.class_world.proofs.Below.{ℕ, true, List, [], Option, Some, None, refl, ap, ◌∙◌, subst, arith, option_map, lt-ltb, length-map, Classes, renamed, layout, member_count, members_in, place_count, at-renamed, layout-renamed, is_below, is_offset, Held, Reading, spelled, plain, IsOffset, Holds}
use Rattle.std.proofs.Common.{◌≡◌, ◌<◌, ◌∷◌}

module _ {K L : Type 0} (f : K → L) (t : Classes K) where
  members-renamed : (line : List ℕ) → members_in (renamed f t) line ≡ members_in t line
  members-renamed [] = refl
  members-renamed (c ∷ line) =
      let own = at-renamed f member_count member_count refl (λ k. length-map k.members f) t c in
      let rest = members-renamed line in
      omega (arith, own, rest)

  places-in : (o : Option (List ℕ)) → option_map (members_in (renamed f t)) o ≡ option_map (members_in t) o
  places-in None = refl
  places-in (Some line) = ap Some (members-renamed line)

  count-renamed : (c : ℕ) → place_count (renamed f t) c ≡ place_count t c
  count-renamed c = ap (option_map (members_in (renamed f t))) (layout-renamed f t c) ∙ places-in (layout t c)

pub count-seen : (w now : Held) → w ≡ now → (t : Reading) (c : ℕ) → place_count (plain t now).classes c ≡ place_count w.classes c
unfolding plain
count-seen w now v t c =
    subst (λ n. place_count (plain t n).classes c ≡ place_count w.classes c) v (count-renamed (spelled t) w.classes c)

-- an offset of a place is one, as a reading has the classes
pub offset-seen : (w now : Held) → w ≡ now → (t : Reading) (c : ℕ) (o : Option ℕ) → is_offset (plain t now).classes c o ≡ is_offset w.classes c o
offset-seen w now v t c None = refl
offset-seen w now v t c (Some n) = ap (λ k. is_below k n) (count-seen w now v t c)

-- an offset that less places come before than there are
pub offset-within : (w now : Held) → w ≡ now → (c count n : ℕ) → place_count w.classes c ≡ Some count → n < count → Holds now (IsOffset c (Some n))
unfolding Holds
offset-within w now v c count n e l =
    subst (λ u. is_offset u.classes c (Some n) ≡ true) v (ap (λ k. is_below k n) e ∙ lt-ltb n count l)

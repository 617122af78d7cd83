-- The bases of a class have no names.
use Rattle.proto_attr.proofs.Below.{ℕ, bases_of, base, bases_of-renamed, base-renamed, Held, Reading, spelled, plain}
use Rattle.std.proofs.Common.{◌≡◌}

pub bases-seen : (t : Reading) (w : Held) (c : ℕ) → bases_of (plain t w).classes c ≡ bases_of w.classes c
unfolding plain
bases-seen t w c = bases_of-renamed (spelled t) w.classes c

pub base-seen : (t : Reading) (w : Held) (c : ℕ) → base (plain t w).classes c ≡ base w.classes c
unfolding plain
base-seen t w c = base-renamed (spelled t) w.classes c

use Rattle.proto_attr.proofs.Below.{drop, along, numbers, is_text, Reading, Reads, plain, spelled, after, remaining}
use Rattle.std.proofs.Common.{◌≡◌}
use Rattle.proto_attr.proofs.proto_descr.super_get.find_in.Given as goal

abbrev pub invariant-loop-member : goal.invariant-loop-member
invariant-loop-member l = (t : Reading) → Reads t l.world → along (λ y. is_text y (spelled t l.name)) (plain t l.world).classes (remaining l.past l.class.0 (numbers (drop l.member-index l.line))) ≡ along (λ y. is_text y (spelled t l.name)) (plain t l.world).classes (after l.class.0 (numbers l.line))

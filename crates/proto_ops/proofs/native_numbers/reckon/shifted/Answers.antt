use Rattle.proto_ops.proofs.Lemmas.{inl, inr, ap, pos, w128, cast_unsigned, small_power, out_of_range}
use Rattle.std.proofs.Common.{◌≡◌}
use Rattle.proto_ops.proofs.native_numbers.reckon.shifted.Goals as goal

pub pow-requires : goal.pow-requires
pow-requires c = small_power c.args.places c.if-places-lt127.true

pub returns-else-x-eqminus1 : goal.returns-else-x-eqminus1
returns-else-x-eqminus1 c =
    let other : c.args.x ≡ pos 0 → ⊥ = λ e. c.if-x-eq0.false (ap (cast_unsigned w128) e) in
    out_of_range c.args.x c.args.places c.if-places-lt127.false c.requires other (λ e n. elim c.else-x-eqminus1.either [
      | inl p ↦ p.1 n
      | inr q ↦ q (ap (cast_unsigned w128) e)
    ])

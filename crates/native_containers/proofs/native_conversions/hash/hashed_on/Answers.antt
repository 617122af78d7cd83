use Rattle.native_containers.proofs.Lemmas.{arith, to_z-of_z, ints}
use Rattle.native_containers.proofs.native_conversions.hash.hashed_on.Goals as goal

pub returns : goal.returns
returns c = search (arith, ints, to_z-of_z, c.number_hash.ensures)

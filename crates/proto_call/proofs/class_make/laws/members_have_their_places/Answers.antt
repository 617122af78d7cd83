use Rattle.proto_call.proofs.Lemmas.{plain, members-placed, members-solid, places-begin}
use Rattle.proto_call.proofs.class_make.laws.members_have_their_places.Goals as goal

pub returns-clause-begin : goal.returns-clause-begin
returns-clause-begin c = λ t. places-begin (plain t c.args.world.now) (c.sound.ensures t)

pub returns-clause-solid : goal.returns-clause-solid
returns-clause-solid c = λ t. members-solid (plain t c.args.world.now) (c.sound.ensures t)

pub returns-clause-place : goal.returns-clause-place
returns-clause-place c = λ t. members-placed (plain t c.args.world.now) (c.sound.ensures t)

use Rattle.proto_call.proofs.Lemmas.{length, refl, spelled, but_last-read, but_last-take, names-take}
use Rattle.std.proofs.Common.{◌-◌}
use Rattle.proto_call.proofs.parameters.single.Goals as goal

pub returns-in-len1-up-clause-names : goal.returns-in-len1-up-clause-names
returns-in-len1-up-clause-names c = λ t.
    rw c.if-rest.true (but_last-read (spelled t) c.args.params.now (length c.args.params.now - 1) refl)

pub returns-in-len1-up-clause-holds : goal.returns-in-len1-up-clause-holds
returns-in-len1-up-clause-holds c = λ w h. names-take w c.args.params.now (length c.args.params.now - 1) h

pub returns-in-len1-up-clause-held : goal.returns-in-len1-up-clause-held
returns-in-len1-up-clause-held c = rw c.if-rest.true (but_last-take c.args.params.now (length c.args.params.now - 1) refl)

use Rattle.proto_attr.proofs.native_objects.rebase.set_bases.Given as goal

abbrev pub ghosts-rebased : goal.ghosts-rebased
ghosts-rebased a = record { name = a.blank.name; parts = a.blank.parts }

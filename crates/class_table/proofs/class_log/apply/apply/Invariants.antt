use Rattle.class_table.proofs.class_log.apply.apply.Given as goal

abbrev pub ghosts-rebase : goal.ghosts-rebase
ghosts-rebase a = record { name = a.blank.name; parts = a.blank.parts }

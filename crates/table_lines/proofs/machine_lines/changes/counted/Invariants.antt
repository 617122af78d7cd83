use Rattle.table_lines.proofs.machine_lines.changes.counted.Given as goal

abbrev pub ghosts-rebased : goal.ghosts-rebased
ghosts-rebased a = record { name = a.blank.name; parts = a.blank.parts }

use Rattle.table_lines.proofs.call_lines.changes.counted.Given as goal

abbrev pub ghosts-set_bases : goal.ghosts-set_bases
ghosts-set_bases a = record { name = a.blank.name; parts = a.blank.parts }

-- A loaded method that is called with nothing.
use Rattle.table_lines.proofs.Below.{[], PyMethod, of_args, of_method, Held, AllHold, all-append, no-nodes}
use Rattle.std.proofs.Common.{◌++◌}

pub with-nothing : (w : Held) (m : PyMethod) → AllHold w (of_method m) → AllHold w (of_method m ++ of_args [] [])
with-nothing w m h = all-append w (of_method m) (of_args [] []) h (no-nodes w, tt)

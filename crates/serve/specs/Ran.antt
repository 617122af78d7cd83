-- What holds while commands are run one at a time.
use Rattle.serve.specs.Below.{List, Tree, Tally, Counts, plain_run, start, World, Reading, Reads, plain, say}
use Rattle.std.specs.Prelude.{◌≡◌}

-- after these commands, each with 10,000 units, the plain machine's world is this one, and its replies are counted
abbrev pub Ran : List Tree → World → Tally → Type 0
Ran done world tally =
    (t : Reading) → Reads t world → let run = plain_run say start done 10000 in (run.world ≡ plain t world) × Counts tally run.replies

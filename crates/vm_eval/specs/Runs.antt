-- What the machine's replies to commands are, in the terms of the plain run.
use Rattle.vm_eval.specs.Below.{ℕ, List, map, Command, Reply, Tree, tree_of, PlainReply, reply_of, PlainWorld, DoEval, ToEval, Run, answer, replied, plain_run, World, Reading, Reads, plain}
use Rattle.std.specs.Prelude.{◌≡◌, ◌∷◌}
use Rattle.vm_eval.specs.Say.{say}

-- a run with a reply before it
abbrev pub before : PlainReply → Run → Run
before reply rest = record { world = rest.world; replies = reply ∷ rest.replies }

-- what one command leaves, whatever comes after it
abbrev pub Replied : Tree → World → ℕ → World → PlainReply → Type 0
Replied command old units new reply =
    (t : Reading) → Reads t new → Reads t old × ((go : PlainWorld → Run) → replied go (answer say (plain t old) (ToEval (DoEval command)) units 0) ≡ before reply (go (plain t new)))

abbrev pub trees_in : List Command → List Tree
trees_in commands = map (λ c. tree_of c.expr) commands

-- the replies to these commands and the world after them are the plain machine's, however the numbers are read
abbrev pub Runs : List Command → World → ℕ → World → List Reply → Type 0
Runs commands old units new replies =
    (t : Reading) → Reads t new → Reads t old × (plain_run say (plain t old) (trees_in commands) units ≡ record { world = plain t new; replies = map reply_of replies })

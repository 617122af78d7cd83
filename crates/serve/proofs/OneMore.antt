-- One command more is run: the plain machine goes on where the commands before it left it, and its one reply is counted.
use Rattle.serve.proofs.Below.{List, [], length, map, sym, ap, ◌∙◌, subst, Result, Ok, Err, IfOk, length-map, Reply, Tree, PlainReply, reply_of, PlainWorld, Run, plain_run, start, World, Reading, Reads, plain, IsReadable, say, Tally, Counts, run-append, run-length, Ran}
use Rattle.std.proofs.Common.{◌≡◌, ◌∷◌, ◌++◌}

-- the replies to one command, and the world after it, are the plain machine's
abbrev pub RunsOne : Tree → World → World → List Reply → Type 0
RunsOne command old new replies =
    (t : Reading) → Reads t new → Reads t old × (plain_run say (plain t old) (command ∷ []) 10000 ≡ record { world = plain t new; replies = map reply_of replies })

pub one-reply : (command : Tree) (old new : World) (replies : List Reply) → RunsOne command old new replies → IsReadable new → length replies ≡ 1
one-reply command old new replies runs readable =
    sym (length-map replies reply_of) ∙ sym (ap (λ (run : Run). length run.replies) (runs readable.0 readable.1).1)
    ∙ run-length say (command ∷ []) 10000 (plain readable.0 old)

pub ran-more : (done : List Tree) (command : Tree) (old new : World) (so_far more : Tally) (replies : List Reply)
    → RunsOne command old new replies
    → ((rs : List PlainReply) → Counts so_far rs → Counts more (rs ++ map reply_of replies))
    → Ran done old so_far → Ran (done ++ command ∷ []) new more
ran-more done command old new so_far more replies runs counts ran = λ t reads.
    let last = runs t reads in
    let until = ran t last.0 in
    let here : plain_run say (plain_run say start done 10000).world (command ∷ []) 10000 ≡ record { world = plain t new; replies = map reply_of replies } =
    ap (λ (w : PlainWorld). plain_run say w (command ∷ []) 10000) until.0 ∙ last.1 in
    let whole : plain_run say start (done ++ command ∷ []) 10000 ≡ record { world = plain t new; replies = (plain_run say start done 10000).replies ++ map reply_of replies } =
    run-append say done (command ∷ []) 10000 start
    ∙ ap (λ (rest : Run). record { world = rest.world; replies = (plain_run say start done 10000).replies ++ rest.replies }) here in
    (ap (λ (run : Run). run.world) whole, subst (Counts more) (sym (ap (λ (run : Run). run.replies) whole)) (counts (plain_run say start done 10000).replies until.1))

-- what follows of a value holds of it
pub when-ok : {T E : Type 0} (r : Result T E) (P Q : T → Type 0) → ((v : T) → P v → Q v) → IfOk r P → IfOk r Q
when-ok (Ok v) P Q follows holds = follows v holds
when-ok (Err e) P Q follows holds = holds

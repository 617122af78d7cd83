-- Seats that are free.
use Rattle.shared_example.proofs.Below.{ℕ, List, Option, Some, Ok, ap, ◌∙◌, subst, option_to_list, IfSome, All, All-pop, Tree, TableId, Known, IsFree, Entry, Receipt, Executed}
use Rattle.std.proofs.Common.{◌≡◌, ◌++◌}

-- one that executed a command is free again
pub free_again : (id : TableId) (old new : Known Entry) (command : Tree) (budget : ℕ) (r : Receipt) → IsFree id old → Executed old new command budget (Ok r) → IsFree id new
free_again id old new command budget r free done =
    let is = done.leaves.2.1 in
    (ap (λ (s : Known Entry). s.lock) is ∙ free.0, ap (λ (s : Known Entry). s.in_turn) is)

-- the last of a list was taken
pub popped : {X : Type 0} (P : X → Type 0) (items rest : List X) (r : Option X) (x : X) → items ≡ rest ++ option_to_list r → r ≡ Some x → All P items → All P rest × P x
popped P items rest r x is some all = let both = All-pop P items rest r is all in (both.0, subst (λ o. IfSome o P) some both.1)

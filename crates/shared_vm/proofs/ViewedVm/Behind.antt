-- A view is behind its machine's log.
use Rattle.shared_vm.proofs.Below.{List, [], refl, sym, ap, ◌∙◌, append_assoc, Change, BeginsWith, CanFollow}
use Rattle.std.proofs.Common.{◌++◌}

-- what begins a list begins each list that this begins
pub begins-then : {A : Type 0} (part mid whole : List A) → BeginsWith part mid → BeginsWith mid whole → BeginsWith part whole
begins-then part mid whole p q = (p.0 ++ q.0, sym (append_assoc part p.0 q.0) ∙ ap (λ xs. xs ++ q.0) p.1 ∙ q.1)

-- nothing begins every list
pub begins-none : {A : Type 0} (whole : List A) → BeginsWith [] whole
begins-none whole = (whole, refl)

pub follows-begins : (done log : List Change) → CanFollow done log → BeginsWith done log
follows-begins done log f = (f.rest, f.whole)

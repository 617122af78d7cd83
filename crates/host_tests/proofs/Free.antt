-- Seats that are free again.
use Rattle.host_tests.proofs.Below.{ℕ, List, Option, Result, Ok, Err, ap, ◌∙◌, PyStrInterned, Text, Tree, Turn, TableId, Known, IsFree, Told, Entry, Receipt, ExecFault, OutOfMemory, Failed, Makes, Leaves, Executed, Named, Published}

-- a seat that made a turn
made_free : (id : TableId) (old new : Known Entry) (before : List (Turn Entry)) (t : Turn Entry) → IsFree id old → Makes old new before t → IsFree id new
made_free id old new before t free m = (ap (λ (s : Known Entry). s.lock) m.1 ∙ free.0, ap (λ (s : Known Entry). s.in_turn) m.1)

left_free : (id : TableId) (old new : Known Entry) (command : Tree) (budget : ℕ) (r : Result Receipt ExecFault) → IsFree id old → Leaves old new command budget r → IsFree id new
left_free id old new command budget (Ok r) free l = made_free id old new l.0 _ free l.2
left_free id old new command budget (Err OutOfMemory) free l = made_free id old new l.0 _ free l.2
left_free id old new command budget (Err (Failed after)) free l = made_free id old new l.0 _ free l.1

pub executed_free : (id : TableId) (old new : Known Entry) (command : Tree) (budget : ℕ) (r : Result Receipt ExecFault) → IsFree id old → Executed old new command budget r → IsFree id new
executed_free id old new command budget r free done = left_free id old new command budget r free done.leaves

pub named_free : (id : TableId) (old new : Known Entry) (text : Text) (r : Option PyStrInterned) → IsFree id old → Named old new text r → IsFree id new
named_free id old new text r free done = made_free id old new done.before _ free done.makes

pub published_free : (id : TableId) (old new : Known Entry) (r : Result (ℕ × Told) ExecFault) → IsFree id old → Published old new r → IsFree id new
published_free id old new r free done = made_free id old new done.before _ free done.makes

-- Each command has one reply, and each reply is of one sort.
use Rattle.generator.proofs.Lemmas.{◌∙◌, ℕ, length, arith, length-map-range_with_len, plain_run, generated, run-length, sorts-add-up}
use Rattle.std.proofs.Common.{◌≡◌, ◌+◌}
use Rattle.generator.proofs.laws.replies_add_up.Goals as goal

count-of : (seed count : ℕ) → length (generated seed count) ≡ 8 + count
unfolding generated
count-of seed count =
    simp length-map-range_with_len (omega arith)

pub returns : goal.returns
returns c = λ say w seed count units.
    sorts-add-up (plain_run say w (generated seed count) units).replies ∙ run-length say (generated seed count) units w ∙ count-of seed count

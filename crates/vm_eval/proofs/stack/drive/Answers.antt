use Rattle.vm_eval.proofs.Lemmas.{length, sym, ap, ◌∙◌, at_depth, Out, NoUnits, closing, plain, bodies-read}
use Rattle.vm_eval.proofs.stack.drive.Goals as goal

pub returns-in-NoUnits-clause-answers : goal.returns-in-NoUnits-clause-answers
returns-in-NoUnits-clause-answers c = λ t reads.
    let old = c.args.world.now in
    let last = plain t c.take_turns.new.world in
    let a = (rw c.in-NoUnits.is at c.in_ok-answer.ensures.reaches) t (c.end_bodies.ensures.reads t reads) in (
      a.0,
      a.1,
      ap (closing (length (plain t old).scopes)) a.2
          ∙ ap (λ n. Out (at_depth n last) NoUnits a.1) (bodies-read t old ∙ c.depth-depth.ensures)
          ∙ ap (λ w. Out w NoUnits a.1) (sym (c.end_bodies.ensures.ended t)),
    )

-- After each command the world is the plain machine's, and all replies so far are counted.
use Rattle.serve.proofs.Lemmas.{arith, ℕ, List, sym, ap, ◌∙◌, subst, append-nil, Tree, tree_of, plain_run, start, say, after, generated, Ran, when-ok, classes_made, changes_made, class-draw, change-draws, class-more, change-more, all-counted}
use Rattle.std.proofs.Common.{◌≡◌, ◌+◌, ◌-◌, ◌==◌, if◌then◌else◌, ◌++◌}
use Rattle.serve.proofs.generation.generation_text.Goals as goal

pub loop-i-init : goal.loop-i-init
loop-i-init c = record {
  ran = λ t reads. (sym (c.in_ok-vm.ensures.start t reads), c.new-tally.ensures);
  draws = c.new-draws.ensures;
  replies = c.new-tally.ensures.replied;
  readable = λ some. absurd (omega arith);
}

pub run_one-requires : goal.run_one-requires
run_one-requires c = omega arith

pub loop-i-preserved : goal.loop-i-preserved
loop-i-preserved c = record {
  ran = subst (λ (cs : List Tree). Ran cs c.run_one.new.vm.world c.run_one.new.tally)
      (class-more c.args.generation.seed c.loop-i.i c.loop-i.draws (tree_of c.in_ok-command.command.expr) c.loop-i.invariant.draws c.in_ok-command.ensures.command)
      (c.in_ok-run_one.ensures.ran (classes_made c.args.generation.seed c.loop-i.i) c.loop-i.invariant.ran);
  draws = c.in_ok-command.ensures.draws ∙ ap (λ x. after (if c.loop-i.i == 0 then 0 else 1) x) c.loop-i.invariant.draws
      ∙ class-draw c.args.generation.seed c.loop-i.i;
  replies = c.in_ok-run_one.ensures.replies ∙ ap (λ n. n + 1) c.loop-i.invariant.replies;
  readable = λ some. c.in_ok-run_one.ensures.readable;
}

pub loop-i-2-init : goal.loop-i-2-init
loop-i-2-init c =
    let all : c.loop-i.i ≡ 8 = omega arith in
    record {
      ran = subst (λ (cs : List Tree). Ran cs c.loop-i.vm.world c.loop-i.tally) (sym (append-nil (classes_made c.args.generation.seed 8)))
          (subst (λ (n : ℕ). Ran (classes_made c.args.generation.seed n) c.loop-i.vm.world c.loop-i.tally) all c.loop-i.invariant.ran);
      draws = c.loop-i.invariant.draws ∙ ap (λ n. after (n - 1) c.args.generation.seed) all;
      replies = c.loop-i.invariant.replies ∙ all;
      readable = c.loop-i.invariant.readable (omega arith);
    }

pub run_one-requires-in-loop-i-2 : goal.run_one-requires-in-loop-i-2
run_one-requires-in-loop-i-2 c = omega arith

pub loop-i-2-preserved : goal.loop-i-2-preserved
loop-i-2-preserved c = record {
  ran = subst (λ (cs : List Tree). Ran cs c.run_one-in-loop-i-2.new.vm.world c.run_one-in-loop-i-2.new.tally)
      (change-more (classes_made c.args.generation.seed 8) c.args.generation.seed c.loop-i-2.i c.loop-i-2.draws (tree_of c.in_ok-command-2.command.expr) c.loop-i-2.invariant.draws c.in_ok-command-2.ensures.command)
      (c.in_ok-run_one-2.ensures.ran (classes_made c.args.generation.seed 8 ++ changes_made c.args.generation.seed c.loop-i-2.i) c.loop-i-2.invariant.ran);
  draws = c.change_command.ensures.draws ∙ ap (λ x. after 3 x) c.loop-i-2.invariant.draws ∙ change-draws c.args.generation.seed c.loop-i-2.i;
  replies = omega (arith, c.in_ok-run_one-2.ensures.replies);
  readable = c.in_ok-run_one-2.ensures.readable;
}

pub returns : goal.returns
returns c =
    let all : c.loop-i-2.i ≡ c.args.generation.count = omega arith in
    let counted = all-counted c.args.generation.seed c.args.generation.count c.loop-i-2.vm.world c.loop-i-2.tally c.loop-i-2.invariant.readable
    (subst (λ (n : ℕ). Ran (classes_made c.args.generation.seed 8 ++ changes_made c.args.generation.seed n) c.loop-i-2.vm.world c.loop-i-2.tally) all c.loop-i-2.invariant.ran) in
    when-ok c.text.result _ _ (λ v text. text (plain_run say start (generated c.args.generation.seed c.args.generation.count) 10000).replies counted) c.text.ensures

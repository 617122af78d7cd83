use Rattle.serve.proofs.Lemmas.{List, sym, ap, subst, ◌∙◌, Reply, reply_of, Text, Run, plain_run, classes_text, replies_text, PlainWorld, Held, Reads, plain, trees_in, say, text_of}
use Rattle.std.proofs.Common.{◌≡◌, ◌++◌}
use Rattle.std.specs.Prelude.{map}
use Rattle.serve.proofs.script.run_text.Goals as goal

pub returns-in-Ok : goal.returns-in-Ok
returns-in-Ok c =
    let commands = trees_in c.args.commands.now in
    let t = c.in-Ok.ensures.readable.0 in
    let r = c.in-Ok.ensures.readable.1 in
    let ran = c.in-Ok.ensures.runs t r in
    let w : c.world.result.now ≡ c.run.new.self.world = c.world.ensures in
    let R : Held → Type 0 = λ h. Reads t h in
    let replies = c.in_ok-text-in-Ok.ensures ∙ ap (λ (rs : List Reply). replies_text (map reply_of rs)) c.deref.ensures.value in
    let classes = c.deref-in-Ok.ensures.value ∙ c.in_ok-write_classes-in-Ok.ensures t (subst R (sym w) r) ∙ ap (λ (h : Held). classes_text (plain t h)) w in
    c.in_ok-extend_from_slice-in-Ok.ensures.items
    ∙ ap (λ (xs : Text). xs ++ c.deref-in-Ok.result.now) replies
    ∙ ap (λ (xs : Text). replies_text (map reply_of c.in-Ok.replies.items) ++ xs) classes
    ∙ ap text_of (sym ran.1)
    ∙ ap (λ (p : PlainWorld). text_of (plain_run say p commands c.args.units)) (c.in_ok-vm.ensures.start t ran.0)

-- What is spelled is not refused, and ends that can't come leave two.
use Rattle.serve.proofs.Below.{ℕ, List, refl, Question, Share, Check, ScriptError as Refusal, Status as End, Done, Usage, Script, ReadFault, WriteFault, OutOfMemory, TooLarge, IsSpelled, IsRefused, IsDoneOrPoor}
use Rattle.std.proofs.Common.{◌≡◌}
use Rattle.outside.specs.declared.words.Question.TheVariants.{Run}

pub spelled-not_refused : (q : Question) (bytes : List ℕ) (e : Refusal) → IsSpelled q bytes → IsRefused q bytes e → ⊥
spelled-not_refused (Run units) bytes e (commands, spelled) refused = cc
spelled-not_refused (Share units) bytes e (sessions, spelled) refused = cc
spelled-not_refused (Check pace) bytes e (classes, spelled) refused = cc

pub done-or-poor : (s : End) → (s ≡ Usage → ⊥) → ((e : Refusal) → s ≡ Script e → ⊥) → (s ≡ ReadFault → ⊥) → (s ≡ TooLarge → ⊥) → (s ≡ WriteFault → ⊥) → IsDoneOrPoor s
done-or-poor Done usage script read large write = tt
done-or-poor Usage usage script read large write = absurd (usage refl)
done-or-poor (Script e) usage script read large write = absurd (script e refl)
done-or-poor ReadFault usage script read large write = absurd (read refl)
done-or-poor WriteFault usage script read large write = absurd (write refl)
done-or-poor OutOfMemory usage script read large write = tt
done-or-poor TooLarge usage script read large write = absurd (large refl)

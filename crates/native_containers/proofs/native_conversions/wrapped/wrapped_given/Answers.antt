use Rattle.native_containers.proofs.Lemmas.{string_bytes, sorted_ends, sorted_ok, wrapper-ended}
use Rattle.native_containers.proofs.native_conversions.wrapped.wrapped_given.Goals as goal

pub returns-in_ok-ended-in-Ok-clause-goes : goal.returns-in_ok-ended-in-Ok-clause-goes
returns-in_ok-ended-in-Ok-clause-goes c =
    let a = c.args in
    let text = sorted_ok c.wrapper_text.result c.in-Ok.text _ (rw c.in-Ok.is at c.in_ok-raised.ensures) c.wrapper_text.ensures.text in
    wrapper-ended a.wrapper a.text (string_bytes c.in-Ok.text) a.world.now c.new_text.new.world c.in_ok-ended-in-Ok.ended text (sorted_ends c.new_text.result c.in_ok-ended-in-Ok.ended _ c.in_ok-ended-in-Ok.ensures c.new_text.ensures.ends)

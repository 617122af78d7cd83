use Rattle.proto_attr.proofs.Lemmas.{sym, subst, grows-itself, AllHold, AreNodes, Holds, after-two-hold, without-more}
use Rattle.proto_attr.proofs.native_calls.create.new_by_name.Goals as goal

pub returns-in_ok-rest-in-Some-Some-clause-safe : goal.returns-in_ok-rest-in-Some-Some-clause-safe
returns-in_ok-rest-in-Some-Some-clause-safe c =
    let w = c.args.world.now in (
      grows-itself w,
      (
        c.in-Some-Some.ensures.class,
        (
          c.in-Some-Some.ensures'.class,
          (
            subst (λ rs. Holds w (AreNodes rs)) (sym c.in_ok-rest-in-Some-Some.ensures) (after-two-hold w c.args.args.now c.requires.0),
            subst (AllHold w) (sym (without-more _)) c.requires.1,
          ),
        ),
      ),
    )

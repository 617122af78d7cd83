-- Why a world refuses a class.
use Rattle.class_world.proofs.Below.{ℕ, List, Option, Some, None, Result, Ok, Err, sym, ap, ◌∙◌, option_or, Cause, ClassFault, Refused, RefusedAt, OutOfMemory, refusal, WithMemory, refused_layout, refused_order, refused_bases, Bindings, Held, Reading, plain, qualified, refused_name, refused_heap}
use Rattle.std.proofs.Common.{◌≡◌}
use Rattle.class_world.proofs.OfClasses.{bases-seen}

-- the same cause
with-same : {T : Type 0} (r : Result T ClassFault) (a b : Option Cause) → a ≡ b → WithMemory r (refusal r ≡ a) → WithMemory r (refusal r ≡ b)
with-same (Ok x) a b e h = h ∙ e
with-same (Err (Refused cause)) a b e h = h ∙ e
with-same (Err (RefusedAt cause c)) a b e h = h ∙ e
with-same (Err OutOfMemory) a b e h = tt

or-none : (o : Option Cause) → o ≡ option_or o None
or-none None = cc
or-none (Some cause) = cc

-- for its bases, whatever their order
module _ (now : Held) (t : Reading) (bs : List ℕ) where
  pub layout-first : (cause : Cause) (attrs : Bindings) → refused_layout (plain t now).classes bs ≡ Some cause → Some cause ≡ refused_heap (plain t now) bs attrs
  layout-first cause attrs e =
      sym (ap (λ o. option_or (option_or o (refused_order (plain t now).classes bs)) (refused_name (plain t now) (qualified attrs))) e)

  pub layout-told : (cause told : Cause) → refused_layout (plain t now).classes bs ≡ Some cause → refused_layout (plain t now).classes bs ≡ Some told → Some cause ≡ Some told
  layout-told cause told e f = sym e ∙ f

  pub layout-none : (told : Cause) (o : Option Cause) → refused_layout (plain t now).classes bs ≡ None → refused_layout (plain t now).classes bs ≡ Some told → o ≡ Some told
  layout-none told o e f = let h : None ≡ Some told = sym e ∙ f in cc

module _ (w now : Held) (v : w ≡ now) (t : Reading) (bs : List ℕ) where
  -- for its bases or its name
  pub name-next : {T : Type 0} (r : Result T ClassFault) (attrs : Bindings) (o : Option Cause) → refused_name (plain t now) (qualified attrs) ≡ o → WithMemory r (refusal r ≡ option_or (refused_bases w.classes bs) o) → WithMemory r (refusal r ≡ refused_heap (plain t now) bs attrs)
  name-next r attrs o e h =
      with-same r _ _ (ap (λ a. option_or a o) (sym (bases-seen w now v t bs)) ∙ ap (option_or (refused_bases (plain t now).classes bs)) (sym e)) h

  pub no-name : {T : Type 0} (r : Result T ClassFault) (attrs : Bindings) → refused_name (plain t now) (qualified attrs) ≡ None → WithMemory r (refusal r ≡ refused_bases w.classes bs) → WithMemory r (refusal r ≡ refused_heap (plain t now) bs attrs)
  no-name r attrs e h = name-next r attrs None e (with-same r _ _ (or-none (refused_bases w.classes bs)) h)

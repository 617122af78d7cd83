-- What a class is itself given under a name.
use Rattle.row_kit.proofs.Below.{ℕ, false, cond, Option, Some, None, sym, ap, ◌∙◌, PyObjectRef, Text, class_at as class_numbered, own_of, PlainWorld, datum_at, is_text, given, is_getset, unless_getset}
use Rattle.std.proofs.Common.{◌≡◌}

pub given-some : (w : PlainWorld) (c : ℕ) (x y : Text) (o : Option PyObjectRef) (v : PyObjectRef) → y ≡ x → own_of (λ k. is_text k y) (class_numbered w.classes c) ≡ o → o ≡ Some v → is_getset (datum_at w v) ≡ false → given w c x ≡ Some v
given-some w c x y o v e f g h =
    sym (ap (λ x. unless_getset w (own_of (λ k. is_text k x) (class_numbered w.classes c))) e) ∙ ap (unless_getset w) (f ∙ g) ∙ ap (λ b. cond b None (Some v)) h

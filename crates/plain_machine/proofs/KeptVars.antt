-- A variable that is bound keeps a sound world sound.
use Rattle.plain_machine.proofs.Below.{true, List, [], length, refl, is_some, All, All-cons, All-head, All-tail, All-weaker, PyObjectRef, value_of, with_value, Text, Bindings, Scope, PlainWorld, is_text, datum_at, bound, bound_last, with_binding, Bind, apply, AreBound, AreApart, params_in, IsSoundScope, IsSound}
use Rattle.std.proofs.Common.{◌≡◌, ◌<◌, ◌∷◌}
use Rattle.plain_machine.proofs.Lasting.{Lasts, like-itself, sound_node-still, scopes-still, attrs-still}
use Rattle.plain_machine.proofs.Bindings.{apart-set, values-set, known-set}

module _ (w : PlainWorld) (x : Text) (r : PyObjectRef) (there : r.0 < length w.nodes) where
  set-bound : (bs : Bindings) → AreBound w bs → AreBound w (with_value is_text bs x r)
  set-bound bs h = values-set is_text x (λ (o : PyObjectRef). o.0 < length w.nodes) bs r h there

  set-scope : (s : Scope) → IsSoundScope w s → IsSoundScope w (record s { vars = with_value is_text s.vars x r })
  set-scope s h = record {
    func = h.func;
    params = All-weaker (λ p. is_some (value_of (λ y. is_text y p) s.vars) ≡ true) (λ p. is_some (value_of (λ y. is_text y p) (with_value is_text s.vars x r)) ≡ true) (λ p e. known-set is_text x (λ y. is_text y p) s.vars r e) (params_in (datum_at w s.func)) h.params;
    vars = set-bound s.vars h.vars;
    apart = apart-set is_text x s.vars r h.apart;
  }

  set-vars : (ss : List Scope) (bs : Bindings) → AreBound w bs → AreBound w (bound ss bs x r)
  set-vars [] bs h = set-bound bs h
  set-vars (s ∷ ss) bs h = h

  set-apart : (ss : List Scope) (bs : Bindings) → AreApart bs → AreApart (bound ss bs x r)
  set-apart [] bs h = apart-set is_text x bs r h
  set-apart (s ∷ ss) bs h = h

  set-scopes : (ss : List Scope) → All (IsSoundScope w) ss → All (IsSoundScope w) (bound_last ss x r)
  set-scopes [] h = h
  set-scopes (s ∷ []) h =
      All-cons (IsSoundScope w) (record s { vars = with_value is_text s.vars x r }) [] (set-scope s (All-head (IsSoundScope w) s [] h)) (All-tail (IsSoundScope w) s [] h)
  set-scopes (s ∷ (u ∷ ss)) h =
      All-cons (IsSoundScope w) s (bound_last (u ∷ ss) x r) (All-head (IsSoundScope w) s (u ∷ ss) h) (set-scopes (u ∷ ss) (All-tail (IsSoundScope w) s (u ∷ ss) h))

pub bind-kept : (w : PlainWorld) (x : Text) (r : PyObjectRef) → r.0 < length w.nodes → IsSound w → IsSound (apply w (Bind x r))
bind-kept w x r there s =
    let u = with_binding w x r in
    let g : Lasts w u = record { stays = λ n y e. (y, e, refl); like = like-itself w.classes } in
    record {
      classes = s.classes;
      nodes = λ i n e. sound_node-still w u g n (s.nodes i n e);
      standing = s.standing;
      itself = s.itself;
      attrs = attrs-still w u g w.classes s.attrs;
      vars = set-vars w x r there w.scopes w.vars s.vars;
      apart = set-apart w x r there w.scopes w.vars s.apart;
      scopes = scopes-still w u g (bound_last w.scopes x r) (set-scopes w x r there w.scopes s.scopes);
    }

-- What is said of what natives take, and of branches, so that an end is of a kind.
use Rattle.vm_calls.proofs.Below.{Bool, true, false, cond, List, [], Option, Some, PyObjectRef, Text, Datum, AText, PlainWorld, Bindings, Told, Said, without_keywords, with_one, with_two, with_three, text_in, with_text, datum_at, Kind}
use Rattle.std.proofs.Common.{◌∷◌}
use Rattle.vm_calls.proofs.AnswerKinds.Base.{Says, ends}

pub either : {q : Told → Kind → Bool} {k : Kind} {x y : Said} (b : Bool) → Says q k x → Says q k y → Says q k (cond b x y)
either true p r = p
either false p r = r

pub no-keywords : {q : Told → Kind → Bool} {k : Kind} (w : PlainWorld) (kw : Bindings) (x : Said) → Says q k x → Says q k (without_keywords w kw x)
no-keywords w [] x p = p
no-keywords w (k ∷ kw) x p = ends tt

pub takes-one : {q : Told → Kind → Bool} {k : Kind} (w : PlainWorld) (args : List PyObjectRef) (kw : Bindings) (go : PyObjectRef → Said) → ((o : PyObjectRef) → Says q k (go o)) → Says q k (with_one w args kw go)
takes-one w (o ∷ []) kw go p = no-keywords w kw (go o) (p o)
takes-one w args kw go p = ends tt

pub takes-two : {q : Told → Kind → Bool} {k : Kind} (w : PlainWorld) (args : List PyObjectRef) (kw : Bindings) (go : PyObjectRef → PyObjectRef → Said) → ((o a : PyObjectRef) → Says q k (go o a)) → Says q k (with_two w args kw go)
takes-two w (o ∷ a ∷ []) kw go p = no-keywords w kw (go o a) (p o a)
takes-two w args kw go p = ends tt

pub takes-three : {q : Told → Kind → Bool} {k : Kind} (w : PlainWorld) (args : List PyObjectRef) (kw : Bindings) (go : PyObjectRef → PyObjectRef → PyObjectRef → Said) → ((o a b : PyObjectRef) → Says q k (go o a b)) → Says q k (with_three w args kw go)
takes-three w (o ∷ a ∷ b ∷ []) kw go p = no-keywords w kw (go o a b) (p o a b)
takes-three w args kw go p = ends tt

text-held : {q : Told → Kind → Bool} {k : Kind} (w : PlainWorld) (d : Option Datum) (go : Text → Said) → ((x : Text) → Says q k (go x)) → Says q k (text_in w d go)
text-held w (Some (AText x)) go p = p x
text-held w d go p = ends tt

pub takes-text : {q : Told → Kind → Bool} {k : Kind} (w : PlainWorld) (a : PyObjectRef) (go : Text → Said) → ((x : Text) → Says q k (go x)) → Says q k (with_text w a go)
takes-text w a go p = text-held w (datum_at w a) go p

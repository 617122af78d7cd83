-- What natives take that ask no task, and what they give.
use Rattle.vm_calls.proofs.Below.{Bool, Err, List, None, Ok, Option, Result, Some, nat_le, ℕ, ℤ, [], PyObjectRef, Raised as Fault, Kind, object_made, size_of, sized_made, int_made, text_made, iterator_made, number_in, with_number, with_lone_number, with_number_and, both_numbers, numbers_of, with_numbers, Datum, ANumber, AText, Bindings, PlainWorld, Told, Said, datum_at, number_of, the_int, the_str, most_items, with_one, with_two, Text}
use Rattle.std.proofs.Common.{◌∷◌}
use Rattle.vm_calls.specs.AnswerKinds.Kinds as kinds
use Rattle.vm_calls.proofs.AnswerKinds.Base.{Says, ends}
use Rattle.vm_calls.proofs.AnswerKinds.Said.{either, takes-one, takes-two}

pub object-given : {q : Told → Kind → Bool} (w : PlainWorld) (c : ℕ) (d : Datum) → Says q kinds.Value (object_made w c d)
object-given w c d = ends tt

pub sized-given : {q : Told → Kind → Bool} (w : PlainWorld) (c : ℕ) (d : Datum) → Says q kinds.Value (sized_made w c d)
sized-given w c d = either (nat_le (size_of d) most_items) (object-given w c d) (ends tt)

pub int-given : {q : Told → Kind → Bool} (w : PlainWorld) (z : Result ℤ Fault) → Says q kinds.Value (int_made w z)
int-given w (Err x) = ends tt
int-given w (Ok z) = object-given w the_int (ANumber z)

pub text-given : {q : Told → Kind → Bool} (w : PlainWorld) (x : Result Text Fault) → Says q kinds.Value (text_made w x)
text-given w (Err x) = ends tt
text-given w (Ok x) = object-given w the_str (AText x)

pub iterator-given : {q : Told → Kind → Bool} (w : PlainWorld) (o : PyObjectRef) → Says q kinds.Value (iterator_made w o)
iterator-given w o = object-given w _ _

number-held : {q : Told → Kind → Bool} {k : Kind} (w : PlainWorld) (z : Option ℤ) (go : ℤ → Said) → ((z : ℤ) → Says q k (go z)) → Says q k (number_in w z go)
number-held w None go p = ends tt
number-held w (Some z) go p = p z

pub takes-number : {q : Told → Kind → Bool} {k : Kind} (w : PlainWorld) (args : List PyObjectRef) (go : ℤ → Said) → ((z : ℤ) → Says q k (go z)) → Says q k (with_number w args go)
takes-number w [] go p = ends tt
takes-number w (o ∷ args) go p = number-held w (number_of (datum_at w o)) go p

pub takes-lone-number : {q : Told → Kind → Bool} {k : Kind} (w : PlainWorld) (args : List PyObjectRef) (kw : Bindings) (go : PyObjectRef → ℤ → Said) → ((o : PyObjectRef) (z : ℤ) → Says q k (go o z)) → Says q k (with_lone_number w args kw go)
takes-lone-number w args kw go p = takes-number w args (λ z. with_one w args kw (λ o. go o z)) (λ z. takes-one w args kw (λ o. go o z) (λ o. p o z))

pub takes-number-and : {q : Told → Kind → Bool} {k : Kind} (w : PlainWorld) (args : List PyObjectRef) (kw : Bindings) (go : ℤ → PyObjectRef → Said) → ((z : ℤ) (a : PyObjectRef) → Says q k (go z a)) → Says q k (with_number_and w args kw go)
takes-number-and w args kw go p = takes-number w args (λ z. with_two w args kw (λ o a. go z a)) (λ z. takes-two w args kw (λ o a. go z a) (λ o a. p z a))

both-held : {q : Told → Kind → Bool} (w : PlainWorld) (x y : Option ℤ) (go : ℤ → ℤ → Said) → ((x y : ℤ) → Says q kinds.Value (go x y)) → Says q kinds.Value (both_numbers w x y go)
both-held w (Some x) (Some y) go p = p x y
both-held w x y go p = ends tt

pub numbers-held : {q : Told → Kind → Bool} (w : PlainWorld) (a b : PyObjectRef) (go : ℤ → ℤ → Said) → ((x y : ℤ) → Says q kinds.Value (go x y)) → Says q kinds.Value (numbers_of w a b go)
numbers-held w a b go p = both-held w (number_of (datum_at w a)) (number_of (datum_at w b)) go p

pub takes-numbers : {q : Told → Kind → Bool} (w : PlainWorld) (args : List PyObjectRef) (kw : Bindings) (go : ℤ → ℤ → Said) → ((x y : ℤ) → Says q kinds.Value (go x y)) → Says q kinds.Value (with_numbers w args kw go)
takes-numbers w args kw go p = takes-two w args kw (λ a b. numbers_of w a b go) (λ a b. numbers-held w a b go p)

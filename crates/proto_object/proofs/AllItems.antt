-- All items of an iteration, one after another.
use Rattle.proto_object.proofs.Below.{Bool, cond, List, [], Result, Ok, Err, refl, sym, ap, ◌∙◌, nat_le, TooLong, PyObjectRef, Answer, Value, Exhausted, Method, Raised as Fault, PlainWorld, Answered, DoNext, Ended, Ends, Row, Said, ToProtocol, Told, fault, most_items, pass, value, ended_of, all_items, IsNoItem}
use Rattle.std.proofs.Common.{◌≡◌, ◌∷◌, ◌++◌}
use Rattle.std.specs.Prelude.{length}
use Rattle.py_node.specs.declared.task.PyMethod.TheVariants as method

module _ (u : PlainWorld) (it : PyObjectRef) (go : List PyObjectRef → Row) (rs : List PyObjectRef) where
  -- one more item was given: the next one is asked for, unless there are too many
  abbrev asked_or : Bool → Said
  asked_or room = cond room (pass u (ToProtocol (DoNext it))) (Ends u (fault TooLong))

  module _ (v : PyObjectRef) (later : List PyObjectRef) (e : later ≡ rs ++ v ∷ []) where
    pub item-given : (room : Bool) → nat_le (length later) most_items ≡ room → all_items u it rs go (Answered (value v) ∷ []) ≡ asked_or room
    item-given room is = ap (λ xs. asked_or (nat_le (length xs) most_items)) (sym e) ∙ ap asked_or is

    pub item-told : (r : Ended) (more : Told) → all_items u it rs go (Answered (value v) ∷ (Answered r ∷ more)) ≡ all_items u it later go (Answered r ∷ more)
    item-told r more = ap (λ xs. all_items u it xs go (Answered r ∷ more)) (sym e)

  -- any other answer is the end
  pub none-given : (r : Result Answer Fault) → IsNoItem r → all_items u it rs go (Answered (ended_of r) ∷ []) ≡ Ends u (ended_of r)
  none-given (Ok (Value v)) is = absurd is
  none-given (Ok Exhausted) is = absurd is
  none-given (Ok (Method (method.Function a b))) is = refl
  none-given (Ok (Method (method.Attribute a))) is = refl
  none-given (Ok _) is = refl
  none-given (Err y) is = refl

-- What natives of containers take that ask tasks: it is tested before the first, and not again.
use Rattle.native_containers.specs.Below.{List, [], PyObjectRef, PlainWorld, Bindings, Row, Kind, argument, tested_first}
use Rattle.native_containers.specs.Take.{with_lone, with_own_and, with_own_and_two}

-- an object of a kind, alone, or with one argument, or with two
abbrev pub taking_one : Kind → PlainWorld → List PyObjectRef → Bindings → (PyObjectRef → Row) → Row
taking_one k w args kw row = tested_first (with_lone k w args kw (λ o. row o [])) (row (argument args 0))

abbrev pub taking_two : Kind → PlainWorld → List PyObjectRef → Bindings → (PyObjectRef → PyObjectRef → Row) → Row
taking_two k w args kw row =
    tested_first (with_own_and k w args kw (λ o a. row o a [])) (row (argument args 0) (argument args 1))

abbrev pub taking_three : Kind → PlainWorld → List PyObjectRef → Bindings → (PyObjectRef → PyObjectRef → PyObjectRef → Row) → Row
taking_three k w args kw row =
    tested_first (with_own_and_two k w args kw (λ o a b. row o a b [])) (row (argument args 0) (argument args 1) (argument args 2))

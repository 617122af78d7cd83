-- What natives take that ask no task, and what they give.
use Rattle.row_kit.specs.Below.{ℕ, ℤ, cond, List, [], Option, Some, None, Result, Ok, Err, length, nat_le, PyObjectRef, Iterator, Raised as Fault, ArgCount, SelfType, IntRange, TooLong, place_of, Text, Datum, ANumber, AText, ATuple, AList, ADict, AnIterator, PlainWorld, Bindings, AsNumber, Said, Ends, datum_at, number_of, with_node, next_node, the_int, the_str, value, not_implemented, fits, most_items, fault, with_one, with_two}
use Rattle.std.specs.Prelude.{◌∷◌}

-- a number, which has at most 128 bits with its sign
abbrev pub in_range : ℤ → Result ℤ Fault
in_range z = cond (fits z) (Ok z) (fault IntRange)

-- a text has at most so many bytes
abbrev pub in_length : Text → Result Text Fault
in_length x = cond (nat_le (length x) most_items) (Ok x) (fault TooLong)

-- ends with a new object of a class
abbrev pub object_made : PlainWorld → ℕ → Datum → Said
object_made w c d = Ends (with_node w c d) (value (next_node w c))

-- how many bytes or items a text or a container has
abbrev pub size_of : Datum → ℕ
size_of (AText x) = length x
size_of (ATuple rs) = length rs
size_of (AList rs) = length rs
size_of (ADict es) = length es
size_of d = 0

-- ends with such an object, which has no more than the limit
abbrev pub sized_made : PlainWorld → ℕ → Datum → Said
sized_made w c d = cond (nat_le (size_of d) most_items) (object_made w c d) (Ends w (fault TooLong))

-- ends with a new whole number, or with a fault
abbrev pub int_made : PlainWorld → Result ℤ Fault → Said
int_made w (Err x) = Ends w (Err x)
int_made w (Ok z) = object_made w the_int (ANumber z)

-- ends with a number, of which a call by name makes a new one
abbrev pub number_told : PlainWorld → ℤ → Said
number_told w z = Ends w (Ok (AsNumber z))

-- ends with a new text, or with a fault
abbrev pub text_made : PlainWorld → Result Text Fault → Said
text_made w (Err x) = Ends w (Err x)
text_made w (Ok x) = object_made w the_str (AText x)

-- ends with a new iterator over an object, whose first item is the next
abbrev pub iterator_made : PlainWorld → PyObjectRef → Said
iterator_made w o = object_made w (place_of Iterator) (AnIterator (record { object = o; place = Some 0 }))

-- the number that an object must hold
abbrev pub number_in : PlainWorld → Option ℤ → (ℤ → Said) → Said
number_in w None go = Ends w (fault SelfType)
number_in w (Some z) go = go z

-- there must be an object, and it must hold a number
abbrev pub with_number : PlainWorld → List PyObjectRef → (ℤ → Said) → Said
with_number w [] go = Ends w (fault ArgCount)
with_number w (o ∷ args) go = number_in w (number_of (datum_at w o)) go

-- an object that holds a number, alone
abbrev pub with_lone_number : PlainWorld → List PyObjectRef → Bindings → (PyObjectRef → ℤ → Said) → Said
with_lone_number w args kw go = with_number w args (λ z. with_one w args kw (λ o. go o z))

-- a number and one argument
abbrev pub with_number_and : PlainWorld → List PyObjectRef → Bindings → (ℤ → PyObjectRef → Said) → Said
with_number_and w args kw go = with_number w args (λ z. with_two w args kw (λ o a. go z a))

-- a native of two numbers is not for other objects
abbrev pub both_numbers : PlainWorld → Option ℤ → Option ℤ → (ℤ → ℤ → Said) → Said
both_numbers w (Some x) (Some y) go = go x y
both_numbers w _ _ go = Ends w (value not_implemented)

-- the numbers that two objects hold
abbrev pub numbers_of : PlainWorld → PyObjectRef → PyObjectRef → (ℤ → ℤ → Said) → Said
numbers_of w a b go = both_numbers w (number_of (datum_at w a)) (number_of (datum_at w b)) go

-- two objects, of which the native is for numbers
abbrev pub with_numbers : PlainWorld → List PyObjectRef → Bindings → (ℤ → ℤ → Said) → Said
with_numbers w args kw go = with_two w args kw (λ a b. numbers_of w a b go)

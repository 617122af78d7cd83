-- What the natives of texts say that ask no task.
use Rattle.native_containers.specs.Below.{ℕ, Bool, false, cond, eqb, List, [], Option, Some, None, Ok, Ordering, nat_cmp, is_eq, is_ne, is_lt, is_le, is_ge, is_gt, slice_cmp, w64, cast_signed, str_to_ascii_uppercase, PyObjectRef, ArgCount, ConcatType, ContainsType, CompareNative, StrNative, Text, PlainWorld, Bindings, Said, Ends, class_at, datum_at, the_str, value, truth, not_implemented, fault, elsewhere, with_one, with_two, with_text, in_length, number_told, text_made, iterator_made, text_of}
use Rattle.std.specs.Prelude.{◌∷◌, ◌++◌}
use Rattle.py_node.specs.declared.entry.CompareNative.TheVariants as compare
use Rattle.py_node.specs.declared.entry.StrNative.TheVariants as str
use Rattle.native_containers.specs.NativeTexts.Texts.{text_length, text_hash, repr_text, stands_in}

-- the text that is there, or an empty one
abbrev pub or_no_text : Option Text → Text
or_no_text None = []
or_no_text (Some x) = x

-- there must be an object, and it must hold a text
abbrev pub with_own_text : PlainWorld → List PyObjectRef → (Text → Said) → Said
with_own_text w [] go = Ends w (fault ArgCount)
with_own_text w (o ∷ args) go = with_text w o go

-- an object that holds a text, alone
abbrev pub with_lone_text : PlainWorld → List PyObjectRef → Bindings → (PyObjectRef → Text → Said) → Said
with_lone_text w args kw go = with_own_text w args (λ x. with_one w args kw (λ o. go o x))

-- a text and one argument
abbrev pub with_text_and : PlainWorld → List PyObjectRef → Bindings → (Text → PyObjectRef → Said) → Said
with_text_and w args kw go = with_own_text w args (λ x. with_two w args kw (λ o a. go x a))

-- natives of one text

abbrev pub str_repr : PlainWorld → List PyObjectRef → Bindings → Said
str_repr w args kw = with_lone_text w args kw (λ o x. text_made w (in_length (repr_text x)))

abbrev pub is_str : Option ℕ → Bool
is_str (Some c) = eqb c the_str
is_str None = false

-- a text of no other class is itself
abbrev pub str_str : PlainWorld → List PyObjectRef → Bindings → Said
str_str w args kw =
    with_lone_text w args kw (λ o x. cond (is_str (class_at w o)) (Ends w (value o)) (text_made w (Ok x)))

abbrev pub str_hash : PlainWorld → List PyObjectRef → Bindings → Said
str_hash w args kw = with_lone_text w args kw (λ o x. number_told w (text_hash x))

-- a count is told as a number of 64 bits with their sign
abbrev pub str_len : PlainWorld → List PyObjectRef → Bindings → Said
str_len w args kw = with_lone_text w args kw (λ o x. number_told w (cast_signed w64 (text_length x)))

abbrev pub str_iter : PlainWorld → List PyObjectRef → Bindings → Said
str_iter w args kw = with_lone_text w args kw (λ o x. iterator_made w o)

-- only the letters of ASCII have another case
abbrev pub str_upper : PlainWorld → List PyObjectRef → Bindings → Said
str_upper w args kw = with_lone_text w args kw (λ o x. text_made w (Ok (str_to_ascii_uppercase x)))

-- natives of two texts

abbrev pub contains_by : PlainWorld → Text → Option Text → Said
contains_by w x None = Ends w (fault ContainsType)
contains_by w x (Some y) = Ends w (value (truth (stands_in y x)))

abbrev pub str_contains : PlainWorld → List PyObjectRef → Bindings → Said
str_contains w args kw = with_text_and w args kw (λ x a. contains_by w x (text_of (datum_at w a)))

abbrev pub add_by : PlainWorld → Text → Option Text → Said
add_by w x None = Ends w (fault ConcatType)
add_by w x (Some y) = text_made w (in_length (x ++ y))

abbrev pub str_add : PlainWorld → List PyObjectRef → Bindings → Said
str_add w args kw = with_text_and w args kw (λ x a. add_by w x (text_of (datum_at w a)))

-- the natives that ask a task are said elsewhere
abbrev pub text_say : PlainWorld → StrNative → List PyObjectRef → Bindings → Said
text_say w str.Repr args kw = str_repr w args kw
text_say w str.Str args kw = str_str w args kw
text_say w str.Hash args kw = str_hash w args kw
text_say w str.Length args kw = str_len w args kw
text_say w str.Contains args kw = str_contains w args kw
text_say w str.Iter args kw = str_iter w args kw
text_say w str.Add args kw = str_add w args kw
text_say w str.Upper args kw = str_upper w args kw
text_say w _ args kw = Ends w elsewhere

-- comparisons of texts, by their bytes

abbrev pub order_by : CompareNative → Ordering → Bool
order_by compare.Eq r = is_eq r
order_by compare.Ne r = is_ne r
order_by compare.Lt r = is_lt r
order_by compare.Le r = is_le r
order_by compare.Ge r = is_ge r
order_by compare.Gt r = is_gt r
order_by compare.All r = false

-- a comparison is not for other objects
abbrev pub compared : PlainWorld → CompareNative → Text → Option Text → Said
compared w n x (Some y) = Ends w (value (truth (order_by n (slice_cmp nat_cmp x y))))
compared w n x None = Ends w (value not_implemented)

abbrev pub compare_text_say : PlainWorld → CompareNative → List PyObjectRef → Bindings → Said
compare_text_say w compare.All args kw = Ends w elsewhere
compare_text_say w n args kw = with_text_and w args kw (λ x a. compared w n x (text_of (datum_at w a)))

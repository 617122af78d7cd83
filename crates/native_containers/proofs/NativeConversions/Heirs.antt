-- What makes numbers, truth values, texts and tuples: what it says, and how it goes on.
use Rattle.native_containers.proofs.Below.{◌∙◌, ℕ, ℤ, pos, false, cond, List, [], Option, Some, None, Ok, Err, refl, ap, eq-eqb, ne_eqb, NewOf, SelfType, PyObjectRef, PyTypeRef, Value, End, raised, Text, the_int, the_str, class_object, ANumber, AText, ATuple, PlainWorld, Bindings, DoWhole, DoIsTrue, DoStr, DoCollect, ToObject, ToProtocol, ToNative, Ended, Said, Ends, Told, Answered, ReadObjects, pass, truth, value, datum_at, next_node, number_of, ref, with_node, World, Reading, Reads, plain, object_made, with_heir, NewInt, NewBool, NewStr, NewTuple, asks_for, with_one_at_most, int_of_class, Resumes, conversion_stands, conversion_job_say, text_at}
use Rattle.std.proofs.Common.{◌≡◌, ◌∷◌}
use Rattle.py_node.specs.declared.built_in.BuiltIn.TheVariants as built_in
use Rattle.native_containers.proofs.NativeConversions.Made.{made-so, resumes-end}

-- what is made of nothing, and what is asked of an argument

abbrev pub int-alone : PlainWorld → ℕ → Said
int-alone u c = object_made u c (ANumber (pos 0))

abbrev pub int-asks : PlainWorld → ℕ → PyObjectRef → Said
int-asks u c a = asks_for u (class_object u c) (ToProtocol (DoWhole a))

abbrev pub bool-alone : PlainWorld → ℕ → Said
bool-alone u c = Ends u (value (truth false))

abbrev pub bool-asks : PlainWorld → ℕ → PyObjectRef → Said
bool-asks u c a = pass u (ToProtocol (DoIsTrue a))

abbrev pub str-alone : PlainWorld → ℕ → Said
str-alone u c = object_made u c (AText [])

abbrev pub str-asks : PlainWorld → ℕ → PyObjectRef → Said
str-asks u c a = asks_for u (class_object u c) (ToObject (DoStr a))

abbrev pub tuple-alone : PlainWorld → ℕ → Said
tuple-alone u c = object_made u c (ATuple [])

abbrev pub tuple-asks : PlainWorld → ℕ → PyObjectRef → Said
tuple-asks u c a = asks_for u (class_object u c) (ToProtocol (DoCollect a))

-- at first
module _ (args : List PyObjectRef) (u : PlainWorld) (bs : Bindings) where
  pub int-said : conversion_job_say u (ToNative (NewOf built_in.Int) args bs) [] ≡ with_heir u built_in.Int args (λ c. with_one_at_most u args bs (int-alone u c) (int-asks u c))
  unfolding conversion_job_say
  int-said = refl

  pub bool-said : conversion_job_say u (ToNative (NewOf built_in.Bool) args bs) [] ≡ with_heir u built_in.Bool args (λ c. with_one_at_most u args bs (bool-alone u c) (bool-asks u c))
  unfolding conversion_job_say
  bool-said = refl

  pub str-said : conversion_job_say u (ToNative (NewOf built_in.Str) args bs) [] ≡ with_heir u built_in.Str args (λ c. with_one_at_most u args bs (str-alone u c) (str-asks u c))
  unfolding conversion_job_say
  str-said = refl

  pub tuple-said : conversion_job_say u (ToNative (NewOf built_in.Tuple) args bs) [] ≡ with_heir u built_in.Tuple args (λ c. with_one_at_most u args bs (tuple-alone u c) (tuple-asks u c))
  unfolding conversion_job_say
  tuple-said = refl

-- at an answer
module _ (args : List PyObjectRef) (c : PyTypeRef) (bs : Bindings) (t : Reading) (u : PlainWorld) (r : Ended) (more : Told) where
  pub int-waits : conversion_job_say u (ToNative (NewOf built_in.Int) args bs) (ReadObjects (ref c.0 ∷ []) ∷ (Answered r ∷ more)) ≡ conversion_stands t (NewInt c) r u more
  unfolding conversion_job_say
  int-waits = refl

  pub bool-waits : conversion_job_say u (ToNative (NewOf built_in.Bool) args bs) (Answered r ∷ more) ≡ conversion_stands t NewBool r u more
  unfolding conversion_job_say
  bool-waits = refl

  pub str-waits : conversion_job_say u (ToNative (NewOf built_in.Str) args bs) (ReadObjects (ref c.0 ∷ []) ∷ (Answered r ∷ more)) ≡ conversion_stands t (NewStr c) r u more
  unfolding conversion_job_say
  str-waits = refl

  pub tuple-waits : conversion_job_say u (ToNative (NewOf built_in.Tuple) args bs) (ReadObjects (ref c.0 ∷ []) ∷ (Answered r ∷ more)) ≡ conversion_stands t (NewTuple c) r u more
  unfolding conversion_job_say
  tuple-waits = refl

-- a number or a text was given
module _ (c : PyTypeRef) (v : PyObjectRef) where
  pub int-same : (w : World) → c.0 ≡ the_int → Resumes (NewInt c) (Ok (Value v)) w w (End (Ok (Value v)))
  int-same w is = resumes-end (NewInt c) (Ok (Value v)) w w (Ok (Value v)) (λ t q. q) (λ t.
      let u = plain t w in
      ap (λ b. cond b (Ends u (value v)) (int_of_class u c.0 (number_of (datum_at u v)))) (eq-eqb c.0 the_int is))

  int-other : (t : Reading) (u : PlainWorld) (z : Option ℤ) → (c.0 ≡ the_int → ⊥) → number_of (datum_at u v) ≡ z → conversion_stands t (NewInt c) (value v) u [] ≡ int_of_class u c.0 z
  int-other t u z not is =
      ap (λ b. cond b (Ends u (value v)) (int_of_class u c.0 (number_of (datum_at u v)))) (ne_eqb c.0 the_int not)
      ∙ ap (int_of_class u c.0) is

  pub int-none : (w : World) → (c.0 ≡ the_int → ⊥) → ((t : Reading) → number_of (datum_at (plain t w) v) ≡ None) → Resumes (NewInt c) (Ok (Value v)) w w (End (Err (raised SelfType)))
  int-none w not is = resumes-end (NewInt c) (Ok (Value v)) w w (Err (raised SelfType)) (λ t q. q) (λ t. int-other t (plain t w) None not (is t))

  pub int-new : (old new : World) (z : ℤ) (r : PyObjectRef) → (c.0 ≡ the_int → ⊥) → ((t : Reading) → number_of (datum_at (plain t old) v) ≡ Some z) → ((t : Reading) → Reads t new → Reads t old) → ((t : Reading) → plain t new ≡ with_node (plain t old) c.0 (ANumber z)) → ((t : Reading) → r ≡ next_node (plain t old) c.0) → Resumes (NewInt c) (Ok (Value v)) old new (End (Ok (Value r)))
  int-new old new z r not is reads made number = resumes-end (NewInt c) (Ok (Value v)) old new (Ok (Value r)) reads (λ t.
      int-other t (plain t old) (Some z) not (is t) ∙ made-so (λ t u. object_made u c.0 (ANumber z)) old new c.0 (λ t. ANumber z) r (λ t. refl) made number t)

  pub str-same : (w : World) → c.0 ≡ the_str → Resumes (NewStr c) (Ok (Value v)) w w (End (Ok (Value v)))
  str-same w is = resumes-end (NewStr c) (Ok (Value v)) w w (Ok (Value v)) (λ t q. q) (λ t.
      let u = plain t w in
      ap (λ b. cond b (Ends u (value v)) (object_made u c.0 (AText (text_at u v)))) (eq-eqb c.0 the_str is))

  pub str-new : (old new : World) (x : Text) (r : PyObjectRef) → (c.0 ≡ the_str → ⊥) → ((t : Reading) → text_at (plain t old) v ≡ x) → ((t : Reading) → Reads t new → Reads t old) → ((t : Reading) → plain t new ≡ with_node (plain t old) c.0 (AText x)) → ((t : Reading) → r ≡ next_node (plain t old) c.0) → Resumes (NewStr c) (Ok (Value v)) old new (End (Ok (Value r)))
  str-new old new x r not is reads made number = resumes-end (NewStr c) (Ok (Value v)) old new (Ok (Value r)) reads (λ t.
      let u = plain t old in
      ap (λ b. cond b (Ends u (value v)) (object_made u c.0 (AText (text_at u v)))) (ne_eqb c.0 the_str not)
      ∙ ap (λ x. object_made u c.0 (AText x)) (is t)
      ∙ made-so (λ t u. object_made u c.0 (AText x)) old new c.0 (λ t. AText x) r (λ t. refl) made number t)

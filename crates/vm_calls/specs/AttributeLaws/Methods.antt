-- Methods that are loaded to be called at once.
use Rattle.vm_calls.specs.Below.{ℕ, suc, true, false, List, [], Option, Some, Ok, PyObjectRef, BuiltIn, NativeEntry, place_of, flags_of, heap_type, method_descriptor, Text, Class, has_flag, Datum, AMethod, ABuiltinMethod, AMethodDescriptor, PlainWorld, PlainTask, Bindings, AttributeJob, DescriptorJob, DoGetAttr, DoLoadMethod, DoInvoke, DoCall, ToAttribute, ToDescriptor, ToCall, AsFunction, Told, Asks, Ends, Saying, class_at, datum_at, with_node, next_node, the_none_type, the_method, the_builtin_method, native_task, none, value, IsSound, answer, Out, Over, flags_at, is_marked_heap, attribute_say, descriptor_say, call_job_say}
use Rattle.std.specs.Prelude.{◌≡◌, ◌<◌, ◌∷◌, ◌⊎◌}
use Rattle.py_node.specs.declared.built_in.BuiltIn.TheVariants as built_in
use Rattle.class_model.specs.Class.{class_at as class_numbered}

-- tasks of attributes and of descriptors go by their rows
pub record GoesByRows (say : Saying PlainTask) : Type 0 where
  pub attributes : (w : PlainWorld) (job : AttributeJob) (told : Told) → say w (ToAttribute job) told ≡ attribute_say w job told
  pub descriptors : (w : PlainWorld) (job : DescriptorJob) (told : Told) → say w (ToDescriptor job) told ≡ descriptor_say w job told

-- a sound world where the built-in classes have the flags of their table, None is of its own class, and no class that a script made marks its objects as methods
pub record IsUsual (w : PlainWorld) : Type 0 where
  pub sound : IsSound w
  pub flags : (b : BuiltIn) (k : Class Text) → class_numbered w.classes (place_of b) ≡ Some k → k.flags ≡ flags_of b
  pub of_none : class_at w none ≡ Some the_none_type
  pub unmarked : (c n : ℕ) → flags_at w.classes c ≡ Some n → is_marked_heap n ≡ false

-- an object's class is built in, was made by a script, or doesn't mark its objects as methods: so it is unless a host made a static class that marks them
abbrev pub IsBuiltIn : PlainWorld → PyObjectRef → Type 0
IsBuiltIn w a = (b : BuiltIn) × (class_at w a ≡ Some (place_of b))

abbrev pub IsScripted : PlainWorld → PyObjectRef → Type 0
IsScripted w a = (c : ℕ) × (k : Class Text) × (class_at w a ≡ Some c) × (class_numbered w.classes c ≡ Some k) × (has_flag heap_type k ≡ true)

abbrev pub IsUnmarked : PlainWorld → PyObjectRef → Type 0
IsUnmarked w a = (c : ℕ) × (k : Class Text) × (class_at w a ≡ Some c) × (class_numbered w.classes c ≡ Some k) × (has_flag method_descriptor k ≡ false)

abbrev pub IsKnown : PlainWorld → PyObjectRef → Type 0
IsKnown w a = IsBuiltIn w a ⊎ (IsScripted w a ⊎ IsUnmarked w a)

-- the method that is made of an object and what its class has under a name: its class, and what it holds. A native is bound with its name, its class and its doc
abbrev pub method_class : Option Datum → ℕ
method_class (Some (AMethodDescriptor k y n flags doc)) = the_builtin_method
method_class d = the_method

abbrev pub method_made : Option Datum → PyObjectRef → PyObjectRef → Datum
method_made (Some (AMethodDescriptor k y n flags doc)) o a = ABuiltinMethod y n o k doc
method_made d o a = AMethod o a

-- where a method is loaded as a function with a target, nothing has changed, the target is the object itself, and reading the attribute makes a new method of just the object and the function, and answers with that. Two units are spent
abbrev pub ReadIsAMethod : Type 0
ReadIsAMethod =
    (say : Saying PlainTask) (w u : PlainWorld) (o p a : PyObjectRef) (x : Text) (left depth : ℕ) →
    GoesByRows say → IsUsual w → IsKnown w a → suc (suc depth) < 1000 →
    attribute_say w (DoLoadMethod o x) [] ≡ Ends u (Ok (AsFunction p a)) →
    (u ≡ w) × (p ≡ o) × (
    let c = method_class (datum_at w a) in
    answer say w (ToAttribute (DoGetAttr o x)) (suc (suc left)) depth ≡ Out (with_node w c (method_made (datum_at w a) o a)) (Over (value (next_node w c))) left
    )

-- a function that was loaded with its target is called with that before the arguments
abbrev pub TargetIsFirst : Type 0
TargetIsFirst =
    (w : PlainWorld) (o a : PyObjectRef) (args : List PyObjectRef) (kw : Bindings) →
    attribute_say w (DoInvoke (Some o) a args kw) [] ≡ Asks w [] (ToCall (DoCall a (o ∷ args) kw))

-- the call of a method of an object and a function asks just that call
abbrev pub MethodAsksIt : Type 0
MethodAsksIt =
    (w : PlainWorld) (m o a : PyObjectRef) (args : List PyObjectRef) (kw : Bindings) →
    IsUsual w → class_at w m ≡ Some the_method → datum_at w m ≡ Some (AMethod o a) →
    call_job_say w (DoCall m args kw) [] ≡ Asks w [] (ToCall (DoCall a (o ∷ args) kw))

-- the call of a native that is bound to an object asks what that call asks: the native, with the object first
abbrev pub NativeIsAsked : Type 0
NativeIsAsked =
    (w : PlainWorld) (m o a : PyObjectRef) (args : List PyObjectRef) (kw : Bindings) (k flags : ℕ) (y : Text) (n : NativeEntry) (doc : Option Text) →
    IsUsual w → class_at w m ≡ Some the_builtin_method → datum_at w m ≡ Some (ABuiltinMethod y n o k doc) →
    class_at w a ≡ Some (place_of built_in.MethodDescriptor) → datum_at w a ≡ Some (AMethodDescriptor k y n flags doc) →
    (call_job_say w (DoCall m args kw) [] ≡ Asks w [] (native_task n (o ∷ args) kw))
    × (call_job_say w (DoCall a (o ∷ args) kw) [] ≡ Asks w [] (native_task n (o ∷ args) kw))

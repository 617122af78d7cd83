-- Variables and scopes, by the numbers of names.
use Rattle.class_world.specs.Below.{List, [], Option, Some, None, PyObjectRef, PyStrInterned, value_of, is_same_name, or_else_var}
use Rattle.std.specs.Prelude.{◌∷◌}
use Rattle.py_node.specs.Attributes.{with_value}
use Rattle.class_world.specs.declared.scope.Scope.{Scope}

-- a variable of the last of some scopes
abbrev pub last_value : List Scope → PyStrInterned → Option PyObjectRef
last_value [] x = None
last_value (s ∷ []) x = value_of (λ k. is_same_name k x) s.vars
last_value (s ∷ (u ∷ ss)) x = last_value (u ∷ ss) x

-- the function of the last of some scopes
abbrev pub last_function : List Scope → Option PyObjectRef
last_function [] = None
last_function (s ∷ []) = Some s.func
last_function (s ∷ (u ∷ ss)) = last_function (u ∷ ss)

-- a variable of the running body, or else of the machine
abbrev pub value_in : List Scope → List (PyStrInterned × PyObjectRef) → PyStrInterned → Option PyObjectRef
value_in ss vars x = or_else_var (last_value ss x) (value_of (λ k. is_same_name k x) vars)

-- the machine's variables, where no body runs, with one more
abbrev pub bound_vars : List Scope → List (PyStrInterned × PyObjectRef) → PyStrInterned → PyObjectRef → List (PyStrInterned × PyObjectRef)
bound_vars [] vars x r = with_value is_same_name vars x r
bound_vars (s ∷ ss) vars x r = vars

-- the last of some scopes with one more variable
abbrev pub bound_scopes : List Scope → PyStrInterned → PyObjectRef → List Scope
bound_scopes [] x r = []
bound_scopes (s ∷ []) x r = record s { vars = with_value is_same_name s.vars x r } ∷ []
bound_scopes (s ∷ (u ∷ ss)) x r = s ∷ bound_scopes (u ∷ ss) x r

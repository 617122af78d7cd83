-- What is taken is what the arguments are.
use Rattle.native_containers.proofs.Below.{Bool, true, false, cond, List, [], Ok, PyObjectRef, SelfType, PlainWorld, Bindings, AsObjects, Said, Ends, fault, with_one, with_two, with_three, datum_at, Kind, is_of, with_lone, with_own_and, with_own_and_two}
use Rattle.std.proofs.Common.{◌≡◌, ◌∷◌}

-- ends with what was taken
abbrev told : PlainWorld → List PyObjectRef → Said
told w rs = Ends w (Ok (AsObjects rs))

one-taken : (w : PlainWorld) (b : Bool) (x : PyObjectRef) (rest : List PyObjectRef) (kw : Bindings) (o : PyObjectRef) → cond b (with_one w (x ∷ rest) kw (λ a. told w (x ∷ []))) (Ends w (fault SelfType)) ≡ told w (o ∷ []) → x ∷ rest ≡ o ∷ []
one-taken w false x rest kw o e = cc
one-taken w true x [] [] o e = cc
one-taken w true x [] (k ∷ kw) o e = cc
one-taken w true x (y ∷ rest) kw o e = cc

-- the first of them is the object, whatever is taken by the way
pub lone-arguments : (k : Kind) (w : PlainWorld) (args : List PyObjectRef) (kw : Bindings) (o : PyObjectRef) → ((go : PyObjectRef → Said) → with_lone k w args kw go ≡ go o) → args ≡ o ∷ []
lone-arguments k w [] kw o h = let e = h (λ a. told w (a ∷ [])) in cc
lone-arguments k w (x ∷ rest) kw o h = one-taken w (is_of k (datum_at w x)) x rest kw o (h (λ a. told w (a ∷ [])))

two-taken : (w : PlainWorld) (b : Bool) (x : PyObjectRef) (rest : List PyObjectRef) (kw : Bindings) (o a : PyObjectRef) → cond b (with_two w (x ∷ rest) kw (λ a b. told w (x ∷ b ∷ []))) (Ends w (fault SelfType)) ≡ told w (o ∷ a ∷ []) → x ∷ rest ≡ o ∷ a ∷ []
two-taken w false x rest kw o a e = cc
two-taken w true x [] kw o a e = cc
two-taken w true x (y ∷ []) [] o a e = cc
two-taken w true x (y ∷ []) (k ∷ kw) o a e = cc
two-taken w true x (y ∷ z ∷ rest) kw o a e = cc

pub two-arguments : (k : Kind) (w : PlainWorld) (args : List PyObjectRef) (kw : Bindings) (o a : PyObjectRef) → ((go : PyObjectRef → PyObjectRef → Said) → with_own_and k w args kw go ≡ go o a) → args ≡ o ∷ a ∷ []
two-arguments k w [] kw o a h = let e = h (λ a b. told w (a ∷ b ∷ [])) in cc
two-arguments k w (x ∷ rest) kw o a h = two-taken w (is_of k (datum_at w x)) x rest kw o a (h (λ a b. told w (a ∷ b ∷ [])))

three-taken : (w : PlainWorld) (b : Bool) (x : PyObjectRef) (rest : List PyObjectRef) (kw : Bindings) (o a v : PyObjectRef) → cond b (with_three w (x ∷ rest) kw (λ a b c. told w (x ∷ b ∷ c ∷ []))) (Ends w (fault SelfType)) ≡ told w (o ∷ a ∷ v ∷ []) → x ∷ rest ≡ o ∷ a ∷ v ∷ []
three-taken w false x rest kw o a v e = cc
three-taken w true x [] kw o a v e = cc
three-taken w true x (y ∷ []) kw o a v e = cc
three-taken w true x (y ∷ z ∷ []) [] o a v e = cc
three-taken w true x (y ∷ z ∷ []) (k ∷ kw) o a v e = cc
three-taken w true x (y ∷ z ∷ u ∷ rest) kw o a v e = cc

pub three-arguments : (k : Kind) (w : PlainWorld) (args : List PyObjectRef) (kw : Bindings) (o a v : PyObjectRef) → ((go : PyObjectRef → PyObjectRef → PyObjectRef → Said) → with_own_and_two k w args kw go ≡ go o a v) → args ≡ o ∷ a ∷ v ∷ []
three-arguments k w [] kw o a v h = let e = h (λ a b c. told w (a ∷ b ∷ c ∷ [])) in cc
three-arguments k w (x ∷ rest) kw o a v h = three-taken w (is_of k (datum_at w x)) x rest kw o a v (h (λ a b c. told w (a ∷ b ∷ c ∷ [])))

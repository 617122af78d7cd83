-- What is listed of the attributes of a class.
use Rattle.proto_attr.proofs.Below.{ℕ, true, cond, [], Option, Some, None, sym, ap, ◌∙◌, IfSome, option_map, Annotations, NoAttribute, PyObjectRef, known_text, Text, class_at as class_numbered, own_of, attrs_of, is_heap_at, the_dict, ADict, Bindings, PlainWorld, Ends, value, fault, is_text, next_node, with_node, with_own_attr, Held, AllHold, Holds, IsNode, of_node_ref, of_option, annotations, given_annotations}
use Rattle.std.proofs.Common.{◌≡◌}
use Rattle.class_model.specs.Class.{Class}

pub attrs-there : (o : Option (Class Text)) (bs : Bindings) → option_map (λ k. k.attrs) o ≡ Some bs → attrs_of o ≡ bs
attrs-there None bs e = cc
attrs-there (Some k) bs e = cc

-- a class that a script made
pub heap-annotations : (u : PlainWorld) (c : ℕ) (x : Text) (o : Option PyObjectRef) → is_heap_at (class_numbered u.classes c) ≡ true → x ≡ known_text Annotations → own_of (λ y. is_text y x) (class_numbered u.classes c) ≡ o → annotations u c ≡ given_annotations u c o
heap-annotations u c x o h e k =
    let a = known_text Annotations in
    ap (λ b. cond b (given_annotations u c (own_of (λ y. is_text y a) (class_numbered u.classes c))) (Ends u (fault NoAttribute))) h
    ∙ ap (λ z. given_annotations u c (own_of (λ y. is_text y z) (class_numbered u.classes c))) (sym e)
    ∙ ap (given_annotations u c) k

-- a new dict becomes its own attribute
pub new-annotations : (u new : PlainWorld) (c : ℕ) (x : Text) (d : PyObjectRef) → x ≡ known_text Annotations → new ≡ with_own_attr (with_node u the_dict (ADict [])) c x (next_node u the_dict) → d ≡ next_node u the_dict → given_annotations u c None ≡ Ends new (value d)
new-annotations u new c x d e m n =
    ap (λ y. Ends (with_own_attr (with_node u the_dict (ADict [])) c y (next_node u the_dict)) (value (next_node u the_dict))) (sym e)
    ∙ ap (λ v. Ends v (value (next_node u the_dict))) (sym m)
    ∙ ap (λ r. Ends new (value r)) (sym n)

pub some-holds : (w : Held) (o : Option PyObjectRef) → IfSome o (λ d. Holds w (IsNode d)) → AllHold w (of_option of_node_ref o)
some-holds w None h = tt
some-holds w (Some d) h = (h, tt)

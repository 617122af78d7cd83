-- The fixed objects and the built-in classes are there.
use Rattle.class_world.proofs.Below.{ℕ, true, false, length, Some, None, refl, sym, ap, subst, ◌∙◌, arith, lit<, slice_get, PyObjectRef, BuiltIn, PyTypeRef, place_of, flags_of, built_in_flags, all_built_ins, holds_as, is_class, has_dict, Held, IsNode, IsClass, IsOf, GetsDict, Holds, Sound, Fixed, number_of_fixed}
use Rattle.std.proofs.Common.{◌≡◌, ◌<◌}
use Rattle.class_world.proofs.Growth.{says, says-dict}
use Rattle.class_world.specs.declared.built_ins.Fixed.TheVariants as fixed
use Rattle.py_node.specs.declared.built_in.BuiltIn.TheVariants as built_in

fixed-low : (o : Fixed) → number_of_fixed o < 27
fixed-low fixed.None = lit< tt
fixed-low fixed.NotImplemented = lit< tt
fixed-low fixed.False = lit< tt
fixed-low fixed.True = lit< tt

place-low : (b : BuiltIn) → place_of b < 23
unfolding place_of
place-low built_in.Object = lit< tt
place-low built_in.TypeType = lit< tt
place-low built_in.NoneType = lit< tt
place-low built_in.NotImplementedType = lit< tt
place-low built_in.Int = lit< tt
place-low built_in.Bool = lit< tt
place-low built_in.Str = lit< tt
place-low built_in.Tuple = lit< tt
place-low built_in.List = lit< tt
place-low built_in.Dict = lit< tt
place-low built_in.Function = lit< tt
place-low built_in.Method = lit< tt
place-low built_in.BuiltinFunctionOrMethod = lit< tt
place-low built_in.BuiltinMethod = lit< tt
place-low built_in.MethodDescriptor = lit< tt
place-low built_in.GetSetDescriptor = lit< tt
place-low built_in.MemberDescriptor = lit< tt
place-low built_in.Property = lit< tt
place-low built_in.ClassMethod = lit< tt
place-low built_in.StaticMethod = lit< tt
place-low built_in.Super = lit< tt
place-low built_in.Iterator = lit< tt
place-low built_in.Slice = lit< tt

pub place-at : (b : BuiltIn) → slice_get all_built_ins (place_of b) ≡ Some b
unfolding place_of all_built_ins
place-at built_in.Object = refl
place-at built_in.TypeType = refl
place-at built_in.NoneType = refl
place-at built_in.NotImplementedType = refl
place-at built_in.Int = refl
place-at built_in.Bool = refl
place-at built_in.Str = refl
place-at built_in.Tuple = refl
place-at built_in.List = refl
place-at built_in.Dict = refl
place-at built_in.Function = refl
place-at built_in.Method = refl
place-at built_in.BuiltinFunctionOrMethod = refl
place-at built_in.BuiltinMethod = refl
place-at built_in.MethodDescriptor = refl
place-at built_in.GetSetDescriptor = refl
place-at built_in.MemberDescriptor = refl
place-at built_in.Property = refl
place-at built_in.ClassMethod = refl
place-at built_in.StaticMethod = refl
place-at built_in.Super = refl
place-at built_in.Iterator = refl
place-at built_in.Slice = refl

pub fixed-holds : (w now : Held) (o : Fixed) (r : PyObjectRef) → w ≡ now → Sound w → r.0 ≡ number_of_fixed o → Holds now (IsNode r)
unfolding Holds
fixed-holds w now o r v s e = let l = fixed-low o in let m = s.fixed in subst (λ w. r.0 < length w.nodes) v (omega arith)

pub built_in-holds : (w now : Held) (b : BuiltIn) (c : ℕ) → w ≡ now → Sound w → c ≡ place_of b → Holds now (IsClass c)
unfolding Holds
built_in-holds w now b c v s e = let l = place-low b in subst (λ w. is_class w.classes c ≡ true) v (s.built_in c (omega (arith, l, e)))

pub built_in_node-holds : (w now : Held) (b : BuiltIn) (r : PyObjectRef) → w ≡ now → Sound w → r.0 ≡ place_of b → Holds now (IsNode r)
unfolding Holds
built_in_node-holds w now b r v s e = let l = place-low b in let m = s.fixed in subst (λ w. r.0 < length w.nodes) v (omega arith)

pub built_in-of : (w now : Held) (b : BuiltIn) (c : ℕ) → w ≡ now → Sound w → c ≡ place_of b → Holds now (IsOf c (holds_as b))
built_in-of w now b c v s e = subst (λ w. Holds w (IsOf c (holds_as b))) v (subst (λ c. Holds w (IsOf c (holds_as b))) (sym e) (s.own b))

-- the dicts have none themselves
plain-dict : says (Some (flags_of built_in.Dict)) ≡ false
unfolding flags_of built_in_flags place_of says
plain-dict = refl

pub dict-none : (w now : Held) (c : PyTypeRef) → w ≡ now → Sound w → c.0 ≡ place_of built_in.Dict → Holds now (GetsDict None c.0 false)
unfolding Holds
dict-none w now c v s e =
    let l = place-low built_in.Dict in
    let none : has_dict w.classes (place_of built_in.Dict) ≡ false = says-dict w.classes (place_of built_in.Dict) ∙ ap says (s.flags built_in.Dict) ∙ plain-dict in
    let there : is_class w.classes c.0 ≡ true = s.built_in c.0 (omega (arith, l, e)) in
    subst (λ w. Holds w (GetsDict None c.0 false)) v (there, sym (ap (has_dict w.classes) e ∙ none))

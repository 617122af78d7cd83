-- What a loaded method says of the row of the attribute.
use Rattle.vm_calls.proofs.Below.{ℕ, Bool, true, false, cond, [], Option, Some, None, Ok, refl, sym, ap, ◌∙◌, subst, option_and_then, false≢true, PyObjectRef, SlotId, Getattro, SlotEntry, Native, OfObject, Text, Found, Descriptor, Missing, PlainWorld, Said, Asks, Ends, DoLoadMethod, AsFunction, slot, natives_of, class_at, slot_at, text_keys, special_at, is_fast, own_value, attribute_say, find, load, load_by, load_fast, load_found}
use Rattle.std.proofs.Common.{◌≡◌}
use Rattle.py_node.specs.declared.entry.ObjectNative.TheVariants as object
use Rattle.proto_attr.specs.declared.find.Found.TheVariants.{Value}

-- what is so where a method is loaded as a function with a target
pub record Loaded (w u : PlainWorld) (o p a : PyObjectRef) (x : Text) : Type 0 where
  pub same : u ≡ w
  pub target : p ≡ o
  pub entry : slot_at w o Getattro ≡ Some (Native (OfObject object.GetAttribute))
  pub found : special_at w o x ≡ Some a
  pub fast : is_fast w a ≡ true
  pub own : own_value w o x ≡ None

abbrev is_ask : Said → Bool
is_ask (Asks w learnt task) = true
is_ask (Ends w r) = false

not-asked : (s : Said) (u : PlainWorld) (p a : PyObjectRef) → s ≡ Ends u (Ok (AsFunction p a)) → is_ask s ≡ true → ⊥
not-asked s u p a e h = false≢true (sym (ap is_ask e) ∙ h)

not-found : (w u : PlainWorld) (o p a : PyObjectRef) (f : Found) → load_found w o f ≡ Ends u (Ok (AsFunction p a)) → ⊥
not-found w u o p a (Descriptor b) e = not-asked _ u p a e refl
not-found w u o p a (Value v) e = cc
not-found w u o p a Missing e = cc

by-fast : (w u : PlainWorld) (o p a : PyObjectRef) (class own : Option PyObjectRef) → load_by w o class own ≡ Ends u (Ok (AsFunction p a)) → (u ≡ w) × (p ≡ o) × (class ≡ Some a) × (is_fast w a ≡ true) × (own ≡ None)
by-fast w u o p a None own e = absurd (not-found w u o p a (find w None own) e)
by-fast w u o p a (Some b) own e = go (is_fast w b) refl own e
  where
    go : (fast : Bool) → is_fast w b ≡ fast → (own : Option PyObjectRef) → cond fast (load_fast w o b own) (load_found w o (find w (Some b) own)) ≡ Ends u (Ok (AsFunction p a)) → (u ≡ w) × (p ≡ o) × (Some b ≡ Some a) × (is_fast w a ≡ true) × (own ≡ None)
    go true f None e = let same : b ≡ a = cc in (cc, cc, cc, subst (λ c. is_fast w c ≡ true) same f, refl)
    go true f (Some v) e = absurd (let no : ⊥ = cc in no)
    go false f own e = absurd (not-found w u o p a (find w (Some b) own) e)

by-entry : (w u : PlainWorld) (e : Option SlotEntry) (o p a : PyObjectRef) (x : Text) → load w e o x ≡ Ends u (Ok (AsFunction p a)) → (e ≡ Some (Native (OfObject object.GetAttribute))) × (load_by w o (special_at w o x) (own_value w o x) ≡ Ends u (Ok (AsFunction p a)))
by-entry w u (Some (Native (OfObject object.GetAttribute))) o p a x h = (refl, h)
by-entry w u _ o p a x h = absurd (not-asked _ u p a h refl)

pub loaded : (w u : PlainWorld) (o p a : PyObjectRef) (x : Text) → attribute_say w (DoLoadMethod o x) [] ≡ Ends u (Ok (AsFunction p a)) → Loaded w u o p a x
unfolding attribute_say
loaded w u o p a x h =
    let e = by-entry w u (slot_at w o Getattro) o p a x h in
    let f = by-fast w u o p a (special_at w o x) (own_value w o x) e.1 in
    record { same = f.0; target = f.1; entry = e.0; found = f.2; fast = f.3; own = f.4 }

-- an object has a class that has an entry
pub has-class : (w : PlainWorld) (o : PyObjectRef) (s : SlotId) (e : SlotEntry) → slot_at w o s ≡ Some e → (c : ℕ) × (class_at w o ≡ Some c)
has-class w o s e h = go (class_at w o) refl h
  where
    go : (k : Option ℕ) → class_at w o ≡ k → option_and_then (λ c. slot text_keys natives_of w.classes c s) k ≡ Some e → (c : ℕ) × (class_at w o ≡ Some c)
    go None q h = cc
    go (Some c) q h = (c, q)

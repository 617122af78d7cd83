-- A change that is made to the classes that a log shows but for their names is one that the log shows next.
use Rattle.class_table.proofs.Below.{ℕ, zero, suc, Bool, true, false, cond, List, [], map, fold, Option, Some, None, Result, Ok, Err, OnOk, OnErr, refl, sym, ap, ◌∙◌, subst, rules, bit_and, map-append, NotBaseType, PyStrInterned, PyObjectRef, PyTypeRef, PyTypeFlags, Vec, is_same_name, with_value, without_key, heap_flags, heap_type, Text, Class, Classes, class_at, is_class, with_class, with_class_attr, without_class_attr, with_class_name, with_bases, any_has_dict, has_dict, heap_class, slots_bring, slot_members, limit, AreSound, numbers, table_keys, refused_single, says_so, single_class, static_flags, refused_rebase, AreThere, is_base_at, refused_attr, refused_bases, start_classes, ClassChange, Made, Change, Make, SetOwn, DelOwn, SetBases, change_of, made_of, Keeps, CanFollow, is_of_script, static_class, made_class, changed, shown, first_classes, IsOfItsKind, IsFit, by_cause, refused_static, refused_made, refused, IsMade, AreMade, unnamed, AreSameButForNames, IsLogged, made_by_script, made_single, IsGivenTo, IsGiven}
use Rattle.std.proofs.Common.{◌≡◌, ◌≤◌, ◌||◌, ◌∷◌, ◌++◌}
use Rattle.std.specs.Prelude.{◌==◌}
use Rattle.class_table.specs.Keys.{slot_names}
use Rattle.class_table.proofs.Single.{one-allowed}
use Rattle.class_table.specs.ClassLog.Following.{BeginsWith}
use Rattle.class_table.proofs.ClassLog.Followed.{shown-added}
use Rattle.class_table.proofs.ClassLog.Unnamed.{unnamed-push, unnamed-changed, unnamed-called, bases-unnamed, limit-unnamed, class-unnamed, dicts-unnamed, bases-refused, attr-refused, single-refused, rebase-refused}

abbrev HeldClasses : Type 0
HeldClasses = Classes PyStrInterned

-- what doesn't see names sees the same of two lists that are alike
alike : {A : Type 0} (f : HeldClasses → A) → ((t : HeldClasses) → f (map unnamed t) ≡ f t) → (t u : HeldClasses) → AreSameButForNames t u → f t ≡ f u
alike f h t u e = sym (h t) ∙ ap f e ∙ h u

-- a class that is made depends on the others only by whether its bases give a dict
abbrev class_by : Made → Bool → Class PyStrInterned
class_by m d = cond (is_of_script m) (record { name = m.name; number = m.class; bases = m.bases; attrs = m.attrs; members = slot_members table_keys m.slots; flags = heap_flags (slots_bring table_keys m.slots || d); brings = slots_bring table_keys m.slots }) (record { name = m.name; number = m.class; bases = m.bases; attrs = m.attrs; members = []; flags = static_flags m.flags d; brings = says_so m.flags })

made-by : (m : Made) (t u : HeldClasses) → any_has_dict t m.bases ≡ any_has_dict u m.bases → made_class t m ≡ made_class u m
made-by m t u e = ap (class_by m) e

module _ (t u : HeldClasses) (e : AreSameButForNames t u) where
  pub changed-alike : (c : Change) → AreSameButForNames (changed t c) (changed u c)
  changed-alike (Make m) =
      let same = made-by m t u (alike (λ v. any_has_dict v m.bases) (λ v. dicts-unnamed v m.bases) t u e) in
      unnamed-push t (made_class t m)
      ∙ ap (λ (v : HeldClasses). v ++ unnamed (made_class t m) ∷ []) e
      ∙ ap (λ (k : Class PyStrInterned). map unnamed u ++ unnamed k ∷ []) same
      ∙ sym (unnamed-push u (made_class u m))
  changed-alike (SetOwn c n v) =
      let f : Class PyStrInterned → Class PyStrInterned = λ k. record k { attrs = with_value is_same_name k.attrs n v } in
      unnamed-changed f (λ k. refl) t c ∙ ap (λ (z : HeldClasses). with_class_attr is_same_name z c n v) e ∙ sym (unnamed-changed f (λ k. refl) u c)
  changed-alike (DelOwn c n) =
      let f : Class PyStrInterned → Class PyStrInterned = λ k. record k { attrs = without_key is_same_name k.attrs n } in
      unnamed-changed f (λ k. refl) t c ∙ ap (λ (v : HeldClasses). without_class_attr is_same_name v c n) e ∙ sym (unnamed-changed f (λ k. refl) u c)
  changed-alike (SetBases c bs) = bases-unnamed t c bs ∙ ap (λ (v : HeldClasses). with_bases v c bs) e ∙ sym (bases-unnamed u c bs)

  class-alike : (c : ℕ) → is_class t c ≡ is_class u c
  class-alike c = alike (λ v. is_class v c) (λ v. class-unnamed v c) t u e

  there-alike : (bs : List ℕ) → AreThere u bs → AreThere t bs
  there-alike [] h = tt
  there-alike (b ∷ bs) h = (class-alike b ∙ h.0, there-alike bs h.1)

  kind-alike : (m : Made) (b : Bool) → IsOfItsKind u m b → IsOfItsKind t m b
  kind-alike m true h =
      h ∙ ap (λ d. heap_flags (slots_bring table_keys m.slots || d)) (sym (alike (λ v. any_has_dict v m.bases) (λ v. dicts-unnamed v m.bases) t u e))
  kind-alike m false h = h

  fit-alike : (c : Change) → IsFit u c → IsFit t c
  fit-alike (Make m) h = record {
    fresh = subst (λ n. n ≤ m.class) (sym (alike limit limit-unnamed t u e)) h.fresh;
    bases = there-alike m.bases h.bases;
    kind = kind-alike m (is_of_script m) h.kind;
  }
  fit-alike (SetOwn c n v) h = class-alike c ∙ h
  fit-alike (DelOwn c n) h = class-alike c ∙ h
  fit-alike (SetBases c bs) h = (class-alike c ∙ h.0, there-alike bs h.1)

static-refused : (t : HeldClasses) (bs : List ℕ) → refused_static (map unnamed t) bs ≡ refused_static t bs
static-refused t [] = refl
static-refused t (b ∷ bs) = ap (λ v. cond v None (Some NotBaseType)) (single-refused t b)

made-refused : (t : HeldClasses) (m : Made) → refused_made (map unnamed t) m ≡ refused_made t m
made-refused t m =
    ap (λ o. cond (is_of_script m) o (refused_static (map unnamed t) m.bases)) (bases-refused t m.bases)
    ∙ ap (λ o. cond (is_of_script m) (refused_bases t m.bases) o) (static-refused t m.bases)

refused-unnamed : (t : HeldClasses) (c : Change) → refused (map unnamed t) c ≡ refused t c
refused-unnamed t (Make m) = ap by_cause (made-refused t m)
refused-unnamed t (SetOwn c n v) = ap by_cause (attr-refused t c)
refused-unnamed t (DelOwn c n) = ap by_cause (attr-refused t c)
refused-unnamed t (SetBases c bs) = rebase-refused t c bs

made-alike : (t u : HeldClasses) → AreSameButForNames t u → (c : Change) → IsMade u c → IsMade t c
made-alike t u e c h = record {
  fit = fit-alike t u e c h.fit;
  passes = alike (λ v. refused v c) (λ v. refused-unnamed v c) t u e ∙ h.passes;
}

-- one more change
more-made : (t : HeldClasses) (log : List Change) (c : Change) → AreMade t log → IsMade (fold changed t log) c → AreMade t (log ++ c ∷ [])
more-made t [] c h m = (m, tt)
more-made t (d ∷ log) c h m = (h.0, more-made (changed t d) log c h.1 m)

pub logged-more : (log : List Change) (t : HeldClasses) (c : Change) → IsMade t c → IsLogged log t → IsLogged (log ++ c ∷ []) (changed t c)
logged-more log t c m h = record {
  made = more-made first_classes log c h.made (made-alike (shown log) t h.same c m);
  same = subst (λ u. AreSameButForNames u (changed t c)) (sym (shown-added log c)) (changed-alike (shown log) t h.same c);
}

-- a class gets another name
pub logged-called : (log : List Change) (t : HeldClasses) (c : ℕ) (x : Text) → IsLogged log t → IsLogged log (with_class_name t c x)
logged-called log t c x h = record { made = h.made; same = h.same ∙ sym (unnamed-called t c x) }

-- before any change
pub logged-first : IsLogged [] start_classes
unfolding first_classes
logged-first = record { made = tt; same = refl }

-- a change was made, and noted last
pub logged-made : (log : List Change) (t : HeldClasses) (c : Change) → IsMade t c → (new : List Change) → new ≡ log ++ c ∷ [] → (u : HeldClasses) → u ≡ changed t c → IsLogged log t → IsLogged new u
logged-made log t c m new q u p h = subst (λ v. IsLogged new v) (sym p) (subst (λ l. IsLogged l (changed t c)) (sym q) (logged-more log t c m h))

-- the change is noted where there was room
pub noted : (old mid new : List ClassChange) (x : ClassChange) (log : List Change) → map change_of old ≡ log → mid ≡ old → new ≡ mid ++ x ∷ [] → map change_of new ≡ log ++ change_of x ∷ []
noted old mid new x log v e p =
    ap (λ (cs : List ClassChange). map change_of cs) p
    ∙ map-append change_of mid (x ∷ [])
    ∙ ap (λ (cs : List ClassChange). map change_of cs ++ change_of x ∷ []) e
    ∙ ap (λ (cs : List Change). cs ++ change_of x ∷ []) v

-- the same, by what the change is
pub noted-as : (old mid new : List ClassChange) (x : ClassChange) (c : Change) (log : List Change) → map change_of old ≡ log → mid ≡ old → new ≡ mid ++ x ∷ [] → change_of x ≡ c → map change_of new ≡ log ++ c ∷ []
noted-as old mid new x c log v e p q = noted old mid new x log v e p ∙ ap (λ (d : Change). log ++ d ∷ []) q

-- a script's class and one with one base, as they are copied into a change
pub script-change : (t : HeldClasses) (c : PyTypeRef) (x : Text) (bs ds : List PyTypeRef) (attrs : List (PyStrInterned × PyObjectRef)) (slots : Option (Vec PyStrInterned)) (flags : PyTypeFlags) → ds ≡ bs → flags.0 ≡ heap_flags (slots_bring table_keys (slot_names slots) || any_has_dict t (numbers bs)) → Make (made_of c x ds attrs slots flags) ≡ made_by_script t c.0 x (numbers bs) attrs (slot_names slots)
script-change t c x bs ds attrs slots flags e f =
    λ i. Make (record { class = c.0; name = x; bases = numbers (e i); attrs = attrs; slots = slot_names slots; flags = f i })

pub single-change : (c : PyTypeRef) (x : Text) (b : PyTypeRef) (ds : List PyTypeRef) (attrs : List (PyStrInterned × PyObjectRef)) (given : PyTypeFlags) → ds ≡ b ∷ [] → Make (made_of c x ds attrs None given) ≡ made_single c.0 x b.0 attrs given.0
single-change c x b ds attrs given e =
    λ i. Make (record { class = c.0; name = x; bases = numbers (e i); attrs = attrs; slots = None; flags = given.0 })

-- a change that passes the table's own tests is made
module _ (t : HeldClasses) where
  pub set-made : (c : ℕ) (n : PyStrInterned) (v : PyObjectRef) → is_class t c ≡ true → refused_attr t c ≡ None → IsMade t (SetOwn c n v)
  set-made c n v here may = record { fit = here; passes = ap by_cause may }

  pub taken-made : (c : ℕ) (n : PyStrInterned) → is_class t c ≡ true → refused_attr t c ≡ None → IsMade t (DelOwn c n)
  taken-made c n here may = record { fit = here; passes = ap by_cause may }

  pub rebase-made : (c : ℕ) (bs : List ℕ) → is_class t c ≡ true → AreThere t bs → refused_rebase t c bs ≡ None → IsMade t (SetBases c bs)
  rebase-made c bs here there may = record { fit = (here, there); passes = may }

  scripted : (dict : Bool) → (bit_and (heap_flags dict) heap_type == heap_type) ≡ true
  scripted true = refl
  scripted false = refl

  -- a script's class
  pub heap-made : (n : ℕ) (x : Text) (bs : List ℕ) (attrs : List (PyStrInterned × PyObjectRef)) (slots : Option (List PyStrInterned)) → limit t ≤ n → AreThere t bs → refused_bases t bs ≡ None → IsMade t (made_by_script t n x bs attrs slots)
  heap-made n x bs attrs slots fresh there may =
      let d = slots_bring table_keys slots || any_has_dict t bs in
      let m : Made = record { class = n; name = x; bases = bs; attrs = attrs; slots = slots; flags = heap_flags d } in
      record {
        fit = record { fresh = fresh; bases = there; kind = subst (IsOfItsKind t m) (sym (scripted d)) refl };
        passes = ap by_cause (ap (λ b. cond b (refused_bases t bs) (refused_static t bs)) (scripted d) ∙ may);
      }

  pub heap-changed : (n : ℕ) (x : Text) (bs : List ℕ) (attrs : List (PyStrInterned × PyObjectRef)) (slots : Option (List PyStrInterned)) → with_class t (heap_class table_keys t x n bs attrs slots) ≡ changed t (made_by_script t n x bs attrs slots)
  heap-changed n x bs attrs slots =
      let d = slots_bring table_keys slots || any_has_dict t bs in
      let m : Made = record { class = n; name = x; bases = bs; attrs = attrs; slots = slots; flags = heap_flags d } in
      sym (ap (λ b. t ++ cond b (heap_class table_keys t x n bs attrs slots) (static_class t m) ∷ []) (scripted d))

  -- a class with one base
  module _ (n : ℕ) (x : Text) (b : ℕ) (attrs : List (PyStrInterned × PyObjectRef)) (given flags : ℕ) (brings : Bool) where
    abbrev single : Made
    single = record { class = n; name = x; bases = b ∷ []; attrs = attrs; slots = None; flags = given }

    or-none : (d : Bool) → d ≡ (d || false)
    or-none true = refl
    or-none false = refl

    kind-given : (script : Bool) → IsGivenTo script given flags brings (has_dict t b) → IsOfItsKind t single script
    kind-given true h = h.0
    kind-given false h = (refl, b, refl)

    single-passed : (script : Bool) → AreSound t → is_base_at (class_at t b) ≡ true → cond script (refused_bases t (b ∷ [])) (refused_single t b) ≡ None
    single-passed true ok may = one-allowed t b ok.order may
    single-passed false ok may = ap (λ v. cond v None (Some NotBaseType)) may

    single-class : (script : Bool) → IsGivenTo script given flags brings (has_dict t b) → single_class x n b attrs flags brings ≡ cond script (heap_class table_keys t x n (b ∷ []) attrs None) (static_class t single)
    single-class true h = λ i. single_class x n b attrs (h.1 i) (h.2 i)
    single-class false h =
        ap (λ f. single_class x n b attrs f brings) (h.0 ∙ ap (static_flags given) (or-none (has_dict t b)))
        ∙ ap (single_class x n b attrs (static_flags given (has_dict t b || false))) h.1

    pub single-made : limit t ≤ n → is_class t b ≡ true → AreSound t → is_base_at (class_at t b) ≡ true → IsGiven given flags brings (has_dict t b) → IsMade t (made_single n x b attrs given)
    single-made fresh here ok may h = record {
      fit = record { fresh = fresh; bases = (here, tt); kind = kind-given (is_of_script single) h };
      passes = ap by_cause (single-passed (is_of_script single) ok may);
    }

    pub single-changed : IsGiven given flags brings (has_dict t b) → with_class t (single_class x n b attrs flags brings) ≡ changed t (made_single n x b attrs given)
    single-changed h = ap (λ (k : Class PyStrInterned). t ++ k ∷ []) (single-class (is_of_script single) h)

-- the changes that were there stand in their places
pub keeps-itself : (log : List Change) → Keeps log log
keeps-itself log = λ n c h. h

pub keeps-on : (a b c : List Change) → Keeps a b → Keeps b c → Keeps a c
keeps-on a b c g h = λ n k p. h n k (g n k p)

keeps-push : (log : List Change) (c : Change) → Keeps log (log ++ c ∷ [])
keeps-push [] c n x e = cc
keeps-push (d ∷ log) c zero x e = e
keeps-push (d ∷ log) c (suc n) x e = keeps-push log c n x e

-- one change was noted, or none
pub keeps-more : {A E : Type 0} (old new : List Change) (c : Change) (o : Result A E) → OnOk o (new ≡ old ++ c ∷ []) → OnErr o (new ≡ old) → Keeps old new
keeps-more old new c (Ok a) p q = subst (Keeps old) (sym p) (keeps-push old c)
keeps-more old new c (Err e) p q = subst (Keeps old) (sym q) (keeps-itself old)

-- one was noted where something was taken out
pub keeps-taken : {E : Type 0} (old new : List Change) (c : Change) (o : Result Bool E) → (o ≡ Ok true → new ≡ old ++ c ∷ []) → (o ≡ Ok false → new ≡ old) → OnErr o (new ≡ old) → Keeps old new
keeps-taken old new c (Ok true) p n q = subst (Keeps old) (sym (p refl)) (keeps-push old c)
keeps-taken old new c (Ok false) p n q = subst (Keeps old) (sym (n refl)) (keeps-itself old)
keeps-taken old new c (Err e) p n q = subst (Keeps old) (sym q) (keeps-itself old)

-- so what is after begins with what was before
pub keeps-begins : (old new : List Change) → Keeps old new → BeginsWith old new
keeps-begins [] new h = (new, refl)
keeps-begins (x ∷ old) [] h = let none : None ≡ Some x = h 0 x refl in absurd (search rules)
keeps-begins (x ∷ old) (y ∷ new) h =
    let first : Some y ≡ Some x = h 0 x refl in
    let same : x ≡ y = cc in
    let rest = keeps-begins old new (λ n c e. h (suc n) c e) in
    (rest.0, ap (λ (z : List Change). x ∷ z) rest.1 ∙ ap (λ (z : Change). z ∷ new) same)

-- a class gets another name, or memory ran out
pub named-logged : {A E : Type 0} (log : List Change) (t : HeldClasses) (c : ℕ) (x : Text) (u : HeldClasses) (o : Result A E) → OnOk o (u ≡ with_class_name t c x) → OnErr o (u ≡ t) → IsLogged log t → IsLogged log u
named-logged log t c x u (Ok a) p q h = subst (IsLogged log) (sym p) (logged-called log t c x h)
named-logged log t c x u (Err e) p q h = subst (IsLogged log) (sym q) h

-- what is left of a log past some changes is made in turn to what those show
rest-made : (t : HeldClasses) (done rest : List Change) → AreMade t (done ++ rest) → AreMade (fold changed t done) rest
rest-made t [] rest h = h
rest-made t (d ∷ done) rest h = rest-made (changed t d) done rest h.1

pub follows : (done log : List Change) → BeginsWith done log → AreMade first_classes log → CanFollow done log
follows done log b h = record {
  rest = b.0;
  whole = b.1;
  made = rest-made first_classes done b.0 (subst (AreMade first_classes) (sym b.1) h);
}

pub follows-kept : (done log : List Change) → Keeps done log → AreMade first_classes log → CanFollow done log
follows-kept done log k h = follows done log (keeps-begins done log k) h

-- The rows of what all objects can do answer of their kinds.
use Rattle.vm_calls.proofs.Below.{Bool, Err, List, None, Ok, Option, Some, cond, eqb, false, map, suc, true, zero, ℕ, ℤ, [], PyObjectRef, Cause, ClassArg, ReprType, StrType, FormatType, Hash, Repr, SlotEntry, Known, keyed, text_of, kind_of_object, kind_of, object_job_say, attribute, way_of, by_way, is_instance_say, is_subclass_say, on_bases, inst_by, other_class, abstract_by, inst_rest, inst_say, sub_by, sub_say, tuple_once, abs_sub_by, abs_sub_say, is_none, hash_entry, hash_by, hashed, hash_rest, hash_say, text_or_fault, text_only, repr_by, repr_say, str_by, str_say, is_unspecified, format_by, format_say, attributes_for, own_keys, other_keys, dir_by, dir_say, says, any_of, is_exactly, items_at, Datum, ATuple, AList, Bindings, PlainWorld, DoSpecial, DoIsTrue, ObjectJob, DoHash, DoRepr, DoStr, DoFormat, DoDir, DoIsInstance, DoInst, DoIsSubclass, DoSub, DoAbsSub, PlainTask, ToAttribute, ToProtocol, ToObject, AsValue, AsNumber, Ended, ReadObjects, Said, Asks, Ends, datum_at, class_at, number_of, slot_at, class_number, special_at, is_instance, the_type, the_str, the_list, Row, start, ask, end, none, pass, fault, is_attribute_error, on_value, noting, dict_of, known_text, Text}
use Rattle.std.proofs.Common.{◌&&◌, ◌++◌, ◌∷◌}
use Rattle.py_node.specs.declared.known.Known.TheVariants as known
use Rattle.vm_calls.specs.AnswerKinds.Kinds as kinds
use Rattle.vm_calls.proofs.AnswerKinds.Base.{So, Fits, within, GoesOn, Kinded, ended, Says, ends, asks, at_once, on_way, stepped, goes-on, started, forked, asking, passed, chosen, read_objects_once, on-value, ended-by, either-fits, IsGiven, for_given, started-given}
use Rattle.vm_calls.proofs.AnswerKinds.Said.{either}
use Rattle.vm_calls.proofs.AnswerKinds.Columns.{gives_in, slot-at-gives}
use Rattle.vm_calls.proofs.AnswerKinds.Tables.{repr-column}
use Rattle.vm_calls.proofs.AnswerKinds.Gives.{sized-given}
use Rattle.vm_calls.proofs.AnswerKinds.Entries.{entered-asked, entry-value, entry-given, any-row}

-- tests of classes

way-row : (x : Known) (o c : PyObjectRef) (plain : PlainTask) (each : PyObjectRef → PlainTask) → So (within (kind_of plain) kinds.Truth) → ((k : PyObjectRef) → So (within (kind_of (each k)) kinds.Truth)) → (way : ℕ) → Kinded kinds.Truth (λ w. by_way w x o c plain each way)
way-row x o c plain each h k zero = ended kinds.Truth (says true) tt
way-row x o c plain each h k (suc zero) = passed kinds.Truth (λ w. pass w plain) (λ w. asks h)
way-row x o c plain each h k (suc (suc zero)) = read_objects_once kinds.Truth (λ w. items_at w c) (λ w. any_of w each says) (λ rs. any-row kinds.Truth each says k (λ b. tt) rs)
way-row x o c plain each h k (suc (suc (suc n))) =
    asking kinds.Value kinds.Truth (ToAttribute (DoSpecial c (known_text x) (o ∷ []) [])) (λ w r. on_value w r (λ v. start (pass w (ToProtocol (DoIsTrue v))) (end w))) tt
    (λ r f. on-value kinds.Truth (λ w v. start (pass w (ToProtocol (DoIsTrue v))) (end w)) r f (λ v. passed kinds.Truth (λ w. pass w (ToProtocol (DoIsTrue v))) (λ w. asks tt)))

is-instance-row : (o c : PyObjectRef) → Kinded kinds.Truth (λ w. is_instance_say w o c)
is-instance-row o c =
    chosen kinds.Truth (λ w. way_of w (is_exactly w o c.0) known.Instancecheck c) (λ w. by_way w known.Instancecheck o c (ToObject (DoInst o c)) (λ k. ToObject (DoIsInstance o k)))
    (λ way. way-row known.Instancecheck o c (ToObject (DoInst o c)) (λ k. ToObject (DoIsInstance o k)) tt (λ k. tt) way)

is-subclass-row : (d c : PyObjectRef) → Kinded kinds.Truth (λ w. is_subclass_say w d c)
is-subclass-row d c =
    chosen kinds.Truth (λ w. way_of w (is_exactly w c the_type && eqb d.0 c.0) known.Subclasscheck c) (λ w. by_way w known.Subclasscheck d c (ToObject (DoSub d c)) (λ k. ToObject (DoIsSubclass d k)))
    (λ way. way-row known.Subclasscheck d c (ToObject (DoSub d c)) (λ k. ToObject (DoIsSubclass d k)) tt (λ k. tt) way)

on-bases : (go : PlainWorld → PyObjectRef → Row) (r : Ended) → Fits kinds.Value r → ((b : PyObjectRef) → Kinded kinds.Truth (λ w. go w b)) → Kinded kinds.Truth (λ w. on_bases w r (go w))
on-bases go (Ok (AsValue b)) f p = p b
on-bases go (Ok a) f p = absurd f
on-bases go (Err x) f p = ended kinds.Truth (cond (is_attribute_error x.kind) (fault ClassArg) (Err x)) (either-fits kinds.Truth (is_attribute_error x.kind) (fault ClassArg) (Err x) tt tt)

inst-said : (w : PlainWorld) (n : Option ℕ) (o c : PyObjectRef) → Says (on_way (λ n. kinds.Value)) kinds.Truth (inst_by w n o c)
inst-said w (Some n) o c = either (is_instance w o n) (ends tt) (asks tt)
inst-said w None o c = asks tt

inst-rest : (o c : PyObjectRef) (way : ℕ) (r : Ended) → Fits kinds.Value r → Kinded kinds.Truth (λ w. inst_rest w o c way r)
inst-rest o c zero r f =
    on-value kinds.Truth (λ w k. end w (says (other_class w o (class_number (datum_at w k)) (class_number (datum_at w c))))) r f
    (λ k. ended-by kinds.Truth (λ w. says (other_class w o (class_number (datum_at w k)) (class_number (datum_at w c)))) (λ w. tt))
inst-rest o c (suc n) r f =
    on-bases (λ w b. ask w (attribute o known.Class) (λ s. on_value w s (λ k. start (abstract_by w k c) (end w)))) r f
    (λ b. asking kinds.Value kinds.Truth (attribute o known.Class) (λ w s. on_value w s (λ k. start (abstract_by w k c) (end w))) tt
    (λ s h. on-value kinds.Truth (λ w k. start (abstract_by w k c) (end w)) s h
    (λ k. passed kinds.Truth (λ w. abstract_by w k c) (λ w. either (eqb k.0 none.0) (ends tt) (asks tt)))))

inst-row : (o c : PyObjectRef) → Kinded kinds.Truth (λ w. inst_say w o c)
inst-row o c = forked (λ n. kinds.Value) kinds.Truth (λ w. inst_by w (class_number (datum_at w c)) o c) (λ w. inst_rest w o c) (λ w. inst-said w (class_number (datum_at w c)) o c) (λ way r f. inst-rest o c way r f)

sub-said : (w : PlainWorld) (k n : Option ℕ) (d : PyObjectRef) → Says (at_once kinds.Value) kinds.Truth (sub_by w k n d)
sub-said w (Some k) (Some n) d = ends tt
sub-said w k n d = asks tt

sub-row : (d c : PyObjectRef) → Kinded kinds.Truth (λ w. sub_say w d c)
sub-row d c =
    started kinds.Value kinds.Truth (λ w. sub_by w (class_number (datum_at w d)) (class_number (datum_at w c)) d) (λ w r. on_bases w r (λ b. ask w (attribute c known.Bases) (λ s. on_bases w s (λ e. start (pass w (ToObject (DoAbsSub d c))) (end w)))))
    (λ w. sub-said w (class_number (datum_at w d)) (class_number (datum_at w c)) d)
    (λ r f. on-bases (λ w b. ask w (attribute c known.Bases) (λ s. on_bases w s (λ e. start (pass w (ToObject (DoAbsSub d c))) (end w)))) r f
    (λ b. asking kinds.Value kinds.Truth (attribute c known.Bases) (λ w s. on_bases w s (λ e. start (pass w (ToObject (DoAbsSub d c))) (end w))) tt
    (λ s h. on-bases (λ w e. start (pass w (ToObject (DoAbsSub d c))) (end w)) s h
    (λ e. passed kinds.Truth (λ w. pass w (ToObject (DoAbsSub d c))) (λ w. asks tt)))))

-- the items of a tuple are read once
tuple-row : (b : PyObjectRef) (go : PlainWorld → List PyObjectRef → Row) → ((rs : List PyObjectRef) → Kinded kinds.Truth (λ w. go w rs)) → Kinded kinds.Truth (λ w. tuple_once w (datum_at w b) (go w))
tuple-row b go p = stepped kinds.Truth (λ w. tuple_once w (datum_at w b) (go w)) (λ w. held w (datum_at w b))
  where
    noted : (rs : List PyObjectRef) (s : Said) → GoesOn (Kinded kinds.Truth) kinds.Truth (λ v. go v rs) s → GoesOn (Kinded kinds.Truth) kinds.Truth (λ w. tuple_once w (datum_at w b) (go w)) (noting (ReadObjects rs) s)
    noted rs (Ends u r) q = q
    noted rs (Asks u learnt task) q = q

    held : (w : PlainWorld) → (d : Option Datum) → GoesOn (Kinded kinds.Truth) kinds.Truth (λ w. tuple_once w (datum_at w b) (go w)) (tuple_once w d (go w) [])
    held w (Some (ATuple rs)) = noted rs (go w rs []) (goes-on kinds.Truth (λ v. go v rs) (p rs) w)
    held w d = tt

abs-sub-row : (d c : PyObjectRef) → Kinded kinds.Truth (λ w. abs_sub_say w d c)
abs-sub-row d c =
    started kinds.Value kinds.Truth (λ w. abs_sub_by w d c) (λ w r. on_value w r (λ b. tuple_once w (datum_at w b) (any_of w (λ k. ToObject (DoAbsSub k c)) says)))
    (λ w. either (eqb d.0 c.0) (ends tt) (asks tt))
    (λ r f. on-value kinds.Truth (λ w b. tuple_once w (datum_at w b) (any_of w (λ k. ToObject (DoAbsSub k c)) says)) r f
    (λ b. tuple-row b (λ w. any_of w (λ k. ToObject (DoAbsSub k c)) says) (λ rs. any-row kinds.Truth (λ k. ToObject (DoAbsSub k c)) says (λ k. tt) (λ b. tt) rs)))

-- hashes and texts

hash-said : (w : PlainWorld) (none : Bool) (e : Option SlotEntry) (o : PyObjectRef) → Says for_given kinds.Number (hash_by w none e o)
hash-said w true e o = ends tt
hash-said w false None o = ends tt
hash-said w false (Some e) o = entered-asked w [] e known.Hash o [] (entry-given e)

hashed-fits : (z : Option ℤ) → Fits kinds.Number (hashed z)
hashed-fits None = tt
hashed-fits (Some z) = tt

hash-rest : (r : Ended) → IsGiven r → Kinded kinds.Number (λ w. hash_rest w r)
hash-rest (Ok (AsValue v)) f = ended-by kinds.Number (λ w. hashed (number_of (datum_at w v))) (λ w. hashed-fits (number_of (datum_at w v)))
hash-rest (Ok (AsNumber z)) f = ended kinds.Number (Ok (AsNumber z)) tt
hash-rest (Ok a) f = absurd f
hash-rest (Err x) f = ended kinds.Number (Err x) tt

hash-row : (o : PyObjectRef) → Kinded kinds.Number (λ w. hash_say w o)
hash-row o =
    started-given kinds.Number (λ w. hash_by w (is_none (special_at w o (known_text known.Hash))) (hash_entry (slot_at w o Hash)) o) (λ w. hash_rest w)
    (λ w. hash-said w (is_none (special_at w o (known_text known.Hash))) (hash_entry (slot_at w o Hash)) o) hash-rest

text-fits : (x : Option Text) (r : PyObjectRef) (cause : Cause) → Fits kinds.Value (text_or_fault x r cause)
text-fits None r cause = tt
text-fits (Some x) r cause = tt

text-rest : (cause : Cause) (r : Ended) → Fits kinds.Value r → Kinded kinds.Value (λ w. text_only w cause r)
text-rest cause r f =
    on-value kinds.Value (λ w v. end w (text_or_fault (text_of (datum_at w v)) v cause)) r f
    (λ v. ended-by kinds.Value (λ w. text_or_fault (text_of (datum_at w v)) v cause) (λ w. text-fits (text_of (datum_at w v)) v cause))

repr-said : (w : PlainWorld) (e : Option SlotEntry) (o : PyObjectRef) → So (gives_in kinds.Value e) → Says (at_once kinds.Value) kinds.Value (repr_by w e o)
repr-said w None o h = ends tt
repr-said w (Some e) o h = entered-asked w [] e known.Repr o [] (entry-value e h)

repr-row : (o : PyObjectRef) → Kinded kinds.Value (λ w. repr_say w o)
repr-row o = started kinds.Value kinds.Value (λ w. repr_by w (slot_at w o Repr) o) (λ w. text_only w ReprType) (λ w. repr-said w (slot_at w o Repr) o (slot-at-gives kinds.Value Repr repr-column w o)) (λ r f. text-rest ReprType r f)

str-said : (w : PlainWorld) (b : Bool) (o : PyObjectRef) → Says (at_once kinds.Value) kinds.Value (str_by w b o)
str-said w true o = ends tt
str-said w false o = asks tt

str-row : (o : PyObjectRef) → Kinded kinds.Value (λ w. str_say w o)
str-row o = started kinds.Value kinds.Value (λ w. str_by w (is_exactly w o the_str) o) (λ w. text_only w StrType) (λ w. str-said w (is_exactly w o the_str) o) (λ r f. text-rest StrType r f)

format-row : (o s : PyObjectRef) → Kinded kinds.Value (λ w. format_say w o s)
format-row o s =
    started kinds.Value kinds.Value (λ w. format_by w (is_unspecified (text_of (datum_at w s))) o s) (λ w. text_only w FormatType)
    (λ w. either _ (ends tt) (either _ (asks tt) (asks tt))) (λ r f. text-rest FormatType r f)

dir-row : (o : PyObjectRef) → Kinded kinds.Value (λ w. dir_say w o)
dir-row o =
    passed kinds.Value (λ w. dir_by w (attributes_for w (class_at w o)) (own_keys w (dict_of w o)))
    (λ w. made w (attributes_for w (class_at w o)) (own_keys w (dict_of w o)))
  where
    made : (w : PlainWorld) (attrs : Bindings) (keys : List PyObjectRef) → Says (at_once kinds.Value) kinds.Value (dir_by w attrs keys)
    made w attrs keys = sized-given (keyed w [] attrs).0 the_list (AList (map (λ e. e.0) (keyed w [] attrs).1 ++ other_keys w attrs keys))

pub object-rows : (job : ObjectJob) → Kinded (kind_of_object job) (λ w. object_job_say w job)
unfolding object_job_say
object-rows (DoHash o) = hash-row o
object-rows (DoRepr o) = repr-row o
object-rows (DoStr o) = str-row o
object-rows (DoFormat o s) = format-row o s
object-rows (DoDir o) = dir-row o
object-rows (DoIsInstance o c) = is-instance-row o c
object-rows (DoInst o c) = inst-row o c
object-rows (DoIsSubclass d c) = is-subclass-row d c
object-rows (DoSub d c) = sub-row d c
object-rows (DoAbsSub d c) = abs-sub-row d c

-- The rows of iterations answer of their kinds.
use Rattle.vm_calls.proofs.Below.{Bool, Err, None, Ok, Option, Result, Some, cond, eqb, false, is_some, pos, suc, true, zero, ℕ, [], PyObjectRef, IndexRange, NotFound, NotIterator, Iter, Iternext, SeqItem, SeqContains, SlotEntry, Native, fixed_true, fixed_false, number as number_ended, says, objects, all_items, each_equal, truth_of as truth_in, Kind, iter_job_say, get_iter_by, iterator_only, next_by, is_stop, next_rest, collect_by, contains_by, until_true, contains_rest, counted, one_more, until_found, is_plain, PlainWorld, DoIsTrue, DoGetIter, DoNext, DoCollect, DoContains, DoCount, DoFind, ToProtocol, AsValue, AsExhausted, Ended, Chose, slot_at, start, ask, end, value, pass, fault, on_value, fits_index}
use Rattle.std.proofs.Common.{◌||◌, ◌∷◌, if◌then◌else◌}
use Rattle.py_node.specs.declared.known.Known.TheVariants as known
use Rattle.vm_calls.specs.AnswerKinds.Kinds as kinds
use Rattle.vm_calls.proofs.AnswerKinds.Base.{So, Fits, wider, Kinded, ended, Says, ends, asks, at_once, on_way, started, forked, asking, passed, on-value, ended-by, either-fits}
use Rattle.vm_calls.proofs.AnswerKinds.Columns.{gives_in, slot-at-gives}
use Rattle.vm_calls.proofs.AnswerKinds.Tables.{iter-column, next-column, contains-column}
use Rattle.vm_calls.proofs.AnswerKinds.Gives.{iterator-given}
use Rattle.vm_calls.proofs.AnswerKinds.Entries.{entered-asked, entry-value, all-row, FitsTurn, search-row}
use Rattle.proto_object.specs.ProtoIter.Iteration.{as_truth}

get-iter-said : (w : PlainWorld) (e : Option SlotEntry) (seq : Bool) (o : PyObjectRef) → So (gives_in kinds.Value e) → Says (at_once kinds.Value) kinds.Value (get_iter_by w e seq o)
get-iter-said w (Some e) seq o h = entered-asked w [] e known.Iter o [] (entry-value e h)
get-iter-said w None true o h = iterator-given w o
get-iter-said w None false o h = ends tt

iterator-row : (it : PyObjectRef) → Kinded kinds.Value (λ w. iterator_only w it)
iterator-row it = ended-by kinds.Value (λ w. cond (is_some (slot_at w it Iternext)) (value it) (fault NotIterator)) (λ w. either-fits kinds.Value (is_some (slot_at w it Iternext)) (value it) (fault NotIterator) tt tt)

pub get-iter-row : (o : PyObjectRef) → Kinded kinds.Value (λ w. iter_job_say w (DoGetIter o))
unfolding iter_job_say
get-iter-row o =
    started kinds.Value kinds.Value (λ w. get_iter_by w (slot_at w o Iter) (is_some (slot_at w o SeqItem)) o) (λ w r. on_value w r (iterator_only w))
    (λ w. get-iter-said w (slot_at w o Iter) (is_some (slot_at w o SeqItem)) o (slot-at-gives kinds.Value Iter iter-column w o))
    (λ r f. on-value kinds.Value (λ w. iterator_only w) r f (λ it. iterator-row it))

next-said : (w : PlainWorld) (e : Option SlotEntry) (o : PyObjectRef) → So (gives_in kinds.Value e) → Says (at_once kinds.Value) kinds.Item (next_by w e o)
next-said w None o h = ends tt
next-said w (Some e) o h = entered-asked w [] e known.Next o [] (entry-value e h)

next-rest : (r : Ended) → Fits kinds.Value r → Kinded kinds.Item (λ w. next_rest w r)
next-rest (Ok a) f = ended kinds.Item (Ok a) (wider kinds.Value kinds.Item (Ok a) tt f)
next-rest (Err x) f = ended kinds.Item (cond (is_stop x.kind) (Ok AsExhausted) (Err x)) (either-fits kinds.Item (is_stop x.kind) (Ok AsExhausted) (Err x) tt tt)

pub next-row : (o : PyObjectRef) → Kinded kinds.Item (λ w. iter_job_say w (DoNext o))
unfolding iter_job_say
next-row o = started kinds.Value kinds.Item (λ w. next_by w (slot_at w o Iternext) o) (λ w. next_rest w) (λ w. next-said w (slot_at w o Iternext) o (slot-at-gives kinds.Value Iternext next-column w o)) (λ r f. next-rest r f)

collect-said : (w : PlainWorld) (plain : Bool) (o : PyObjectRef) → Says (at_once kinds.Value) kinds.Objects (collect_by w plain o)
collect-said w true o = ends tt
collect-said w false o = asks tt

pub collect-row : (o : PyObjectRef) → Kinded kinds.Objects (λ w. iter_job_say w (DoCollect o))
unfolding iter_job_say
collect-row o =
    started kinds.Value kinds.Objects (λ w. collect_by w (is_plain w o) o) (λ w r. on_value w r (λ it. all_items w it [] (λ rs. end w (objects rs))))
    (λ w. collect-said w (is_plain w o) o)
    (λ r f. on-value kinds.Objects (λ w it. all_items w it [] (λ rs. end w (objects rs))) r f (λ it. all-row kinds.Objects it (λ w rs. end w (objects rs)) (λ rs. ended kinds.Objects (objects rs) tt) []))

-- a native answers True or False, and then an iteration or a method gives an object
abbrev contains_kinds : ℕ → Kind
contains_kinds zero = kinds.TruthValue
contains_kinds (suc n) = kinds.Value

contains-said : (w : PlainWorld) (e : Option SlotEntry) (o x : PyObjectRef) → So (gives_in kinds.TruthValue e) → Says (on_way contains_kinds) kinds.Truth (contains_by w e o x)
contains-said w None o x h = asks tt
contains-said w (Some (Native n)) o x h = entered-asked w (Chose 0 ∷ []) (Native n) known.Contains o (x ∷ []) h
contains-said w (Some e) o x h = asks tt

told-truth : (q p : Bool) (v : PyObjectRef) → So (q || p) → Fits kinds.Truth (as_truth (if p then Some false else if q then Some true else None) v)
told-truth true true v h = tt
told-truth false true v h = tt
told-truth true false v h = tt
told-truth false false v h = absurd h

contains-rest : (x : PyObjectRef) (way : ℕ) (r : Ended) → Fits (contains_kinds way) r → Kinded kinds.Truth (λ w. contains_rest w x way r)
contains-rest x zero (Ok (AsValue v)) f = ended kinds.Truth (as_truth (truth_in v) v) (told-truth (eqb v.0 fixed_true) (eqb v.0 fixed_false) v f)
contains-rest x zero (Ok a) f = absurd f
contains-rest x zero (Err y) f = ended kinds.Truth (Err y) tt
contains-rest x (suc zero) r f = on-value kinds.Truth (λ w v. start (pass w (ToProtocol (DoIsTrue v))) (end w)) r f (λ v. passed kinds.Truth (λ w. pass w (ToProtocol (DoIsTrue v))) (λ w. asks tt))
contains-rest x (suc (suc n)) r f = on-value kinds.Truth (λ w it. each_equal w it x until_true (λ m. says false) 0) r f (λ it. search-row kinds.Truth it x until_true (λ m. says false) until-true (λ m. tt) 0)
  where
    until-true : (m : ℕ) (b : Bool) → FitsTurn kinds.Truth (until_true m b)
    until-true m true = tt
    until-true m false = tt

pub contains-row : (o x : PyObjectRef) → Kinded kinds.Truth (λ w. iter_job_say w (DoContains o x))
unfolding iter_job_say
contains-row o x = forked contains_kinds kinds.Truth (λ w. contains_by w (slot_at w o SeqContains) o x) (λ w. contains_rest w x) (λ w. contains-said w (slot_at w o SeqContains) o x (slot-at-gives kinds.TruthValue SeqContains contains-column w o)) (λ way r f. contains-rest x way r f)

counted-fits : (n : ℕ) → Fits kinds.Number (counted n)
counted-fits n = either-fits kinds.Number (fits_index (pos n)) (number_ended (pos n)) (fault IndexRange) tt tt

searched : (o x : PyObjectRef) (turn : ℕ → Bool → Result ℕ Ended) (last : ℕ → Ended) → ((n : ℕ) (b : Bool) → FitsTurn kinds.Number (turn n b)) → ((n : ℕ) → Fits kinds.Number (last n)) → Kinded kinds.Number (λ w. ask w (ToProtocol (DoGetIter o)) (λ r. on_value w r (λ it. each_equal w it x turn last 0)))
searched o x turn last t l = asking kinds.Value kinds.Number (ToProtocol (DoGetIter o)) (λ w r. on_value w r (λ it. each_equal w it x turn last 0)) tt (λ r f. on-value kinds.Number (λ w it. each_equal w it x turn last 0) r f (λ it. search-row kinds.Number it x turn last t l 0))

pub count-row : (o x : PyObjectRef) → Kinded kinds.Number (λ w. iter_job_say w (DoCount o x))
unfolding iter_job_say
count-row o x = searched o x one_more counted (λ n b. tt) counted-fits

until-found : (m : ℕ) (b : Bool) → FitsTurn kinds.Number (until_found m b)
until-found m true = counted-fits m
until-found m false = tt

pub find-row : (o x : PyObjectRef) → Kinded kinds.Number (λ w. iter_job_say w (DoFind o x))
unfolding iter_job_say
find-row o x = searched o x until_found (λ n. fault NotFound) until-found (λ n. tt)

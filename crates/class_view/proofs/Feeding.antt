-- Lists of changes on their way to the publisher.
use Rattle.class_view.proofs.Below.{ℕ, suc, List, [], map, length, drop, get_or, add-one, Result, Ok, Err, MatchResult, OnOk, OnErr, fold, append-nil, sym, ap, ◌∙◌, subst, arith, append_assoc, length-append, common_steps, length-map, get_or-map, drop-cons, ClassChange, Change, change_of, BeginsWith, View, Shows, Posted, posted}
use Rattle.std.proofs.Common.{◌≡◌, ◌+◌, ◌<◌, ◌≤◌, ◌∷◌, ◌++◌}
use Rattle.class_view.proofs.Keeping.{fold_adds, begins_self}

drop_longer : (n : ℕ) (xs ys : List Change) → n ≤ length xs → drop n (xs ++ ys) ≡ drop n xs ++ ys
drop_longer n xs ys le = grind (arith, common_steps)

-- changes were added last, or none was
pub added_last : {T F : Type 0} (old new : List Change) (c : Change) (r : Result T F) → OnOk r (new ≡ old ++ c ∷ []) → OnErr r (new ≡ old) → BeginsWith old new
added_last old new c (Ok u) is same = (c ∷ [], sym is)
added_last old new c (Err e) is same = subst (λ z. BeginsWith old z) (sym same) (begins_self old)

-- what is not with the publisher follows what is pending there, also where more changes came
pub grows : (shown pending : List Change) (fed : ℕ) (old new : List Change) → BeginsWith old new → fed ≤ length old → shown ++ (pending ++ drop fed old) ≡ old → (fed ≤ length new) × (shown ++ (pending ++ drop fed new) ≡ new)
grows shown pending fed old new b le all =
    let whole : shown ++ (pending ++ drop fed (old ++ b.0)) ≡ old ++ b.0 =
    ap (λ d. shown ++ (pending ++ d)) (drop_longer fed old b.0 le) ∙ ap (λ d. shown ++ d) (sym (append_assoc pending (drop fed old) b.0)) ∙ sym (append_assoc shown (pending ++ drop fed old) b.0) ∙ ap (λ d. d ++ b.0) all in
    let long : fed ≤ length (old ++ b.0) = omega (arith, length-append old b.0) in
    let P : List Change → Type 0 = λ z. (fed ≤ length z) × (shown ++ (pending ++ drop fed z) ≡ z) in
    subst P b.1 (long, whole)

-- one more change is with the publisher
pub fed-more : (was now : List Change) (changes : List ClassChange) (fed : ℕ) (x : ClassChange) → fed < length changes → x ≡ get_or changes fed x → now ≡ was ++ change_of x ∷ [] → now ++ drop (fed + 1) (map change_of changes) ≡ was ++ drop fed (map change_of changes)
fed-more was now changes fed x lt x-is is =
    let in-list : fed < length (map change_of changes) = subst (λ (n : ℕ). fed < n) (sym (length-map changes change_of)) lt in
    let at : get_or (map change_of changes) fed (change_of x) ≡ change_of x = get_or-map change_of changes fed x (change_of x) lt ∙ ap change_of (sym x-is) in
    let next : drop fed (map change_of changes) ≡ change_of x ∷ drop (fed + 1) (map change_of changes) =
    drop-cons (map change_of changes) fed (change_of x) in-list ∙ ap (λ (y : Change). y ∷ drop (suc fed) (map change_of changes)) at ∙ ap (λ (n : ℕ). change_of x ∷ drop n (map change_of changes)) (sym (add-one fed)) in
    ap (λ (z : List Change). z ++ drop (fed + 1) (map change_of changes)) is ∙ append_assoc was (change_of x ∷ []) (drop (fed + 1) (map change_of changes)) ∙ ap (λ (z : List Change). was ++ z) (sym next)

abbrev pub added : List Change → Change → List Change
added zs z = zs ++ z ∷ []

-- all that was fed is then published
now_all : (shown pending list : List Change) (fed : ℕ) (shown' : List Change) → shown ++ (pending ++ drop fed list) ≡ list → drop fed list ≡ [] → shown' ≡ fold added shown pending → shown' ≡ list
now_all shown pending list fed shown' whole none is = is ∙ fold_adds shown pending ∙ ap (λ d. shown ++ d) (sym (append-nil pending)) ∙ ap (λ d. shown ++ (pending ++ d)) (sym none) ∙ whole

pub settles : {F : Type 0} (shown pending list : List Change) (fed : ℕ) (known known' : View) (shown' pending' : List Change) (r : Result (Unit {0}) F)
    → known.seen ≡ shown → shown ++ (pending ++ drop fed list) ≡ list → drop fed list ≡ []
    → MatchResult r (λ _. (shown' ≡ fold added shown pending) × (pending' ≡ [])) (λ _. (shown' ≡ shown) × (pending' ≡ pending))
    → MatchResult r (λ _. Shows known shown shown' known') (λ _. known' ≡ known)
    → (known'.seen ≡ shown') × (shown' ++ (pending' ++ drop fed list) ≡ list)
settles shown pending list fed known known' shown' pending' (Ok u) seen whole none values shows = (
  shows.1,
  ap (λ d. shown' ++ (pending' ++ d)) none ∙ ap (λ p. shown' ++ (p ++ [])) values.1 ∙ append-nil shown' ∙ now_all shown pending list fed shown' whole none values.0,
)
settles shown pending list fed known known' shown' pending' (Err e) seen whole none values same = (
  ap (λ (v : View). v.seen) same ∙ seen ∙ sym values.0,
  ap (λ s. s ++ (pending' ++ drop fed list)) values.0 ∙ ap (λ p. shown ++ (p ++ drop fed list)) values.1 ∙ whole,
)

pub gives : {F : Type 0} (shown pending list : List Change) (fed : ℕ) (shown' pending' : List Change) (self : Posted) (r : Result (Unit {0}) F)
    → posted shown list ≡ self → shown ++ (pending ++ drop fed list) ≡ list → drop fed list ≡ []
    → MatchResult r (λ _. (shown' ≡ fold added shown pending) × (pending' ≡ [])) (λ _. (shown' ≡ shown) × (pending' ≡ pending))
    → MatchResult r (λ _. (shown' ≡ self.changes) × (list ≡ self.changes)) (λ _. posted shown' list ≡ self)
gives shown pending list fed shown' pending' self (Ok u) is whole none values =
    let e : list ≡ self.changes = ap (λ (w : Posted). w.changes) is in (now_all shown pending list fed shown' whole none values.0 ∙ e, e)
gives shown pending list fed shown' pending' self (Err e) is whole none values = ap (λ s. posted s list) values.0 ∙ is

-- A row that goes on only while a test of the world holds, and else ends.
use Rattle.vm_calls.proofs.Below.{Bool, List, cond, false, inl, inr, length, nat_le, refl, subst, suc, sym, true, zero, ℕ, [], TooLong, Kind, Datum, PlainWorld, Ended, Answered, Told, Said, Asks, Ends, Row, end, fault, make, most_items, limited}
use Rattle.std.proofs.Common.{◌++◌, ◌∷◌, ◌≡◌, ◌⊎◌}
use Rattle.vm_calls.specs.AnswerKinds.Kinds as kinds
use Rattle.vm_calls.proofs.AnswerKinds.Base.{Fits, Family, after, GoesOn, KindedFor, Kinded, ended, ends, finished, one_of}

-- the same as a row, or ended
abbrev pub IsGuarded : Family → Family → Ended → Type 0
IsGuarded G R x = (w : PlainWorld) (told : Told) → (G w told ≡ R w told) ⊎ (G w told ≡ Ends w x)

abbrev Carries : ℕ → Kind → Ended → Type 0
Carries n k x = (G R : Family) → IsGuarded G R x → KindedFor n k R → KindedFor n k G

next-guarded : (n : ℕ) (k : Kind) (x : Ended) → Carries n k x → (G R : Family) → IsGuarded G R x → (s : Said) → GoesOn (KindedFor n k) k R s → GoesOn (KindedFor n k) k G s
next-guarded n k x rec G R e (Ends u r) q = q
next-guarded n k x rec G R e (Asks u learnt task) q = λ r f. rec (after G learnt r) (after R learnt r) (λ w told. e w (learnt ++ Answered r ∷ told)) (q r f)

at-guarded : (n : ℕ) (k : Kind) (x : Ended) → Fits k x → Carries n k x → (G R : Family) → IsGuarded G R x → (w : PlainWorld) → GoesOn (KindedFor n k) k R (R w []) → (G w [] ≡ R w []) ⊎ (G w [] ≡ Ends w x) → GoesOn (KindedFor n k) k G (G w [])
at-guarded n k x h rec G R e w p (inl same) = subst (GoesOn (KindedFor n k) k G) (sym same) (next-guarded n k x rec G R e (R w []) p)
at-guarded n k x h rec G R e w p (inr over) = subst (GoesOn (KindedFor n k) k G) (sym over) h

guarded-for : (n : ℕ) (k : Kind) (x : Ended) → Fits k x → Carries n k x
guarded-for zero k x h G R e p = tt
guarded-for (suc n) k x h G R e p = λ w. at-guarded n k x h (guarded-for n k x h) G R e w (p w) (e w [])

either-guard : (b : Bool) (R : Row) (w : PlainWorld) (x : Ended) (told : Told) → (cond b R (end w x) told ≡ R told) ⊎ (cond b R (end w x) told ≡ Ends w x)
either-guard true R w x told = inl refl
either-guard false R w x told = inr refl

pub guarded : (k : Kind) (b : PlainWorld → Bool) (R : Family) (x : Ended) → Fits k x → Kinded k R → Kinded k (λ w. cond (b w) (R w) (end w x))
guarded k b R x h p = record { every = λ n. guarded-for n k x h (λ w. cond (b w) (R w) (end w x)) R (λ w told. either-guard (b w) (R w) w x told) (p.every n) }

pub make-row : (c : ℕ) (d : Datum) → Kinded kinds.Value (λ w. make w c d)
make-row c d = finished kinds.Value (λ w. make w c d) (λ w. ends tt)

pub limited-row : {A : Type 0} (xs : List A) (R : Family) → Kinded kinds.Value R → Kinded kinds.Value (λ w. limited w xs (R w))
limited-row xs R p = one_of kinds.Value (nat_le (length xs) most_items) R (λ w. end w (fault TooLong)) p (ended kinds.Value (fault TooLong) tt)

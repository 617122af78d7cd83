-- What has been read of what a source told, over one read and at the end.
use Rattle.outside.proofs.Below.{ℕ, List, [], length, take, drop, Some, refl, sym, ap, ◌∙◌, append_assoc, arith, length-append, take-append-drop, take_all, drop-append-add, Option, ForSome}
use Rattle.std.proofs.Common.{◌≡◌, ◌+◌, ◌≤◌, ◌++◌}

-- where the source told all of its bytes, these are read and the rest is left
pub record SoFar (told left : Option (List ℕ)) (read : List ℕ) : Type 0 where
  pub parts : (all : List ℕ) → told ≡ Some all → (rest : List ℕ) × (left ≡ Some rest) × (all ≡ read ++ rest)

pub none_read : (told : Option (List ℕ)) (read : List ℕ) → read ≡ [] → SoFar told told read
none_read told read none = record { parts = λ all is. (all, is, rw none refl) }

-- n bytes more
pub one_more : (told left later : Option (List ℕ)) (read more : List ℕ) (n : ℕ) → SoFar told left read →
    ForSome left (λ rest. more ≡ read ++ take n rest) → ForSome left (λ rest. later ≡ Some (drop n rest)) → SoFar told later more
one_more told left later read more n so_far piece rest = record {
  parts = λ all is. let p = so_far.parts all is in (
    drop n p.0,
    rest p.0 p.1,
    p.2 ∙ ap (λ r. read ++ r) (sym (take-append-drop n p.0)) ∙ sym (append_assoc read (take n p.0) (drop n p.0)) ∙ ap (λ r. r ++ drop n p.0) (sym (piece p.0 p.1)),
  );
}

-- at the end all has been read
pub all_read : (told left : Option (List ℕ)) (read more : List ℕ) (n : ℕ) → SoFar told left read →
    ForSome left (λ rest. more ≡ read ++ take n rest) → ForSome left (λ rest. rest ≡ []) → ForSome told (λ all. more ≡ all)
all_read told left read more n so_far piece end all is = let p = so_far.parts all is in
    let short : length p.0 ≤ n = omega (arith, ap length (end p.0 p.1)) in
    piece p.0 p.1 ∙ ap (λ r. read ++ r) (take_all n p.0 short) ∙ sym p.2

-- and none is left
pub none_left : (told left later : Option (List ℕ)) (read : List ℕ) (n : ℕ) → n ≡ 0 → SoFar told left read →
    ForSome left (λ rest. rest ≡ []) → ForSome left (λ rest. later ≡ Some (drop n rest)) → ForSome told (λ _. later ≡ Some [])
none_left told left later read n zero so_far end rest all is = let p = so_far.parts all is in
    rest p.0 p.1 ∙ ap (λ k. Some (drop k p.0)) zero ∙ ap (λ r. Some r) (end p.0 p.1)

-- no more is left than there was
pub no_longer : (told left : Option (List ℕ)) (read : List ℕ) → SoFar told left read → ForSome told (λ all. length read ≤ length all)
no_longer told left read so_far all is = let p = so_far.parts all is in
    omega (arith, ap length p.2, length-append read p.0)

-- with at most so many bytes more, what is left comes behind at most as many as the limit
pub within_limit : (told left later : Option (List ℕ)) (read : List ℕ) (most limit : ℕ) → SoFar told left read → length read + most ≤ limit →
    ForSome left (λ rest. (n : ℕ) × (n ≤ most) × (later ≡ Some (drop n rest))) →
    ForSome told (λ all. (n : ℕ) × (n ≤ limit) × (later ≡ Some (drop n all)))
within_limit told left later read most limit so_far fits step all is =
    let p = so_far.parts all is in let q = step p.0 p.1 in
    (length read + q.0, omega (arith, q.1), q.2 ∙ ap (λ r. Some r) (sym (ap (drop (length read + q.0)) p.2 ∙ drop-append-add read p.0 q.0)))

-- A list of changes that follows a log.
use Rattle.class_table.proofs.Below.{ℕ, List, [], map, length, take, drop, sym, ap, ◌∙◌, subst, arith, append_assoc, map-append, drop-map, take_rest, length-map, fold-append, drop-append_seam, PyStrInterned, Classes, start_classes, ClassChange, Change, change_of, shown, changed, first_classes, AreMade, CanFollow, Continues}
use Rattle.std.proofs.Common.{◌≡◌, ◌+◌, ◌-◌, ◌≤◌, ◌∷◌, ◌++◌, length-append, take-append-drop, length-drop}
use Rattle.class_table.specs.ClassLog.Following.{BeginsWith}

-- before any change
pub opens : (t : Classes PyStrInterned) (changes : List ClassChange) → changes ≡ [] → t ≡ start_classes → t ≡ shown (map change_of changes)
unfolding first_classes
opens t changes none is = subst (λ (cs : List ClassChange). t ≡ shown (map change_of cs)) (sym none) is

-- one more change
pub shown-added : (xs : List Change) (x : Change) → shown (xs ++ x ∷ []) ≡ changed (shown xs) x
shown-added xs x = fold-append changed first_classes xs (x ∷ [])

-- what was made so far, where no more is made
pub stops : (old self new : List Change) (rest : List ClassChange) (i : ℕ) → self ≡ old ++ map change_of (take i rest) → AreMade (shown self) (map change_of (drop i rest)) → new ≡ self → Continues old new (map change_of rest)
stops old self new rest i is fit same = record {
  made = map change_of (take i rest);
  left = map change_of (drop i rest);
  is = same ∙ is;
  split = sym (map-append change_of (take i rest) (drop i rest)) ∙ ap (λ (cs : List ClassChange). map change_of cs) (take-append-drop i rest);
  fit = subst (λ (s : List Change). AreMade (shown s) (map change_of (drop i rest))) (sym same) fit;
}

module _ (done : List Change) (log : List ClassChange) (f : CanFollow done (map change_of log)) (n : ℕ) (is : n ≡ length done) where
  -- what is left of a log past some changes
  pub rest-is : map change_of (take (length log - n) (drop n log)) ≡ f.rest
  rest-is =
      ap (λ (cs : List ClassChange). map change_of cs) (take_rest log n) ∙ sym (drop-map change_of n log)
      ∙ ap (λ (k : ℕ). drop k (map change_of log)) is
      ∙ subst (λ (z : List Change). drop (length done) z ≡ f.rest) f.whole (drop-append_seam done f.rest)

  pub not-past : n ≤ length log
  not-past =
      let whole : length (done ++ f.rest) ≡ length (map change_of log) = ap (λ (z : List Change). length z) f.whole in
      omega (arith, length-append done f.rest, length-map log change_of)

  pub follows-on : (new : List Change) → Continues done new f.rest → CanFollow new (map change_of log)
  follows-on new more = record {
    rest = more.left;
    whole = ap (λ (z : List Change). z ++ more.left) more.is ∙ append_assoc done more.made more.left ∙ ap (λ (r : List Change). done ++ r) more.split ∙ f.whole;
    made = more.fit;
  }

  -- how many changes are left
  pub counts : length done + length (take (length log - n) (drop n log)) ≡ length log
  counts =
      let left : length (take (length log - n) (drop n log)) ≡ length (drop n log) = ap (λ (cs : List ClassChange). length cs) (take_rest log n) in
      let most = not-past in
      omega (arith, left, length-drop n log, is, most)

  -- all is made
  pub ends : (new : List Change) → new ≡ done ++ map change_of (take (length log - n) (drop n log)) → new ≡ map change_of log
  ends new e = e ∙ ap (λ (cs : List Change). done ++ cs) rest-is ∙ f.whole

  pub left-over : (new : List Change) → Continues done new (map change_of (take (length log - n) (drop n log))) → CanFollow new (map change_of log)
  left-over new more = follows-on new (subst (λ (cs : List Change). Continues done new cs) rest-is more)

  pub next-made : AreMade (shown done) (map change_of (take (length log - n) (drop n log)))
  next-made = subst (λ (cs : List Change). AreMade (shown done) cs) (sym rest-is) f.made

pub begins-on : (old new rest : List Change) → Continues old new rest → BeginsWith old new
begins-on old new rest more = (more.made, sym more.is)

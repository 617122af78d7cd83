-- Classes are sound under other keys too.
use Rattle.class_model.proofs.Below.{ℕ, List, refl, sym, ap, ◌∙◌, is_some, Classes, class_at, is_class, renamed, ascend_from, says_dict, has_dict, any_has_dict, has_its_dict, AreSound}
use Rattle.std.proofs.Common.{◌≡◌, ◌||◌}
use Rattle.class_model.proofs.Renamed.{at-renamed, numbers-renamed, bases_of-renamed, lin-renamed, is_sub-renamed, solid-renamed, base-renamed}
use Rattle.class_model.proofs.Dict.{any_has_dict-agrees}

module _ {K L : Type 0} (f : K → L) (t : Classes K) where
  pub has_dict-renamed : (c : ℕ) → has_dict (renamed f t) c ≡ has_dict t c
  has_dict-renamed c = at-renamed f says_dict says_dict refl (λ k. refl) t c

  any-renamed : (bs : List ℕ) → any_has_dict (renamed f t) bs ≡ any_has_dict t bs
  any-renamed bs = any_has_dict-agrees (renamed f t) t bs (λ b h. has_dict-renamed b)

  its-renamed : (c : ℕ) → has_its_dict (renamed f t) (class_at (renamed f t) c) ≡ has_its_dict t (class_at t c)
  its-renamed c = at-renamed f (has_its_dict (renamed f t)) (has_its_dict t) refl (λ k. ap (λ b. k.brings || b) (any-renamed k.bases)) t c

-- under other keys
pub sound-renamed : {K L : Type 0} (f : K → L) (t : Classes K) → AreSound t → AreSound (renamed f t)
sound-renamed f t ok =
    let classes : (x : ℕ) → is_class (renamed f t) x ≡ is_class t x = λ x. at-renamed f is_some is_some refl (λ k. refl) t x in
    record {
      ascending = ap (ascend_from 0) (numbers-renamed f t) ∙ ok.ascending;
      root = λ x bs e. ok.root x bs (sym (bases_of-renamed f t x) ∙ e);
      there = λ x b bs e h. classes b ∙ ok.there x b bs (sym (bases_of-renamed f t x) ∙ e) h;
      apart = λ x b bs e h. is_sub-renamed f t b x ∙ ok.apart x b bs (sym (bases_of-renamed f t x) ∙ e) h;
      order = λ x l. ap is_some (lin-renamed f t x) ∙ ok.order x (sym (classes x) ∙ l);
      solid = λ x l. ap is_some (solid-renamed f t x) ∙ ok.solid x (sym (classes x) ∙ l);
      best = λ x l. ap is_some (base-renamed f t x) ∙ ok.best x (sym (classes x) ∙ l);
      dicts = λ x. has_dict-renamed f t x ∙ ok.dicts x ∙ sym (its-renamed f t x);
    }

-- Whether objects have a dict, after their class or its bases are changed.
use Rattle.vm_calls.proofs.Below.{ℕ, true, List, None, refl, sym, ◌∙◌, with_bases, Class, Classes, is_class, gives_dict, AreSound, has-gives, has_dict-rebased, at-changed, refused_class, refused_rebase, AreThere, sound-passed, same-dict}
use Rattle.std.proofs.Common.{◌≡◌}
use Rattle.std.specs.Prelude.{is_some}

module _ {K : Type 0} (t : Classes K) (ok : AreSound t) where
  pub bases-keep : (c : ℕ) (bs : List ℕ) (d : ℕ) → is_class t c ≡ true → AreThere t bs → refused_rebase t c bs ≡ None → is_class t d ≡ true → gives_dict (with_bases t c bs) d ≡ gives_dict t d
  bases-keep c bs d here held passed l =
      let u = with_bases t c bs in
      let there : is_class u d ≡ true = at-changed (λ (k : Class K). record k { bases = bs }) (λ k. refl) is_some (λ k. refl) t c d ∙ l in
      sym (has-gives u (sound-passed t ok c bs here held passed) d there) ∙ has_dict-rebased t c bs d ∙ has-gives t ok d l

  pub class-keeps : (c d : ℕ) → is_class t c ≡ true → is_class t d ≡ true → refused_class t c d ≡ None → gives_dict t c ≡ gives_dict t d
  class-keeps c d here there passed =
      sym (has-gives t ok c here) ∙ same-dict t ok c d here there passed ∙ has-gives t ok d there

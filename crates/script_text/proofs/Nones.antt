-- Where a part is missing, there is no whole.
use Rattle.script_text.proofs.Below.{Option, Some, None, refl, Result, Err, IfErr, Single, Many, of_three, of_four, of_two, single_tree, many_tree}
use Rattle.std.proofs.Common.{◌≡◌}
use Rattle.std.specs.Prelude.{Ok}
use Rattle.script_text.specs.declared.form_parts.Single.TheVariants as single
use Rattle.script_text.specs.declared.form_parts.Many.TheVariants as many

two-second : {A B C : Type 0} (f : A → B → C) (a : Option A) → of_two f a None ≡ None
two-second f (Some a) = refl
two-second f None = refl

pub three-second : {A B C D : Type 0} (f : A → B → C → D) (a : Option A) (c : Option C) → of_three f a None c ≡ None
three-second f (Some a) c = refl
three-second f None c = refl

pub three-third : {A B C D : Type 0} (f : A → B → C → D) (a : Option A) (b : Option B) → of_three f a b None ≡ None
three-third f (Some a) b = two-second (f a) b
three-third f None b = refl

pub four-second : {A B C D E : Type 0} (f : A → B → C → D → E) (a : Option A) (c : Option C) (d : Option D) → of_four f a None c d ≡ None
four-second f (Some a) c d = refl
four-second f None c d = refl

pub four-third : {A B C D E : Type 0} (f : A → B → C → D → E) (a : Option A) (b : Option B) (d : Option D) → of_four f a b None d ≡ None
four-third f (Some a) b d = three-second (f a) b d
four-third f None b d = refl

pub four-fourth : {A B C D E : Type 0} (f : A → B → C → D → E) (a : Option A) (b : Option B) (c : Option C) → of_four f a b c None ≡ None
four-fourth f (Some a) b c = three-third (f a) b c
four-fourth f None b c = refl

pub single-none : (s : Single) → single_tree s None ≡ None
single-none (single.Bind n) = two-second _ _
single-none (single.Func rest n ps) = three-third _ _ _
single-none (single.Attr n) = refl
single-none (single.DelAttr n) = refl

pub many-none : (m : Many) → many_tree m None ≡ None
many-none many.Tuple = refl
many-none many.List = refl
many-none many.Seq = refl
many-none (many.Op word arity) = refl

-- what holds by itself holds of an error
pub if-err : {T E : Type 0} (r : Result T E) (P : Type 0) → P → IfErr r (λ e. P)
if-err (Ok v) P h = tt
if-err (Err e) P h = h

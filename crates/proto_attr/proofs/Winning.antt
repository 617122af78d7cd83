-- Who wins where an object is asked for an attribute.
use Rattle.proto_attr.proofs.Below.{Bool, true, false, Option, Some, None, refl, ap, ◌∙◌, is_some, PyObjectRef, DescrSet, PlainWorld, slot_at, special_at, own_value, Descriptor, attribute_say, find, generic_by, generic_opt_by, value_for, Gets, Sets, GetterAndSetterWins, DictIsNext, ClassIsLast, NeitherHasIt, AnswerIsGiven}
use Rattle.std.proofs.Common.{◌≡◌, ◌&&◌}
use Rattle.py_node.specs.declared.entry.SlotId.TheVariants.{DescrGet}
use Rattle.proto_attr.specs.declared.find.Found.TheVariants.{Value}

-- what is found
data-found : (w : PlainWorld) (a : PyObjectRef) (own : Option PyObjectRef) → Gets w a → Sets w a → find w (Some a) own ≡ Descriptor a
data-found w a None g s = rw g refl
data-found w a (Some v) g s = rw (g, s) refl

not-both : (p q : Bool) → (p ≡ true → q ≡ true → ⊥) → (p && q) ≡ false
not-both false q f = refl
not-both true false f = refl
not-both true true f = absurd (f refl refl)

dict-found : (w : PlainWorld) (class : Option PyObjectRef) (v : PyObjectRef) → ((a : PyObjectRef) → class ≡ Some a → Gets w a → Sets w a → ⊥) → find w class (Some v) ≡ Value v
dict-found w None v none = refl
dict-found w (Some a) v none =
    let off : (is_some (slot_at w a DescrGet) && is_some (slot_at w a DescrSet)) ≡ false = not-both (is_some (slot_at w a DescrGet)) (is_some (slot_at w a DescrSet)) (none a refl) in
    rw off refl

not-true : (p : Bool) → (p ≡ true → ⊥) → p ≡ false
not-true false f = refl
not-true true f = absurd (f refl)

gets-found : (w : PlainWorld) (a : PyObjectRef) → Gets w a → find w (Some a) None ≡ Descriptor a
gets-found w a g = rw g refl

plain-found : (w : PlainWorld) (a : PyObjectRef) → (Gets w a → ⊥) → find w (Some a) None ≡ Value a
plain-found w a none = let off : is_some (slot_at w a DescrGet) ≡ false = not-true (is_some (slot_at w a DescrGet)) none in rw off refl

pub data-wins : GetterAndSetterWins
unfolding attribute_say
data-wins w o x a e g s = (
  ap (λ c. generic_by w o (find w c (own_value w o x))) e ∙ ap (generic_by w o) (data-found w a (own_value w o x) g s),
  λ d. ap (λ c. generic_opt_by w o (find w c (value_for w o x d))) e ∙ ap (generic_opt_by w o) (data-found w a (value_for w o x d) g s),
)

pub dict-next : DictIsNext
unfolding attribute_say
dict-next w o x v none = (
  λ e. ap (λ c. generic_by w o (find w (special_at w o x) c)) e ∙ ap (generic_by w o) (dict-found w (special_at w o x) v none),
  λ d e. ap (λ c. generic_opt_by w o (find w (special_at w o x) c)) e ∙ ap (generic_opt_by w o) (dict-found w (special_at w o x) v none),
)

pub class-last : ClassIsLast
unfolding attribute_say
class-last w o x a e = (
  λ own. let both : find w (special_at w o x) (own_value w o x) ≡ find w (Some a) None = ap (λ c. find w c (own_value w o x)) e ∙ ap (find w (Some a)) own in (
    λ g. ap (generic_by w o) (both ∙ gets-found w a g),
    λ g. ap (generic_by w o) (both ∙ plain-found w a g),
  ),
  λ d own. let both : find w (special_at w o x) (value_for w o x d) ≡ find w (Some a) None = ap (λ c. find w c (value_for w o x d)) e ∙ ap (find w (Some a)) own in (
    λ g. ap (generic_opt_by w o) (both ∙ gets-found w a g),
    λ g. ap (generic_opt_by w o) (both ∙ plain-found w a g),
  ),
)

pub neither-has : NeitherHasIt
unfolding attribute_say
neither-has w o x e = (
  λ own. ap (generic_by w o) (ap (λ c. find w c (own_value w o x)) e ∙ ap (find w None) own),
  λ d own. ap (generic_opt_by w o) (ap (λ c. find w c (value_for w o x d)) e ∙ ap (find w None) own),
)

pub answer-given : AnswerIsGiven
unfolding attribute_say
answer-given w o x = (λ r. refl, λ d v. refl)

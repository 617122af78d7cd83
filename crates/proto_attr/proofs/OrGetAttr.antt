-- The row that reads an attribute, where its special method found none.
use Rattle.proto_attr.proofs.Below.{cond, Err, ap, PyObjectRef, Raised as Fault, AttributeError, Text, known_text, PlainWorld, Told, special_at, start, end, is_attribute_error, get_rest, or_get_attr}
use Rattle.std.proofs.Common.{◌≡◌}
use Rattle.py_node.specs.declared.known.Known.TheVariants as known

-- what is done then
pub get-attr-said : (w : PlainWorld) (o : PyObjectRef) (x : Text) (fault : Fault) (told : Told) → fault.kind ≡ AttributeError → get_rest w o x 1 (Err fault) told ≡ start (or_get_attr w (special_at w o (known_text known.GetAttr)) o x fault) (end w) told
get-attr-said w o x fault told kind = ap (λ k. cond (is_attribute_error k) (start (or_get_attr w (special_at w o (known_text known.GetAttr)) o x fault) (end w)) (end w (Err fault)) told) kind

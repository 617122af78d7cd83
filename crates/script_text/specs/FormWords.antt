-- The words of forms.
use Rattle.script_text.specs.Below.{codes, List, [], Option, option_map, bytes_eq, find, Text}
use Rattle.std.specs.Prelude.{◌∷◌}
use Rattle.script_text.specs.declared.form_words.FormWord.{FormWord}
use Rattle.script_text.specs.declared.form_words.FormWord.TheVariants as form

-- the words, and the form that each stands for
unfoldable pub form_words : List (Text × FormWord)
form_words =
    (codes "name", form.Name) ∷ (codes "op", form.Op) ∷ (codes "attr", form.Attr) ∷ (codes "call", form.Call)
    ∷ (codes "seq", form.Seq) ∷ (codes "bind", form.Bind) ∷ (codes "setattr", form.SetAttr) ∷ (codes "tuple", form.Tuple)
    ∷ (codes "list", form.List) ∷ (codes "dict", form.Dict) ∷ (codes "func", form.Func) ∷ (codes "func*", form.FuncRest)
    ∷ (codes "delattr", form.DelAttr) ∷ (codes "if", form.If) ∷ (codes "raise", form.Raise) ∷ (codes "class", form.Class) ∷ []

-- the form that a text stands for
abbrev pub form_named : Text → Option FormWord
form_named text = option_map (λ row. row.1) (find (λ row. bytes_eq text row.0) form_words)

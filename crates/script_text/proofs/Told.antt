-- A form is told by the word that an array begins with.
use Rattle.script_text.proofs.Below.{List, [], Bool, true, false, cond, Option, Some, None, Ok, ok_or, option_map, refl, sym, ap, ◌∙◌, Err, option_and_then, find, Data, Items, no_items, item, as_str, Text, Tree, Unread, FormWord, array_of, form_named, form_words, formed}
use Rattle.std.proofs.Common.{◌≡◌, ◌∷◌}
use Rattle.std.specs.Prelude.{bytes_eq}
use Rattle.script_text.proofs.Lists.{found}

-- what the first row that has the word gives
abbrev told : (FormWord → Option Tree) → Text → List (Text × FormWord) → Option Tree
told g word [] = None
told g word (row ∷ rows) = cond (bytes_eq word row.0) (g row.1) (told g word rows)

told-first : (g : FormWord → Option Tree) (row : Text × FormWord) (o : Option (Text × FormWord)) (later : Option Tree) (b : Bool)
    → option_and_then g (option_map (λ r. r.1) o) ≡ later → option_and_then g (option_map (λ r. r.1) (cond b (Some row) o)) ≡ cond b (g row.1) later
told-first g row o later true h = refl
told-first g row o later false h = h

told-find : (g : FormWord → Option Tree) (word : Text) (rows : List (Text × FormWord))
    → option_and_then g (option_map (λ r. r.1) (find (λ r. bytes_eq word r.0) rows)) ≡ told g word rows
told-find g word [] = refl
told-find g word (row ∷ rows) =
    told-first g row (find (λ r. bytes_eq word r.0) rows) (told g word rows) (bytes_eq word row.0) (told-find g word rows)

told-by : (g : FormWord → Option Tree) (o : Option Text)
    → option_and_then (λ word. told g word form_words) o ≡ option_and_then g (option_and_then form_named o)
told-by g None = refl
told-by g (Some word) = sym (told-find g word form_words)

array-told : (d : Data) (ds : Items) → array_of (item d ds) ≡ option_and_then (λ form. formed form ds) (option_and_then form_named (as_str d))
unfolding array_of form_words
array-told d ds = told-by (λ form. formed form ds) (as_str d)

pub array-empty : array_of no_items ≡ None
unfolding array_of
array-empty = refl

-- an array that begins with the word of a form
pub array-form : (d : Data) (ds : Items) (form : FormWord) (e : Unread) → ok_or (option_and_then form_named (as_str d)) e ≡ Ok form → array_of (item d ds) ≡ formed form ds
array-form d ds form e h =
    array-told d ds ∙ ap (option_and_then (λ f. formed f ds)) (found (option_and_then form_named (as_str d)) e form h)

unnamed : (o : Option FormWord) (e x : Unread) → ok_or o e ≡ Err x → o ≡ None
unnamed None e x h = refl
unnamed (Some form) e x h = cc

-- an array that begins with no word of a form
pub array-other : (d : Data) (ds : Items) (e x : Unread) → ok_or (option_and_then form_named (as_str d)) e ≡ Err x → array_of (item d ds) ≡ None
array-other d ds e x h =
    array-told d ds ∙ ap (option_and_then (λ f. formed f ds)) (unnamed (option_and_then form_named (as_str d)) e x h)

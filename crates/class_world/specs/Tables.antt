-- The store of expressions: the parts of each stand before it.
use Rattle.class_world.specs.Below.{ℕ, List, Some, slice_get, All, Form}
use Rattle.std.specs.Prelude.{◌≡◌, ◌<◌}
use Rattle.py_node.specs.declared.payload.Form.TheVariants as form

-- the expression's parts have numbers below n
abbrev pub IsBelow : ℕ → Form → Type 0
IsBelow n (form.Const k) = Unit {0}
IsBelow n (form.Name x) = Unit {0}
IsBelow n (form.Bind x e) = e.0 < n
IsBelow n (form.Tuple es) = All (λ e. e.0 < n) es.items
IsBelow n (form.List es) = All (λ e. e.0 < n) es.items
IsBelow n (form.Dict ps) = All (λ p. p.0.0 < n) ps.items × All (λ p. p.1.0 < n) ps.items
IsBelow n (form.Func parts) = parts.value.body.0 < n
IsBelow n (form.Attr o x) = o.0 < n
IsBelow n (form.SetAttr o x e) = (o.0 < n) × (e.0 < n)
IsBelow n (form.DelAttr o x) = o.0 < n
IsBelow n (form.Call parts) = (parts.value.function.0 < n) × All (λ e. e.0 < n) parts.value.args.items × All (λ e. e.1.0 < n) parts.value.keywords.items
IsBelow n (form.Op word es) = All (λ e. e.0 < n) es.items
IsBelow n (form.If c a b) = (c.0 < n) × (a.0 < n) × (b.0 < n)
IsBelow n (form.Seq es) = All (λ e. e.0 < n) es.items
IsBelow n (form.Raise kind) = Unit {0}
IsBelow n (form.Class parts) =
    All (λ e. e.0 < n) parts.value.bases.items × All (λ e. e.1.0 < n) parts.value.keywords.items × All (λ e. e.1.0 < n) parts.value.entries.items

-- each expression's parts stand before it
abbrev pub AreBelow : List Form → Type 0
AreBelow forms = (n : ℕ) (form : Form) → slice_get forms n ≡ Some form → IsBelow n form

-- What the parts of a form spell, and how deep they are.
use Rattle.script_text.specs.Below.{ℕ, max, false, true, List, Option, Some, option_map, option_and_then, Items, depth, items_depth, as_str, view, items_view, Tree, TName, TBind, TAttr, TSetAttr, TDelAttr, TIf, TRaise}
use Rattle.script_text.specs.declared.form_words.FormWord.{FormWord}
use Rattle.script_text.specs.declared.form_words.FormWord.TheVariants as form
use Rattle.script_text.specs.declared.form_parts.Single.{Single}
use Rattle.script_text.specs.declared.form_parts.Single.TheVariants as single
use Rattle.script_text.specs.declared.form_parts.Many.{Many}
use Rattle.script_text.specs.declared.form_parts.Many.TheVariants as many
use Rattle.script_text.specs.declared.form_parts.Parts.{Parts}
use Rattle.script_text.specs.declared.form_parts.Parts.TheVariants as parts
use Rattle.script_text.specs.JsonText.Texts.{of_two}
use Rattle.script_text.specs.Forms.{of_three, of_four, kind_named, params_of, operation, tuple, list, seq, dict, func, call, class, expr_of, exprs_of, pairs_in, entries_in, name_of, bind_of, func_of, attr_of, setattr_of, delattr_of, call_of, op_of, if_of, raise_of, class_of}

-- what a form spells of what it takes
abbrev pub formed : FormWord → Items → Option Tree
formed form.Name ds = name_of ds
formed form.Bind ds = bind_of ds
formed form.Tuple ds = option_map tuple (exprs_of ds)
formed form.List ds = option_map list (exprs_of ds)
formed form.Dict ds = option_map dict (pairs_in ds)
formed form.Func ds = func_of false ds
formed form.FuncRest ds = func_of true ds
formed form.Attr ds = attr_of ds
formed form.SetAttr ds = setattr_of ds
formed form.DelAttr ds = delattr_of ds
formed form.Call ds = call_of ds
formed form.Op ds = op_of ds
formed form.If ds = if_of ds
formed form.Seq ds = option_map seq (exprs_of ds)
formed form.Raise ds = raise_of ds
formed form.Class ds = class_of ds

-- what an expression spells with what stands beside it
abbrev pub single_tree : Single → Option Tree → Option Tree
single_tree (single.Bind n) e = of_two TBind (as_str (view n.now)) e
single_tree (single.Func rest n ps) e = of_three (func rest) (as_str (view n.now)) (params_of rest (view ps.now)) e
single_tree (single.Attr n) e = of_two TAttr e (as_str (view n.now))
single_tree (single.DelAttr n) e = of_two TDelAttr e (as_str (view n.now))

-- what expressions one after another spell
abbrev pub many_tree : Many → Option (List Tree) → Option Tree
many_tree many.Tuple es = option_map tuple es
many_tree many.List es = option_map list es
many_tree many.Seq es = option_map seq es
many_tree (many.Op word arity) es = operation (Some (word, arity)) es

-- what the parts of a form spell
abbrev pub parts_tree : Parts → Option Tree
parts_tree (parts.Name n) = option_map TName (as_str (view n.now))
parts_tree (parts.Raise k) = option_map TRaise (option_and_then kind_named (as_str (view k.now)))
parts_tree (parts.Single s e) = single_tree s (expr_of (view e.now))
parts_tree (parts.SetAttr o n e) = of_three TSetAttr (expr_of (view o.now)) (as_str (view n.now)) (expr_of (view e.now))
parts_tree (parts.If c a b) = of_three TIf (expr_of (view c.now)) (expr_of (view a.now)) (expr_of (view b.now))
parts_tree (parts.Many m es) = many_tree m (exprs_of (items_view es.now))
parts_tree (parts.Dict ps) = option_map dict (pairs_in (items_view ps.now))
parts_tree (parts.Call f es ks) =
    of_three call (expr_of (view f.now)) (exprs_of (items_view es.now)) (entries_in (items_view ks.now))
parts_tree (parts.Class n bs es ks) =
    of_four class (as_str (view n.now)) (exprs_of (items_view bs.now)) (entries_in (items_view es.now)) (entries_in (items_view ks.now))

-- how deep the parts are that spell expressions
abbrev pub parts_depth : Parts → ℕ
parts_depth (parts.Name n) = 0
parts_depth (parts.Raise k) = 0
parts_depth (parts.Single s e) = depth (view e.now)
parts_depth (parts.SetAttr o n e) = max (depth (view o.now)) (depth (view e.now))
parts_depth (parts.If c a b) = max (depth (view c.now)) (max (depth (view a.now)) (depth (view b.now)))
parts_depth (parts.Many m es) = items_depth (items_view es.now)
parts_depth (parts.Dict ps) = items_depth (items_view ps.now)
parts_depth (parts.Call f es ks) =
    max (depth (view f.now)) (max (items_depth (items_view es.now)) (items_depth (items_view ks.now)))
parts_depth (parts.Class n bs es ks) =
    max (items_depth (items_view bs.now)) (max (items_depth (items_view es.now)) (items_depth (items_view ks.now)))

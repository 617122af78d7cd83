-- Each change of a world keeps it sound.
use Rattle.class_world.proofs.Below.{true, ℕ, zero, suc, List, [], length, Some, None, refl, ap, subst, arith, get_or, map, slice_get, All, ExprRef, PyStrInterned, Node, Form, is_class, Held, IsBelow, AreBelow, IsNode, IsClass, class_in, held_class, Holds, AllHold, Lasts, of_node, of_form, SoundWith, Sound}
use Rattle.std.proofs.Common.{◌≡◌, ◌+◌, ◌<◌, ◌≤◌, ◌∷◌, ◌++◌}
use Rattle.py_node.specs.declared.payload.Form.TheVariants as form
use Rattle.class_world.proofs.Claims.{all-grow, each-push}
use Rattle.class_world.proofs.Growth.{grows-lasts, node-grows, form-grows, names-grow}

-- what holds of what each item has holds of each item
all-unmap : {A : Type 0} (f : A → ExprRef) (n : ℕ) (es : List A) → All (λ e. e.0 < n) (map f es) → All (λ e. (f e).0 < n) es
all-unmap {A} f n es h = λ i d l. go es i d l (λ j l. h j (f d) l)
  where
    at : (es : List A) (i : ℕ) (d : ExprRef) (e : A) → i < length es → get_or (map f es) i d ≡ f (get_or es i e)
    at [] i d e l = absurd (omega arith)
    at (x ∷ es) zero d e l = refl
    at (x ∷ es) (suc i) d e l = at es i d e (omega arith)

    long : (es : List A) → length (map f es) ≡ length es
    long [] = refl
    long (x ∷ es) = let r = long es in omega arith

    go : (es : List A) (i : ℕ) (d : A) → i < length es → ((j : ℕ) → j < length (map f es) → (get_or (map f es) j (f d)).0 < n) → (f (get_or es i d)).0 < n
    go es i d l k = let p = k i (omega (arith, long es)) in let e = ap (λ (x : ExprRef). x.0) (at es i (f d) d l) in omega arith

all-stored : (n : ℕ) (es : List (PyStrInterned × ExprRef)) → All (λ e. e.0 < n) (map (λ e. e.1) es) → All (λ e. e.1.0 < n) es
all-stored n es h = all-unmap (λ (e : PyStrInterned × ExprRef). e.1) n es h

-- an expression of what is there has its parts before it
pub form-below : (w : Held) (f : Form) → AllHold w (of_form f) → IsBelow (length w.forms) f
unfolding Holds
form-below w (form.Const k) h = tt
form-below w (form.Name x) h = tt
form-below w (form.Bind x e) h = h.1.0
form-below w (form.Tuple es) h = h.0
form-below w (form.List es) h = h.0
form-below w (form.Dict ps) h =
    let n = length w.forms in
    (all-unmap (λ (p : ExprRef × ExprRef). p.0) n ps.items h.0, all-unmap (λ (p : ExprRef × ExprRef). p.1) n ps.items h.1.0)
form-below w (form.Func parts) h = h.1.1.0
form-below w (form.Attr o x) h = h.0
form-below w (form.SetAttr o x e) h = (h.0, h.1.1.0)
form-below w (form.DelAttr o x) h = h.0
form-below w (form.Call parts) h = (h.0, h.1.0, all-stored (length w.forms) parts.value.keywords.items h.1.1.1.0)
form-below w (form.Op word es) h = h.0
form-below w (form.If c a b) h = (h.0, h.1.0, h.1.1.0)
form-below w (form.Seq es) h = h.0
form-below w (form.Raise kind) h = tt
form-below w (form.Class parts) h =
    (h.1.0, all-stored (length w.forms) parts.value.keywords.items h.1.1.1.0, all-stored (length w.forms) parts.value.entries.items h.1.1.1.1.1.0)

below-push : (forms : List Form) (f : Form) → AreBelow forms → IsBelow (length forms) f → AreBelow (forms ++ f ∷ [])
below-push forms f b h = λ n x e. go forms n x (λ m y k. b m y k) h e
  where
    first : (n : ℕ) (x : Form) → f ≡ x → IsBelow n f → IsBelow n x
    first n x e h = subst (IsBelow n) e h

    -- the place counts on from those that were passed
    walk : (k : ℕ) (rest : List Form) (n : ℕ) (x : Form) → ((m : ℕ) (y : Form) → slice_get rest m ≡ Some y → IsBelow (k + m) y) → IsBelow (k + length rest) f → slice_get (rest ++ f ∷ []) n ≡ Some x → IsBelow (k + n) x
    walk k [] zero x b h e = first (k + 0) x (cc) h
    walk k [] (suc n) x b h e = cc
    walk k (y ∷ rest) zero x b h e = b zero x e
    walk k (y ∷ rest) (suc n) x b h e =
        let sum : suc k + n ≡ k + suc n = omega arith in
        let len : k + length (y ∷ rest) ≡ suc k + length rest = omega arith in
        subst (λ m. IsBelow m x) sum (walk (suc k) rest n x (λ m z p. let q : k + suc m ≡ suc k + m = omega arith in subst (λ m. IsBelow m z) q (b (suc m) z p)) (subst (λ m. IsBelow m f) len h) e)

    go : (forms : List Form) (n : ℕ) (x : Form) → ((m : ℕ) (y : Form) → slice_get forms m ≡ Some y → IsBelow m y) → IsBelow (length forms) f → slice_get (forms ++ f ∷ []) n ≡ Some x → IsBelow n x
    go forms n x b h e =
        let z : 0 + n ≡ n = omega arith in
        let l : length forms ≡ 0 + length forms = omega arith in
        subst (λ m. IsBelow m x) z (walk 0 forms n x (λ m y k. let q : m ≡ 0 + m = omega arith in subst (λ m. IsBelow m y) q (b m y k)) (subst (λ m. IsBelow m f) l h) e)

pub fixed-grow : (w new : Held) → 27 ≤ length w.nodes → Lasts w new → 27 ≤ length new.nodes
unfolding Holds
fixed-grow w new h g = let k = g.still (IsNode (record { 0 = 26 })) (omega arith) in omega arith

pub built_in-grow : (w new : Held) → ((c : ℕ) → c < 23 → is_class w.classes c ≡ true) → Lasts w new → (c : ℕ) → c < 23 → is_class new.classes c ≡ true
unfolding Holds
built_in-grow w new h g = λ c l. g.still (IsClass c) (h c l)

-- each node that is a class has the class's number, counted from a number on
abbrev pub AreItself : ℕ → List Node → Type 0
AreItself k ns = (n c : ℕ) → held_class ns (record { 0 = n }) ≡ Some c → k + n ≡ c

pub itself-push : (k : ℕ) (ns : List Node) (x : Node) → ((c : ℕ) → class_in x.payload ≡ Some c → k + length ns ≡ c) → AreItself k ns → AreItself k (ns ++ x ∷ [])
itself-push k [] x h g zero c e = h c e
itself-push k [] x h g (suc n) c e = cc
itself-push k (y ∷ ns) x h g zero c e = g 0 c e
itself-push k (y ∷ ns) x h g (suc n) c e =
    let rest = itself-push (suc k) ns x (λ d q. let p = h d q in omega arith) (λ m d q. let p = g (suc m) d q in omega arith) n c e in
    omega arith

-- a node that is no class
pub other-push : (ns : List Node) (x : Node) → class_in x.payload ≡ None → ((n c : ℕ) → held_class ns (record { 0 = n }) ≡ Some c → n ≡ c) → (n c : ℕ) → held_class (ns ++ x ∷ []) (record { 0 = n }) ≡ Some c → n ≡ c
other-push ns x q g n c e = let p = itself-push 0 ns x (λ d r. cc) (λ m d r. let p = g m d r in omega arith) n c e in omega arith

pub node-sound : {Log : Type 0} (w : Held) (s : SoundWith Log w) (n : Node) → class_in n.payload ≡ None → AllHold w (of_node n) → SoundWith Log (record w { nodes = w.nodes ++ n ∷ [] })
node-sound w s n q h =
    let new = record w { nodes = w.nodes ++ n ∷ [] } in
    let go = all-grow w new (node-grows w n) in
    record { forms = go _ s.forms; below = s.below; nodes = each-push new of_node w.nodes n (go _ s.nodes) (go (of_node n) h); classes = go _ s.classes; vars = go _ s.vars; scopes = go _ s.scopes; fixed = fixed-grow w new s.fixed (grows-lasts w new (node-grows w n)); built_in = built_in-grow w new s.built_in (grows-lasts w new (node-grows w n)); own = λ b. (node-grows w n).still _ (s.own b); flags = λ b. (node-grows w n).still _ (s.flags b); of_none = (node-grows w n).still _ s.of_none; unmarked = s.unmarked; standing = λ c e. (node-grows w n).still _ (s.standing c e); itself = other-push w.nodes n q s.itself; apart = s.apart; scopes_apart = s.scopes_apart; known = s.known; logged = s.logged }

module _ (w : Held) (s : Sound w) where
  pub form-sound : (f : Form) → AllHold w (of_form f) → Sound (record w { forms = w.forms ++ f ∷ [] })
  form-sound f h =
      let new = record w { forms = w.forms ++ f ∷ [] } in
      let go = all-grow w new (form-grows w f) in
      record { forms = each-push new of_form w.forms f (go _ s.forms) (go (of_form f) h); below = below-push w.forms f s.below (form-below w f h); nodes = go _ s.nodes; classes = go _ s.classes; vars = go _ s.vars; scopes = go _ s.scopes; fixed = fixed-grow w new s.fixed (grows-lasts w new (form-grows w f)); built_in = built_in-grow w new s.built_in (grows-lasts w new (form-grows w f)); own = λ b. (form-grows w f).still _ (s.own b); flags = λ b. (form-grows w f).still _ (s.flags b); of_none = (form-grows w f).still _ s.of_none; unmarked = s.unmarked; standing = λ c e. (form-grows w f).still _ (s.standing c e); itself = s.itself; apart = s.apart; scopes_apart = s.scopes_apart; known = s.known; logged = s.logged }

  pub names-sound : (names : List (List ℕ)) → ((n : ℕ) (x : List ℕ) → slice_get w.names n ≡ Some x → slice_get names n ≡ Some x) → Sound (record w { names = names })
  names-sound names k =
      let new = record w { names = names } in
      let go = all-grow w new (names-grow w names k) in
      record { forms = go _ s.forms; below = s.below; nodes = go _ s.nodes; classes = go _ s.classes; vars = go _ s.vars; scopes = go _ s.scopes; fixed = fixed-grow w new s.fixed (grows-lasts w new (names-grow w names k)); built_in = built_in-grow w new s.built_in (grows-lasts w new (names-grow w names k)); own = λ b. (names-grow w names k).still _ (s.own b); flags = λ b. (names-grow w names k).still _ (s.flags b); of_none = (names-grow w names k).still _ s.of_none; unmarked = s.unmarked; standing = λ c e. (names-grow w names k).still _ (s.standing c e); itself = s.itself; apart = s.apart; scopes_apart = s.scopes_apart; known = λ n x e. k n x (s.known n x e); logged = s.logged }

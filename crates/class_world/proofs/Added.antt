-- Objects that are put into a world with their dicts.
use Rattle.class_world.proofs.Below.{suc, cond, List, [], length, map, Option, Some, None, Result, Ok, Err, IfOk, IfSome, OnOk, OnErr, refl, sym, ap, ◌∙◌, subst, arith, length-append, is_some, is_none, option_map, length-map, PyObjectRef, PyTypeRef, Dict, Node, Payload, PlainDict, the_dict, ADict, no_members, PyStrInterned, Classes, has_dict, ref, push_node, with_node, next_node, Held, AreEmpty, with_object, number_of_object, HasNoEntries, IsEmptyDict, Reading, datum, node_of, plain, IsNode, IsClass, IsOf, AreMembers, Holding, GetsDict, Holds, AllHold, Grows, SoundWith, Sound, home_of, home_at, class_in, of_node, of_option, of_payload}
use Rattle.std.proofs.Common.{◌≡◌, ◌+◌, ◌∷◌, ◌++◌}
use Rattle.std.specs.Prelude.{◌&&◌, true}
use Rattle.py_node.specs.declared.payload.Payload.TheVariants as payload
use Rattle.plain_machine.specs.Plain.{Node as PlainNode}
use Rattle.plain_machine.specs.World.{has_dict as plain_has_dict}
use Rattle.class_world.proofs.Claims.{all-grow, get-end}
use Rattle.class_world.proofs.Growth.{grows-itself, grows-on, node-grows}
use Rattle.class_world.proofs.Changes.{node-sound}
use Rattle.class_world.proofs.SamePlaces.{none-read, empty-hold}
use Rattle.class_world.proofs.Stored.{map-push}

dict-home : (p : Payload) → HasNoEntries p → home_of p ≡ Dict
dict-home payload.Object h = absurd h
dict-home (payload.Class c) h = absurd h
dict-home (payload.Number z) h = absurd h
dict-home (payload.Text s) h = absurd h
dict-home (payload.Tuple rs) h = absurd h
dict-home (payload.List rs) h = absurd h
dict-home (payload.Dict es) h = refl
dict-home (payload.Function f) h = absurd h
dict-home (payload.Method m) h = absurd h
dict-home (payload.NativeFunction f) h = absurd h
dict-home (payload.BuiltinMethod m) h = absurd h
dict-home (payload.MethodDescriptor m) h = absurd h
dict-home (payload.GetSet g) h = absurd h
dict-home (payload.ClassMethod r) h = absurd h
dict-home (payload.StaticMethod r) h = absurd h
dict-home (payload.Member m) h = absurd h
dict-home (payload.Property p) h = absurd h
dict-home (payload.Super s) h = absurd h
dict-home (payload.Iterator i) h = absurd h
dict-home (payload.Slice s) h = absurd h

dict-other : (p : Payload) → HasNoEntries p → class_in p ≡ None
dict-other payload.Object h = absurd h
dict-other (payload.Class c) h = absurd h
dict-other (payload.Number z) h = absurd h
dict-other (payload.Text s) h = absurd h
dict-other (payload.Tuple rs) h = absurd h
dict-other (payload.List rs) h = absurd h
dict-other (payload.Dict es) h = refl
dict-other (payload.Function f) h = absurd h
dict-other (payload.Method m) h = absurd h
dict-other (payload.NativeFunction f) h = absurd h
dict-other (payload.BuiltinMethod m) h = absurd h
dict-other (payload.MethodDescriptor m) h = absurd h
dict-other (payload.GetSet g) h = absurd h
dict-other (payload.ClassMethod r) h = absurd h
dict-other (payload.StaticMethod r) h = absurd h
dict-other (payload.Member m) h = absurd h
dict-other (payload.Property p) h = absurd h
dict-other (payload.Super s) h = absurd h
dict-other (payload.Iterator i) h = absurd h
dict-other (payload.Slice s) h = absurd h

dict-datum : (t : Reading) (p : Payload) → HasNoEntries p → datum t p ≡ ADict []
dict-datum t payload.Object h = absurd h
dict-datum t (payload.Class c) h = absurd h
dict-datum t (payload.Number z) h = absurd h
dict-datum t (payload.Text s) h = absurd h
dict-datum t (payload.Tuple rs) h = absurd h
dict-datum t (payload.List rs) h = absurd h
dict-datum t (payload.Dict es) h = ap (λ (d : PlainDict). ADict d.items) h
dict-datum t (payload.Function f) h = absurd h
dict-datum t (payload.Method m) h = absurd h
dict-datum t (payload.NativeFunction f) h = absurd h
dict-datum t (payload.BuiltinMethod m) h = absurd h
dict-datum t (payload.MethodDescriptor m) h = absurd h
dict-datum t (payload.GetSet g) h = absurd h
dict-datum t (payload.ClassMethod r) h = absurd h
dict-datum t (payload.StaticMethod r) h = absurd h
dict-datum t (payload.Member m) h = absurd h
dict-datum t (payload.Property p) h = absurd h
dict-datum t (payload.Super s) h = absurd h
dict-datum t (payload.Iterator i) h = absurd h
dict-datum t (payload.Slice s) h = absurd h

dict-read : (t : Reading) (ks : Classes PyStrInterned) (d : Node) → IsEmptyDict ks d → node_of t ks d ≡ record { class = the_dict; dict = None; members = no_members; datum = ADict [] }
dict-read t ks d e =
    let class = e.0 in
    let dict = e.1 in
    let members = none-read ks d.class.0 d.members e.2.1 in
    let datum = dict-datum t d.payload e.3 in
    λ i. record { class = class i; dict = dict i; members = members i; datum = datum i }

module _ (w : Held) (c : PyTypeRef) (ms : List (Option PyObjectRef)) (p : Payload) where
  abbrev stored : Option PyObjectRef → Node
  stored d = record { class = c; dict = d; members = ms; payload = p }

  abbrev after : Node → Held
  after d = record w { nodes = w.nodes ++ d ∷ [] }

  abbrev made : Option Node → Held
  made o = record w { nodes = with_object w.nodes o c ms p }

  object-grows : (o : Option Node) → Grows w (made o)
  object-grows None = node-grows w (stored None)
  object-grows (Some d) = grows-on w (after d) (made (Some d)) (node-grows w d) (node-grows (after d) (stored (Some (ref (length w.nodes)))))

  -- nothing stands in its places
  stored-read : (t : Reading) (d : Option PyObjectRef) → AreEmpty w.classes c.0 ms → node_of t w.classes (stored d) ≡ record { class = c.0; dict = d; members = no_members; datum = datum t p }
  stored-read t d empty = let none = none-read w.classes c.0 ms empty.1 in λ i. record { class = c.0; dict = d; members = none i; datum = datum t p }

  -- the dict is one
  dict-holding : (d : Node) → HasNoEntries d.payload → home_at (w.nodes ++ d ∷ []) (length w.nodes) ≡ Some Dict
  dict-holding d e = ap (option_map (λ (x : Node). home_of x.payload)) (get-end w.nodes d) ∙ ap Some (dict-home d.payload e)

  gets : (o : Option Node) → has_dict w.classes c.0 ≡ is_some o → Holds w (IsClass c.0) → class_in p ≡ None → Holds w (GetsDict (class_in p) c.0 (is_some o))
  unfolding Holds
  gets o g class q = (class, sym (ap (λ k. is_none k && has_dict w.classes c.0) q ∙ g))

  pub object-sound : {Log : Type 0} (o : Option Node) → AreEmpty w.classes c.0 ms → has_dict w.classes c.0 ≡ is_some o → IfSome o (IsEmptyDict w.classes) → AllHold w (of_option of_node o) → Holds w (IsClass c.0) → Holds w (IsOf c.0 (home_of p)) → class_in p ≡ None → AllHold w (of_payload p) → SoundWith Log w → SoundWith Log (made o)
  unfolding Holds
  object-sound None empty g e h class of q held s = node-sound w s (stored None) q (class, (of, (empty-hold w w.classes c.0 ms refl empty, (gets None g class q, held))))
  object-sound (Some d) empty g e h class of q held s =
      let more = node-grows w d in
      let l = length-append w.nodes (d ∷ []) in
      node-sound (after d) (node-sound w s d (dict-other d.payload e.3) h) (stored (Some (ref (length w.nodes)))) q
      (more.still (IsClass c.0) class, (more.still (IsOf c.0 (home_of p)) of, (more.still (AreMembers c.0 ms) (empty-hold w w.classes c.0 ms refl empty), (more.still (GetsDict (class_in p) c.0 true) (gets (Some d) g class q), (omega (arith, l), (dict-holding d e.3, all-grow w (after d) more (of_payload p) held))))))

  pub object-there : (o : Option Node) (r : PyObjectRef) → r ≡ number_of_object w.nodes o → Holds (made o) (IsNode r)
  unfolding Holds
  object-there None r e = let l = length-append w.nodes (stored None ∷ []) in let n : r.0 ≡ length w.nodes = ap (λ (r : PyObjectRef). r.0) e in omega (arith, l, n)
  object-there (Some d) r e =
      let l = length-append w.nodes (d ∷ []) in
      let m = length-append (w.nodes ++ d ∷ []) (stored (Some (ref (length w.nodes))) ∷ []) in
      let n : r.0 ≡ length w.nodes + 1 = ap (λ (r : PyObjectRef). r.0) e in
      omega (arith, l, m, n)

  pub object-holding : (o : Option Node) (r : PyObjectRef) → r ≡ number_of_object w.nodes o → Holds (made o) (Holding r (home_of p))
  unfolding Holds
  object-holding None r e = ap (λ (r : PyObjectRef). home_at (w.nodes ++ stored None ∷ []) r.0) e ∙ ap (option_map (λ (x : Node). home_of x.payload)) (get-end w.nodes (stored None))
  object-holding (Some d) r e =
      let new = stored (Some (ref (length w.nodes))) in
      let l = length-append w.nodes (d ∷ []) in
      let n : r.0 ≡ length (w.nodes ++ d ∷ []) = let k : r.0 ≡ length w.nodes + 1 = ap (λ (r : PyObjectRef). r.0) e in omega (arith, l, k) in
      ap (home_at ((w.nodes ++ d ∷ []) ++ new ∷ [])) n ∙ ap (option_map (λ (x : Node). home_of x.payload)) (get-end (w.nodes ++ d ∷ []) new)

  pub object-read : (t : Reading) (o : Option Node) → AreEmpty w.classes c.0 ms → IfSome o (IsEmptyDict w.classes) → plain_has_dict (plain t w) c.0 ≡ is_some o → plain t (made o) ≡ with_node (plain t w) c.0 (datum t p)
  unfolding plain
  object-read t None empty e h =
      ap (λ (ns : List PlainNode). record (plain t w) { nodes = ns }) (map-push (node_of t w.classes) w.nodes (stored None) ∙ ap (λ n. map (node_of t w.classes) w.nodes ++ n ∷ []) (stored-read t None empty))
      ∙ sym (ap (λ b. cond b (push_node (push_node (plain t w) the_dict None (ADict [])) c.0 (Some (ref (length (plain t w).nodes))) (datum t p)) (push_node (plain t w) c.0 None (datum t p))) h)
  object-read t (Some d) empty e h =
      let new = stored (Some (ref (length w.nodes))) in
      let ks = w.classes in
      let a = map-push (node_of t ks) (w.nodes ++ d ∷ []) new in
      let b = map-push (node_of t ks) w.nodes d in
      let k = dict-read t ks d e in
      let l = stored-read t (Some (ref (length w.nodes))) empty in
      let dict : map (node_of t ks) (w.nodes ++ d ∷ []) ≡ map (node_of t ks) w.nodes ++ record { class = the_dict; dict = None; members = no_members; datum = ADict [] } ∷ [] = b ∙ (λ i. map (node_of t ks) w.nodes ++ k i ∷ []) in
      let both = a ∙ (λ i. dict i ++ l i ∷ []) in
      ap (λ (ns : List PlainNode). record (plain t w) { nodes = ns }) both
      ∙ ap (λ n. push_node (push_node (plain t w) the_dict None (ADict [])) c.0 (Some (ref n)) (datum t p)) (sym (length-map w.nodes (node_of t w.classes)))
      ∙ sym (ap (λ b. cond b (push_node (push_node (plain t w) the_dict None (ADict [])) c.0 (Some (ref (length (plain t w).nodes))) (datum t p)) (push_node (plain t w) c.0 None (datum t p))) h)

  object-number : (t : Reading) (o : Option Node) (r : PyObjectRef) → plain_has_dict (plain t w) c.0 ≡ is_some o → r ≡ number_of_object w.nodes o → r ≡ next_node (plain t w) c.0
  unfolding plain
  object-number t None r h e =
      e ∙ ap ref (sym (length-map w.nodes (node_of t w.classes))) ∙ sym (ap (λ b. ref (cond b (length (plain t w).nodes + 1) (length (plain t w).nodes))) h)
  object-number t (Some d) r h e =
      e ∙ ap (λ n. ref (n + 1)) (sym (length-map w.nodes (node_of t w.classes))) ∙ sym (ap (λ b. ref (cond b (length (plain t w).nodes + 1) (length (plain t w).nodes))) h)

  -- it comes last
  object-last : (o : Option Node) (r : PyObjectRef) → r ≡ number_of_object w.nodes o → length (with_object w.nodes o c ms p) ≡ suc r.0
  object-last None r e = let l = length-append w.nodes (stored None ∷ []) in let n : r.0 ≡ length w.nodes = ap (λ (r : PyObjectRef). r.0) e in omega (arith, l, n)
  object-last (Some d) r e =
      let l = length-append w.nodes (d ∷ []) in
      let m = length-append (w.nodes ++ d ∷ []) (stored (Some (ref (length w.nodes))) ∷ []) in
      let n : r.0 ≡ length w.nodes + 1 = ap (λ (r : PyObjectRef). r.0) e in
      omega (arith, l, m, n)

  -- an object is added, or memory ran out and nothing changed
  module _ {E : Type 0} (o : Option Node) (ns : List Node) where
    pub added-sound : (r : Result PyObjectRef E) → AreEmpty w.classes c.0 ms → has_dict w.classes c.0 ≡ is_some o → OnOk r (ns ≡ with_object w.nodes o c ms p) → OnErr r (ns ≡ w.nodes) → IfSome o (IsEmptyDict w.classes) → AllHold w (of_option of_node o) → Holds w (IsClass c.0) → Holds w (IsOf c.0 (home_of p)) → class_in p ≡ None → AllHold w (of_payload p) → Sound w → Sound (record w { nodes = ns })
    added-sound (Ok a) empty g q f e h class of k held s = subst (λ ns. Sound (record w { nodes = ns })) (sym q) (object-sound o empty g e h class of k held s)
    added-sound (Err a) empty g q f e h class of k held s = subst (λ ns. Sound (record w { nodes = ns })) (sym f) s

    pub added-grows : (r : Result PyObjectRef E) → OnOk r (ns ≡ with_object w.nodes o c ms p) → OnErr r (ns ≡ w.nodes) → Grows w (record w { nodes = ns })
    added-grows (Ok a) q f = subst (λ ns. Grows w (record w { nodes = ns })) (sym q) (object-grows o)
    added-grows (Err a) q f = subst (λ ns. Grows w (record w { nodes = ns })) (sym f) (grows-itself w)

    pub added-read : (now : Held) (r : Result PyObjectRef E) → w ≡ now → AreEmpty w.classes c.0 ms → OnOk r (ns ≡ with_object w.nodes o c ms p) → IfSome o (IsEmptyDict w.classes) → ((t : Reading) → plain_has_dict (plain t now) c.0 ≡ is_some o) → OnOk r ((t : Reading) → plain t (record w { nodes = ns }) ≡ with_node (plain t now) c.0 (datum t p))
    added-read now (Ok a) v empty q e h = λ t.
        ap (λ (ns : List Node). plain t (record w { nodes = ns })) q
        ∙ object-read t o empty e (ap (λ u. plain_has_dict (plain t u) c.0) v ∙ h t)
        ∙ ap (λ u. with_node (plain t u) c.0 (datum t p)) v
    added-read now (Err a) v empty q e h = tt

    pub added-number : (now : Held) (r : Result PyObjectRef E) → w ≡ now → IfOk r (λ n. n ≡ number_of_object w.nodes o) → ((t : Reading) → plain_has_dict (plain t now) c.0 ≡ is_some o) → IfOk r (λ n. (t : Reading) → n ≡ next_node (plain t now) c.0)
    added-number now (Ok n) v q h = λ t. object-number t o n (ap (λ u. plain_has_dict (plain t u) c.0) v ∙ h t) q ∙ ap (λ u. next_node (plain t u) c.0) v
    added-number now (Err a) v q h = tt

    pub added-there : (r : Result PyObjectRef E) → OnOk r (ns ≡ with_object w.nodes o c ms p) → IfOk r (λ n. n ≡ number_of_object w.nodes o) → IfOk r (λ n. Holds (record w { nodes = ns }) (IsNode n))
    added-there (Ok n) q e = subst (λ ns. Holds (record w { nodes = ns }) (IsNode n)) (sym q) (object-there o n e)
    added-there (Err a) q e = tt

    pub added-holding : (r : Result PyObjectRef E) → OnOk r (ns ≡ with_object w.nodes o c ms p) → IfOk r (λ n. n ≡ number_of_object w.nodes o) → IfOk r (λ n. Holds (record w { nodes = ns }) (Holding n (home_of p)))
    added-holding (Ok n) q e = subst (λ ns. Holds (record w { nodes = ns }) (Holding n (home_of p))) (sym q) (object-holding o n e)
    added-holding (Err a) q e = tt

    pub added-last : (r : Result PyObjectRef E) → OnOk r (ns ≡ with_object w.nodes o c ms p) → IfOk r (λ n. n ≡ number_of_object w.nodes o) → IfOk r (λ n. length ns ≡ suc n.0)
    added-last (Ok n) q e = ap (λ (ns : List Node). length ns) q ∙ object-last o n e
    added-last (Err a) q e = tt

use Rattle.class_world.proofs.Lemmas.{true, false, None, refl, sym, ap, ◌∙◌, refused_class, cause_of, the_view, Holds, IsNode, IsClass, of_node, with_class_ref, got, opened-one, each-get, grows-seen, change-grows, change-sound, change-read, class-moved, class-set-holds, class-told, same-layout, was-heap}
use Rattle.std.proofs.Common.{◌≡◌}
use Rattle.class_world.proofs.world.World.set_class.Goals as goal

pub index-requires : goal.index-requires
unfolding Holds
index-requires c = rw c.self.inside.nodes.ok.0 (opened-one (the_view c.self.inside) c.args.self.now (IsNode c.args.object) c.self.view_is c.requires.object)

pub may_become-requires-clause-class : goal.may_become-requires-clause-class
unfolding Holds
may_become-requires-clause-class c =
    let w = the_view c.self.inside in
    let here = opened-one w c.args.self.now (IsNode c.args.object) c.self.view_is c.requires.object in
    let n = c.index.result.now in
    (each-get w of_node w.nodes c.args.object.0 n (got w.nodes c.args.object.0 n here c.index.ensures) c.self.invariant.nodes).0

pub may_become-requires-clause-other : goal.may_become-requires-clause-other
unfolding Holds
may_become-requires-clause-other c = opened-one (the_view c.self.inside) c.args.self.now (IsClass c.args.class.0) c.self.view_is c.requires.class

pub index_mut-requires : goal.index_mut-requires
unfolding Holds
index_mut-requires c = rw c.self.inside.nodes.ok.0 (opened-one (the_view c.self.inside) c.args.self.now (IsNode c.args.object) c.self.view_is c.requires.object)

pub invariant_of-self : goal.invariant_of-self
unfolding Holds
invariant_of-self c =
    let w = the_view c.self.inside in
    let now = c.args.self.now in
    let here = opened-one w now (IsNode c.args.object) c.self.view_is c.requires.object in
    let class = opened-one w now (IsClass c.args.class.0) c.self.view_is c.requires.class in
    let m = c.index.result.now in
    let n = c.index_mut.result.now in
    let first = got w.nodes c.args.object.0 m here c.index.ensures in
    let second = got w.nodes c.args.object.0 n here c.index_mut.ensures.value in
    let same : m ≡ n = cc in
    let passed : refused_class w.classes n.class.0 c.args.class.0 ≡ None = sym (ap (λ x. refused_class w.classes x.class.0 c.args.class.0) same) ∙ sym c.may_become.ensures ∙ ap cause_of c.in-Ok.is in
    rw c.set_class.ensures (change-sound w c.args.object n (with_class_ref n c.args.class) c.index_mut.ensures.value refl (λ h. let no : false ≡ true = sym h ∙ was-heap w.classes n.class.0 c.args.class.0 passed in cc no) (class-set-holds w n c.args.class c.sound.ensures.sound (each-get w of_node w.nodes c.args.object.0 n second c.self.invariant.nodes) class passed) c.self.invariant)

pub returns-in-Ok-clause-refused : goal.returns-in-Ok-clause-refused
unfolding Holds
returns-in-Ok-clause-refused c = λ t.
    let w = the_view c.self.inside in
    let here = opened-one w c.args.self.now (IsNode c.args.object) c.self.view_is c.requires.object in
    let m = c.index.result.now in
    sym (class-told w c.args.self.now c.self.view_is t c.args.object m (got w.nodes c.args.object.0 m here c.index.ensures) c.args.class.0 ∙ sym c.may_become.ensures ∙ ap cause_of c.in-Ok.is)

pub returns-in-Ok-clause-set : goal.returns-in-Ok-clause-set
unfolding Holds
returns-in-Ok-clause-set c = λ t.
    let w = the_view c.self.inside in
    let here = opened-one w c.args.self.now (IsNode c.args.object) c.self.view_is c.requires.object in
    let class = opened-one w c.args.self.now (IsClass c.args.class.0) c.self.view_is c.requires.class in
    let m = c.index.result.now in
    let n = c.index_mut.result.now in
    let first = got w.nodes c.args.object.0 m here c.index.ensures in
    let second = got w.nodes c.args.object.0 n here c.index_mut.ensures.value in
    let same : m ≡ n = cc in
    let passed : refused_class w.classes n.class.0 c.args.class.0 ≡ None = sym (ap (λ x. refused_class w.classes x.class.0 c.args.class.0) same) ∙ sym c.may_become.ensures ∙ ap cause_of c.in-Ok.is in
    let old = (each-get w of_node w.nodes c.args.object.0 n second c.self.invariant.nodes).0 in
    let moved = class-moved t w.classes n c.args.class (same-layout w.classes c.sound.ensures.sound n.class.0 c.args.class.0 old class passed) in
    rw c.set_class.ensures (change-read w c.args.self.now c.self.view_is c.args.object n (with_class_ref n c.args.class) (λ x. record x { class = c.args.class.0 }) t here c.index_mut.ensures.value moved)

pub returns-in-Ok-clause-grows : goal.returns-in-Ok-clause-grows
unfolding Holds
returns-in-Ok-clause-grows c =
    let w = the_view c.self.inside in
    let here = opened-one w c.args.self.now (IsNode c.args.object) c.self.view_is c.requires.object in
    let m = c.index.result.now in
    let n = c.index_mut.result.now in
    let first = got w.nodes c.args.object.0 m here c.index.ensures in
    let second = got w.nodes c.args.object.0 n here c.index_mut.ensures.value in
    let same : m ≡ n = cc in
    let passed : refused_class w.classes n.class.0 c.args.class.0 ≡ None = sym (ap (λ x. refused_class w.classes x.class.0 c.args.class.0) same) ∙ sym c.may_become.ensures ∙ ap cause_of c.in-Ok.is in
    rw c.set_class.ensures (grows-seen w _ _ c.self.view_is (change-grows w c.args.object n (with_class_ref n c.args.class) c.index_mut.ensures.value refl (λ h. let no : false ≡ true = sym h ∙ was-heap w.classes n.class.0 c.args.class.0 passed in cc no)))

pub returns-in-Err-clause-refused : goal.returns-in-Err-clause-refused
unfolding Holds
returns-in-Err-clause-refused c = λ t.
    let w = the_view c.self.inside in
    let here = opened-one w c.args.self.now (IsNode c.args.object) c.self.view_is c.requires.object in
    let m = c.index.result.now in
    sym (class-told w c.args.self.now c.self.view_is t c.args.object m (got w.nodes c.args.object.0 m here c.index.ensures) c.args.class.0 ∙ sym c.may_become.ensures ∙ ap cause_of c.in-Err.is)

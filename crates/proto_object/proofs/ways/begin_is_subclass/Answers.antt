use Rattle.proto_object.proofs.Lemmas.{ap, ◌∙◌, [], Subclasscheck, known_text, DoSpecial, ToAttribute, plain, way_of, way_number, subclass, subclass-is, at-once, called, each, plainly}
use Rattle.proto_object.proofs.ways.begin_is_subclass.Goals as goal

pub returns-in-AtOnce-clause-goes : goal.returns-in-AtOnce-clause-goes
returns-in-AtOnce-clause-goes c =
    let a = c.args in
    rw c.says.ensures (at-once (subclass a.d a.c) (subclass-is a.d a.c) a.world.now (λ t r. ap (λ b. way_of (plain t a.world.now) b Subclasscheck a.c) (c.is_one_class-at_once.ensures t) ∙ c.way_of.ensures t r ∙ ap way_number c.in-AtOnce.is))

pub returns-in-Plainly-clause-goes : goal.returns-in-Plainly-clause-goes
returns-in-Plainly-clause-goes c =
    let a = c.args in
    plainly (subclass a.d a.c) (subclass-is a.d a.c) a.world.now (λ t r. ap (λ b. way_of (plain t a.world.now) b Subclasscheck a.c) (c.is_one_class-at_once.ensures t) ∙ c.way_of.ensures t r ∙ ap way_number c.in-Plainly.is)

pub returns-in_ok-items-in-ByEach-clause-goes : goal.returns-in_ok-items-in-ByEach-clause-goes
returns-in_ok-items-in-ByEach-clause-goes c =
    let a = c.args in
    rw c.take_turn.ensures.step (each (subclass a.d a.c) (subclass-is a.d a.c) a.world.now c.in_ok-items-in-ByEach.items (λ t r. ap (λ b. way_of (plain t a.world.now) b Subclasscheck a.c) (c.is_one_class-at_once.ensures t) ∙ c.way_of.ensures t r ∙ ap way_number c.in-ByEach.is) c.in_ok-items-in-ByEach.ensures.items)

pub returns-in_ok-args-in-Called-clause-goes : goal.returns-in_ok-args-in-Called-clause-goes
returns-in_ok-args-in-Called-clause-goes c =
    let a = c.args in
    called (subclass a.d a.c) (subclass-is a.d a.c) a.world.now c.special-task.result (λ t r. ap (λ b. way_of (plain t a.world.now) b Subclasscheck a.c) (c.is_one_class-at_once.ensures t) ∙ c.way_of.ensures t r ∙ ap way_number c.in-Called.is) (λ t r. c.special-task.ensures.task t r ∙ ap (λ rs. ToAttribute (DoSpecial a.c (known_text Subclasscheck) rs [])) c.in_ok-args-in-Called.ensures.items)

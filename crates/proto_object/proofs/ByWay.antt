-- The ways of a test by a class.
use Rattle.proto_object.proofs.Below.{ℕ, [], true, Ok, refl, sym, ap, ◌∙◌, subst, eqb, Vec, PyObjectRef, Known, Instancecheck, Subclasscheck, known_text, ObjectTask, Truth, Step, Ask, End, Task, the_type, DoSpecial, ToAttribute, ToObject, Chose, Row, PlainWorld, Told, ReadObjects, noting, choose, object_job, World, Reading, Reads, plain, task_of, Steps, Goes, items_at, says, any_of, is_exactly, ObjectKept, AfterCheck, Each, Turn, InstanceOf, SubclassOf, by_way, way_of, object_job_say, Begins, object_group, object_stands, turn_job, turn_step, steps-noting}
use Rattle.std.proofs.Common.{◌≡◌, ◌∷◌, ◌&&◌}
use Rattle.py_node.specs.declared.protocol.ObjectTask.TheVariants as object
use Rattle.py_node.specs.declared.task.Task.TheVariants as task
use Rattle.proto_object.specs.declared.ObjectKept.TheVariants.{Pass}
use Rattle.proto_object.proofs.InTurn.{reads-each}

-- a test by a class: its task, the name of the special method, what is tested and the class, what is asked in the plain way and of each object of a tuple, and the way that it has
pub record Test : Type 0 where
  pub whole : ObjectTask
  pub name : Known
  pub object : PyObjectRef
  pub class : PyObjectRef
  pub plainly : ObjectTask
  pub turn : Turn
  pub way : PlainWorld → ℕ

-- its row, in one of the ways
abbrev by : Test → PlainWorld → ℕ → Row
by p u = by_way u p.name p.object p.class (ToObject (object_job p.plainly)) (turn_job p.turn)

abbrev IsTest : Test → Type 0
IsTest p = (u : PlainWorld) (told : Told) → object_job_say u (object_job p.whole) told ≡ choose (p.way u) (by p u) told

-- whether an object is an instance of a class
abbrev pub instance : PyObjectRef → PyObjectRef → Test
instance o c =
    record { whole = object.IsInstance o c; name = Instancecheck; object = o; class = c; plainly = object.Inst o c; turn = InstanceOf o; way = λ u. way_of u (is_exactly u o c.0) Instancecheck c }

-- whether a class is a subclass of another
abbrev pub subclass : PyObjectRef → PyObjectRef → Test
subclass d c =
    record { whole = object.IsSubclass d c; name = Subclasscheck; object = d; class = c; plainly = object.Sub d c; turn = SubclassOf d; way = λ u. way_of u (is_exactly u c the_type && eqb d.0 c.0) Subclasscheck c }

pub instance-is : (o c : PyObjectRef) → IsTest (instance o c)
unfolding object_job_say
instance-is o c = λ u told. refl

pub subclass-is : (d c : PyObjectRef) → IsTest (subclass d c)
unfolding object_job_say
subclass-is d c = λ u told. refl

module _ (p : Test) (is : IsTest p) (w : World) where
  abbrev Has : ℕ → Type 0
  Has n = (t : Reading) → Reads t w → p.way (plain t w) ≡ n

  steps : (n : ℕ) (step : Step ObjectKept) → Has n → Goes object_group (λ t u. by p u n) w w step → Begins p.whole w w step
  steps n step way h = λ t q.
      let k = h t q in
      let u = plain t w in
      let row = λ (v : PlainWorld). object_job_say v (object_job p.whole) in
      (k.0, subst (λ s. Steps (object_stands t) t row s step w) (sym (is u [] ∙ ap (λ m. noting (Chose m) (by p u m [])) (way t q))) (steps-noting (object_stands t) t (λ v. by p v n) row (Chose n) (λ v more. is v (Chose n ∷ more)) (by p u n []) step w k.1))

  pub at-once : Has 0 → Begins p.whole w w (End (Ok (Truth true)))
  at-once way = steps 0 (End (Ok (Truth true))) way (λ t q. (q, (refl, refl)))

  pub plainly : Has 1 → Begins p.whole w w (Ask (task.Object p.plainly) Pass)
  plainly way = steps 1 (Ask (task.Object p.plainly) Pass) way (λ t q. (q, (refl, refl, λ u r more. refl)))

  pub called : (asked : Task) → Has 3 → ((t : Reading) → Reads t w → task_of t asked ≡ ToAttribute (DoSpecial p.class (known_text p.name) (p.object ∷ []) [])) → Begins p.whole w w (Ask asked AfterCheck)
  called asked way e = steps 3 (Ask asked AfterCheck) way (λ t q. (q, (e t q, refl, λ u r more. refl)))

  pub each : (items : Vec PyObjectRef) → Has 2 → ((t : Reading) → items_at (plain t w) p.class ≡ items.items) → Begins p.whole w w (turn_step p.turn items.items (Each p.turn items 1))
  each items way at =
      steps 2 (turn_step p.turn items.items (Each p.turn items 1)) way (reads-each w p.turn items (λ t u. by p u 2) (λ t u more. refl) (λ t. ap (λ l. noting (ReadObjects l) (any_of (plain t w) (turn_job p.turn) says l [])) (at t)))

-- How the step from a point of a row follows from what is said there.
use Rattle.row_kit.proofs.Below.{[], Ok, Err, IfOk, ◌∙◌, refl, sym, subst, Result, Raised as Fault, Answer, End, PlainWorld, Said, Ends, World, Reading, EndsAs}
use Rattle.std.proofs.Common.{◌≡◌, ◌++◌, ◌∷◌}
use Rattle.plain_machine.specs.Plain.{Told, Ended, Asks, Answered, Fact}
use Rattle.plain_machine.specs.Row.{noting}
use Rattle.py_node.specs.declared.task.Task.{Task}
use Rattle.py_node.specs.declared.task.Step.{Step}
use Rattle.py_node.specs.declared.task.Step.TheVariants.{Ask}
use Rattle.class_world.specs.Reading.{Reads, plain, task_of}
use Rattle.row_kit.specs.Points.{Follows, Goes, Group, Point, Steps, among}

module _ {T K : Type 0} (g : Group T K) (row : Reading → Point) (said : Reading → PlainWorld → Said) (old new : World) where
  -- what is said is what was read
  pub read-follows : (other : Reading → PlainWorld → Said) (step : Step K) → ((t : Reading) → Reads t old → said t (plain t old) ≡ other t (plain t old)) → Follows g row other old new step → Follows g row said old new step
  read-follows other step same h = λ t q.
      let k = h t q in
      (k.0, subst (λ s. Steps (g.stands t) t (row t) s step new) (sym (same t k.0)) k.1)

  -- the row ends so
  pub ends-follow : (r : Result Answer Fault) → EndsAs said old new r → Follows g row said old new (End r)
  ends-follow r h = λ t q.
      let k = h t q in
      (k.0, subst (λ s. Steps (g.stands t) t (row t) s (End r) new) (sym k.1) (refl, refl))

  -- the row asks this, and goes on as what is kept stands for
  pub asks-follow : (learnt : Told) (asked : Task) (kept : K) → ((t : Reading) → Reads t new → Reads t old × (said t (plain t old) ≡ Asks (plain t new) learnt (task_of t asked))) → ((t : Reading) (u : PlainWorld) (r : Ended) (more : Told) → row t u (learnt ++ Answered r ∷ more) ≡ g.stands t kept r u more) → Follows g row said old new (Ask asked kept)
  asks-follow learnt asked kept h on = λ t q.
      let k = h t q in
      (k.0, subst (λ s. Steps (g.stands t) t (row t) s (Ask asked kept) new) (sym k.1) (refl, refl, on t))

-- a row that does the same in each world, whatever it is told
pub steps-on : {K : Type 0} (stands : K → Ended → Point) (t : Reading) (row other : Point) → ((u : PlainWorld) (more : Told) → row u more ≡ other u more) → (said : Said) (step : Step K) (new : World) → Steps stands t other said step new → Steps stands t row said step new
steps-on stands t row other same (Asks w learnt task) (Ask asked kept) new h = (h.0, h.1, λ u r more. same u (learnt ++ Answered r ∷ more) ∙ h.2 u r more)
steps-on stands t row other same (Asks w learnt task) (End r) new h = h
steps-on stands t row other same (Ends w r) (Ask asked kept) new h = h
steps-on stands t row other same (Ends w r) (End s) new h = h

-- a row that notes a fact first, and then goes on as another
pub steps-noting : {K : Type 0} (stands : K → Ended → Point) (t : Reading) (row whole : Point) (fact : Fact) → ((u : PlainWorld) (more : Told) → whole u (fact ∷ more) ≡ row u more) → (said : Said) (step : Step K) (new : World) → Steps stands t row said step new → Steps stands t whole (noting fact said) step new
steps-noting stands t row whole fact on (Asks w learnt task) (Ask asked kept) new h = (h.0, h.1, λ u r more. on u (learnt ++ Answered r ∷ more) ∙ h.2 u r more)
steps-noting stands t row whole fact on (Asks w learnt task) (End r) new h = h
steps-noting stands t row whole fact on (Ends w r) (Ask asked kept) new h = h
steps-noting stands t row whole fact on (Ends w r) (End s) new h = h

module _ {T K : Type 0} (g : Group T K) (row whole : Reading → Point) where
  pub goes-noting : (fact : Fact) → ((t : Reading) (u : PlainWorld) (more : Told) → whole t u (fact ∷ more) ≡ row t u more) → (old new : World) (step : Step K) → ((t : Reading) → whole t (plain t old) [] ≡ noting fact (row t (plain t old) [])) → Goes g row old new step → Goes g whole old new step
  goes-noting fact on old new step says h = λ t q.
      let k = h t q in
      (k.0, subst (λ s. Steps (g.stands t) t (whole t) s step new) (sym (says t)) (steps-noting (g.stands t) t (row t) (whole t) fact (on t) (row t (plain t old) []) step new k.1))

  pub goes-read : (old new : World) (step : Step K) → ((t : Reading) → Reads t old → (u : PlainWorld) (more : Told) → whole t u more ≡ row t u more) → Goes g row old new step → Goes g whole old new step
  goes-read old new step same h = λ t q.
      let k = h t q in
      let u = plain t old in
      (k.0, steps-on (g.stands t) t (whole t) (row t) (same t k.0) (whole t u []) step new (subst (λ s. Steps (g.stands t) t (row t) s step new) (sym (same t k.0 u [])) k.1))

  pub goes-as : ((t : Reading) (u : PlainWorld) (more : Told) → whole t u more ≡ row t u more) → (old new : World) (step : Step K) → Goes g row old new step → Goes g whole old new step
  goes-as same old new step h = goes-read old new step (λ t q. same t) h

-- what follows of each step, where there is one
pub ok-map : {A E : Type 0} (P Q : A → Type 0) (r : Result A E) → ((x : A) → P x → Q x) → IfOk r P → IfOk r Q
ok-map P Q (Ok x) f h = f x h
ok-map P Q (Err e) f h = tt

-- what a group's row does is what it does among all
module _ {T U K A : Type 0} (own : Group T K) (all : Group U A) (for : K → A) (keeps : (t : Reading) (k : K) (r : Ended) (u : PlainWorld) (more : Told) → all.stands t (for k) r u more ≡ own.stands t k r u more) where
  steps-among : (t : Reading) (row : Point) (said : Said) (step : Step K) (new : World) → Steps (own.stands t) t row said step new → Steps (all.stands t) t row said (among for step) new
  steps-among t row (Asks w learnt task) (Ask asked kept) new h = (h.0, h.1, λ u r more. h.2 u r more ∙ sym (keeps t kept r u more))
  steps-among t row (Asks w learnt task) (End r) new h = h
  steps-among t row (Ends w r) (Ask asked kept) new h = h
  steps-among t row (Ends w r) (End s) new h = h

  pub goes-among : (row whole : Reading → Point) → ((t : Reading) (u : PlainWorld) (more : Told) → whole t u more ≡ row t u more) → (old new : World) (step : Step K) → Goes own row old new step → Goes all whole old new (among for step)
  goes-among row whole same old new step h = λ t q.
      let k = h t q in
      let u = plain t old in (
        k.0,
        steps-on (all.stands t) t (whole t) (row t) (same t) (whole t u []) (among for step) new
            (subst (λ s. Steps (all.stands t) t (row t) s (among for step) new) (sym (same t u [])) (steps-among t (row t) (row t u []) step new k.1)),
      )

-- What calls tell that make an object before or after they ask a task.
use Rattle.vm_calls.proofs.Below.{ℕ, ℤ, true, List, Result, Ok, IsTrue, length, cond, nat_le, subst, ap, ◌∙◌, Vec, IfOk-weaker, PyObjectRef, TooLong, Answer, PyResult, Done, Task, Out, answer, the_int, Datum, ANumber, PlainWorld, PlainTask, most_items, with_node, next_node, Held, Reading, plain, task_of, Claim, grows-on, RunFault, Asked, ending_in, unnoted, say, State, EndIs, Tells, AskedWith, MakesNode, TellsItems, TellsMadeOf, ToldWith, lacks, made_of}
use Rattle.std.proofs.Common.{◌≡◌}
use Rattle.vm_calls.specs.Told.{Told}

-- what an answer is told of is no failed machine
was-clear : {A : Type 0} (Leads : Held → Held → A → Type 0) (of : A → List Claim) (old new : State) (x : A) → Tells Leads of old new (Ok x) → IsTrue old.failed → ⊥
was-clear Leads of old new x h f = let e = (h.failed f).0 in cc

module _ {T : Type 0} (z : ℤ) (Is : T → Answer → Type 0) (of : T → List Claim) (asked : PyObjectRef → PlainTask) (units : ℕ) (old mid new : State) (k : PyObjectRef) (n : MakesNode the_int (λ t. ANumber z) old mid (Ok k)) (job : Task) (is : (t : Reading) → task_of t job ≡ asked k) where
  -- the world in which the task was asked is the one with the number
  with-number : (end : PyResult Answer) → Asked job mid.world units new.world end → AskedWith z asked units old.world new.world end
  with-number end h t r =
      let g = h t r in
      let m = n.leads t g.0 in
      let e : task_of t job ≡ asked (next_node (plain t old.world) the_int) = is t ∙ ap asked m.2 in
      (m.0, g.1, subst (λ (w : PlainWorld). unnoted (answer say w (asked (next_node (plain t old.world) the_int)) units 0) ≡ Out (plain t new.world) (ending_in end) g.1) m.1 (subst (λ (j : PlainTask). unnoted (answer say (plain t mid.world) j units 0) ≡ Out (plain t new.world) (ending_in end) g.1) e g.2))

  -- a number was made, and then the task was asked
  pub by-number : (result : Result (PyResult T) RunFault) → Told Is of job units mid new result → ToldWith Is of z asked units old new result
  by-number result h = record {
    leads = IfOk-weaker result _ _ (λ told (x : EndIs (λ w. Asked job w units) Is mid.world new.world told). (x.0, with-number x.0 x.1, x.2)) h.leads;
    holds = h.holds;
    failed = λ f. absurd (was-clear _ _ old mid k n f);
    memory = λ f e. h.memory (n.works ∙ f) e;
    works = IfOk-weaker result _ _ (λ told e. e ∙ n.works) h.works;
    gives_up = h.gives_up;
    readable = h.readable;
    grows = grows-on old.world mid.world new.world n.grows h.grows;
    rests = h.rests;
    sound = h.sound;
  }

module _ (class : ℕ) (datum : List PyObjectRef → Datum) (o : PyObjectRef) (units : ℕ) (old mid new : State) (items : Vec PyObjectRef) (r : PyObjectRef) where
  -- so many items become one object
  is-made : (t : Reading) (told : PyResult (Vec PyObjectRef)) → told ≡ Done items → nat_le (length items.items) most_items ≡ true → plain t new.world ≡ with_node (plain t mid.world) class (datum items.items) → r ≡ next_node (plain t mid.world) class → made_of class datum (plain t mid.world) told ≡ (plain t new.world, Done r)
  is-made t told is few p q =
      ap (made_of class datum (plain t mid.world)) is
      ∙ ap (λ b. cond b (with_node (plain t mid.world) class (datum items.items), Done (next_node (plain t mid.world) class)) (plain t mid.world, lacks TooLong)) few
      ∙ cc

  -- the items were told, and then an object was made of them
  pub items-made : (told : PyResult (Vec PyObjectRef)) → TellsItems o units old mid (Ok told) → told ≡ Done items → nat_le (length items.items) most_items ≡ true → MakesNode class (λ t. datum items.items) mid new (Ok r) → TellsMadeOf class datum o units old new (Ok (Done r))
  items-made told h done few n =
      let l = h.leads in
      record {
        leads = (told, l.0, l.2, λ t s. let m = n.leads t s in let g = l.1 t m.0 in (g.0, plain t mid.world, g.1, g.2, is-made t told done few m.1 m.2));
        holds = n.holds;
        failed = λ f. absurd (was-clear _ _ old mid told h f);
        memory = λ f e. cc;
        works = n.works ∙ h.works;
        gives_up = tt;
        readable = n.readable;
        grows = grows-on old.world mid.world new.world h.grows n.grows;
        rests = n.rests;
        sound = n.sound;
      }

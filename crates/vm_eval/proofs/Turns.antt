-- One turn of the machine keeps the outcome, whatever the rows are.
use Rattle.vm_eval.proofs.Below.{ℕ, zero, suc, List, [], length, Ok, Err, IfOk, Bool, refl, subst, sym, ap, ◌∙◌, arith, zero-add, true, false, cond, nat_lt, le-ltb, ltb-true, ltb-false, length-append, append_assoc, sum_by_push, DepthLimit, Raised as Fault, Answer, Task, Step, Ask, End, PlainWorld, PlainTask, Answered, Told, Said, Asks, Ends, fault, Over, NoUnits, Outcome, Out, asked, step, reach, reach-is, steps-on, World, Reading, Reads, plain, task_of, ended_of, Steps, AllHold, of_task, LeavesOpen, each-pop, each-push, all-first, all-last, all-rest, lasts-on, same-lasts, Kept, say, stands, of_kept, bodies_in, Begins, Resumes, Reaches, IsTaken, Comes, IsFirst, IsFirstAbove, IsNext, EndsDeep}
use Rattle.vm_eval.proofs.Way.{Pending, finish, unwind, coming, AllWait, Waits, WaitsAt, BeginsAt, IsOnItsWay, IsUnderWay, turns_more}
unfoldable use Rattle.vm_eval.proofs.Way.{LeadsTo}
use Rattle.std.proofs.Common.{◌≡◌, ◌+◌, ◌<◌, ◌≤◌, ◌∷◌, ◌++◌}
use Rattle.std.specs.Prelude.{Result}
use Rattle.vm_eval.specs.declared.stack.End.TheVariants as code
use Rattle.vm_eval.specs.declared.stack.Next.{Next}
use Rattle.vm_eval.specs.declared.stack.Next.TheVariants as next

unwind-append : (depth : ℕ) (ps : List Pending) (p : Pending) (o : Outcome) → unwind depth (ps ++ p ∷ []) o ≡ unwind depth ps (finish p (depth + length ps) o)
unwind-append depth [] p o = let e : depth ≡ depth + 0 = omega arith in ap (λ n. finish p n o) e
unwind-append depth (q ∷ ps) p o =
    let e : suc depth + length ps ≡ depth + suc (length ps) = omega arith in
    ap (finish q depth) (unwind-append (suc depth) ps p o ∙ ap (λ n. unwind (suc depth) ps (finish p n o)) e)

unwind-push : (ps : List Pending) (p : Pending) (o : Outcome) → unwind 0 (ps ++ p ∷ []) o ≡ unwind 0 ps (finish p (length ps) o)
unwind-push ps p o = unwind-append 0 ps p o ∙ ap (λ n. unwind 0 ps (finish p n o)) (zero-add (length ps))

unwind-no_units : (depth : ℕ) (ps : List Pending) (w : PlainWorld) (left : ℕ) → unwind depth ps (Out w NoUnits left) ≡ Out w NoUnits left
unwind-no_units depth [] w left = refl
unwind-no_units depth (p ∷ ps) w left = ap (finish p depth) (unwind-no_units (suc depth) ps w left)

-- each frame has its row
rows-length : (t : Reading) (stack : List Kept) (ps : List Pending) → AllWait t stack ps → length ps ≡ length stack
rows-length t [] [] h = refl
rows-length t (kept ∷ stack) (p ∷ ps) h = ap suc (rows-length t stack ps h.1)
rows-length t [] (p ∷ ps) h = absurd h
rows-length t (kept ∷ stack) [] h = absurd h

rows-push : (t : Reading) (stack : List Kept) (ps : List Pending) (kept : Kept) (p : Pending) → AllWait t stack ps → Waits t kept p → AllWait t (stack ++ kept ∷ []) (ps ++ p ∷ [])
rows-push t [] [] kept p h k = (k, tt)
rows-push t (other ∷ stack) (q ∷ ps) kept p h k = (h.0, rows-push t stack ps kept p h.1 k)
rows-push t [] (q ∷ ps) kept p h k = absurd h
rows-push t (other ∷ stack) [] kept p h k = absurd h

rows-pop : (t : Reading) (stack : List Kept) (ps : List Pending) (kept : Kept) → AllWait t (stack ++ kept ∷ []) ps → (qs : List Pending) × (q : Pending) × (ps ≡ qs ++ q ∷ []) × AllWait t stack qs × Waits t kept q
rows-pop t [] (q ∷ []) kept h = ([], q, refl, tt, h.0)
rows-pop t [] [] kept h = absurd h
rows-pop t [] (q ∷ (p ∷ ps)) kept h = absurd h.1
rows-pop t (other ∷ stack) [] kept h = absurd h
rows-pop t (other ∷ stack) (p ∷ ps) kept h =
    let k = rows-pop t stack ps kept h.1 in (p ∷ k.0, k.1, ap (λ qs. p ∷ qs) k.2, (h.0, k.3), k.4)

-- what follows from a row's words is what follows from the code's step
abbrev learnt_in : Said → Told
learnt_in (Asks w learnt other) = learnt
learnt_in (Ends w r) = []

abbrev waiting : PlainTask → Told → Said → Pending
waiting task told said = record { task = task; told = told ++ learnt_in said }

step-waits : (t : Reading) (task : PlainTask) (told : Told) (said : Said) (next : Step Kept) (new : World) → Steps (stands t) t (λ u more. say u task (told ++ more)) said next new → WaitsAt t next (waiting task told said)
step-waits t task told (Ends w r) (Ask other kept) new h = absurd h
step-waits t task told (Ends w r) (End s) new h = tt
step-waits t task told (Asks w learnt other) (End s) new h = absurd h
step-waits t task told (Asks w learnt other) (Ask next kept) new h = λ u r more. ap (say u task) (append_assoc told learnt (Answered r ∷ more)) ∙ h.2 u r more

step-coming : (t : Reading) (task : PlainTask) (told : Told) (said : Said) (next : Step Kept) (new : World) (left depth : ℕ) → Steps (stands t) t (λ u more. say u task (told ++ more)) said next new → step (reach say) task told depth said left ≡ coming t next (waiting task told said) (plain t new) left depth
step-coming t task told (Ends w r) (Ask other kept) new left depth h = absurd h
step-coming t task told (Ends w r) (End s) new left depth h =
    ap (λ w. Out w (Over r) left) (sym h.1) ∙ ap (λ r. Out (plain t new) (Over r) left) (sym h.0)
step-coming t task told (Asks w learnt other) (End s) new left depth h = absurd h
step-coming t task told (Asks w learnt other) (Ask next kept) new zero depth h = ap (λ w. Out w NoUnits zero) (sym h.1)
step-coming t task told (Asks w learnt other) (Ask next kept) new (suc left) depth h =
    let p = waiting task told (Asks w learnt other) in
    ap (λ w. finish p depth (asked (reach say) w other left (suc depth))) (sym h.1)
    ∙ ap (λ other. finish p depth (asked (reach say) (plain t new) other left (suc depth))) (sym h.0)

-- an answer goes to the frame on top
state-resume : (t : Reading) (old new : World) (stack : List Kept) (kept : Kept) (r : Result Answer Fault) (left : ℕ) (next : Step Kept) (o : Outcome) → Resumes kept r old new next → Reads t new → LeadsTo t old (stack ++ kept ∷ []) left (End r) o → LeadsTo t new stack left next o
unfolding LeadsTo
state-resume t old new stack kept r left next o h reads comes =
    let k = rows-pop t stack comes.0 kept comes.2 in
    let qs = k.0 in
    let q = k.1 in
    let w = plain t old in
    let told = q.told ++ Answered (ended_of r) ∷ [] in
    let says : (u : PlainWorld) (more : Told) → say u q.task (told ++ more) ≡ stands t kept (ended_of r) u more = λ u more. ap (say u q.task) (append_assoc q.told (Answered (ended_of r) ∷ []) more) ∙ k.4 u (ended_of r) more in
    let said = say w q.task told in
    let steps = steps-on (stands t) t (λ u more. say u q.task (told ++ more)) (stands t kept (ended_of r)) says said next new
    (subst (λ s. Steps (stands t) t (stands t kept (ended_of r)) s next new) (sym (k.4 w (ended_of r) [])) (h t reads).1) in (
      qs,
      waiting q.task told said,
      k.3,
      step-waits t q.task told said next new steps,
      sym (sym comes.4
          ∙ ap (λ ps. unwind 0 ps (Out w (Over (ended_of r)) left)) k.2
          ∙ unwind-push qs q (Out w (Over (ended_of r)) left)
          ∙ ap (unwind 0 qs) (reach-is say w q.task told left (length qs) ∙ step-coming t q.task told said next new left (length qs) steps)),
    )

-- an asked task begins above the row's frame
state-asked : (t : Reading) (old new : World) (stack : List Kept) (task : Task) (kept : Kept) (left depth : ℕ) (next : Step Kept) (o : Outcome) → depth ≡ suc (length stack) → BeginsAt depth task old new next → Reads t new → LeadsTo t old stack (suc left) (Ask task kept) o → LeadsTo t new (stack ++ kept ∷ []) left next o
unfolding LeadsTo
state-asked t old new stack task kept left depth next o e h reads comes =
    let ps = comes.0 in
    let p = comes.1 in
    let n : depth ≡ length (ps ++ p ∷ []) = omega (arith, e, length-append ps (p ∷ []), rows-length t stack ps comes.2) in
    let d : suc (length ps) ≡ length (ps ++ p ∷ []) = omega (arith, length-append ps (p ∷ [])) in
    let b = subst (λ d. BeginsAt d task old new next) n h t reads in (
      ps ++ p ∷ [],
      b.1,
      rows-push t stack ps kept p comes.2 comes.3,
      b.2,
      unwind-push ps p (coming t next b.1 (plain t new) left (length (ps ++ p ∷ [])))
          ∙ ap (λ o. unwind 0 ps (finish p (length ps) o)) (sym (b.3 left))
          ∙ ap (λ d. unwind 0 ps (finish p (length ps) (asked (reach say) (plain t old) (task_of t task) left d))) (sym d)
          ∙ comes.4,
    )

-- a task begins where a row asked it
module _ (depth : ℕ) (task : Task) where
  begins-at : (old new : World) (next : Step Kept) → nat_lt depth 1000 ≡ true → Begins task old new next → BeginsAt depth task old new next
  begins-at old new next low h = λ t reads.
      let w = plain t old in
      let job = task_of t task in
      let said = say w job [] in (
        (h t reads).0,
        waiting job [] said,
        step-waits t job [] said next new (h t reads).1,
        λ left.
            ap (λ b. cond b (reach say w job [] left depth) (Out w (Over (fault DepthLimit)) left)) low
            ∙ reach-is say w job [] left depth
            ∙ step-coming t job [] said next new left depth (h t reads).1,
      )

  -- or it stands too deep
  asked-limited : (w : World) → 1000 ≤ depth → BeginsAt depth task w w (End (fault DepthLimit))
  asked-limited w above = λ t reads. (
    reads,
    record { task = task_of t task; told = [] },
    tt,
    λ left.
        let now = plain t w in
        ap (λ b. cond b (reach say now (task_of t task) [] left depth) (Out now (Over (fault DepthLimit)) left)) (le-ltb _ _ above),
  )

  -- the first step at so great a depth is the one or the other
  first-above : (old new : World) (next : Step Kept) → IsFirstAbove depth task old new next → BeginsAt depth task old new next × LeavesOpen of_kept bodies_in 0 old new (Ok next)
  first-above old new next h = by-depth (nat_lt depth 1000) refl
    where
      by-depth : (b : Bool) → nat_lt depth 1000 ≡ b → BeginsAt depth task old new next × LeavesOpen of_kept bodies_in 0 old new (Ok next)
      by-depth true low = let first = h.0 (ltb-true _ _ low) in (begins-at old new next low first.0, first.1)
      by-depth false high =
          let above = ltb-false _ _ high in
          let limited = h.1 above in
          subst (λ next. BeginsAt depth task old new next × LeavesOpen of_kept bodies_in 0 old new (Ok next)) (sym limited.0)
          (subst (λ new. BeginsAt depth task old new (End (fault DepthLimit)) × LeavesOpen of_kept bodies_in 0 old new (Ok (End (fault DepthLimit)))) (sym limited.1)
          (asked-limited old above, (same-lasts old old refl refl refl refl refl, (tt, omega arith))))

  -- where the depth allows it, the task's first step is this one
  pub comes-above : {E : Type 0} (old new : World) (below stack : List Kept) (o : Result Next E) → depth < 1000 → IfOk o (λ to. Comes (IsFirst task old new) below stack to) → IfOk o (λ to. Comes (IsFirstAbove depth task old new) below stack to)
  comes-above old new below stack (Ok to) low h = (h.0, ((λ less. h.1), (λ above. absurd (omega (arith, low, above)))), h.2)
  comes-above old new below stack (Err e) low h = tt

-- no unit is left
state-no_units : (t : Reading) (w : World) (stack : List Kept) (task : Task) (kept : Kept) (o : Outcome) → LeadsTo t w stack 0 (Ask task kept) o → o ≡ Out (plain t w) NoUnits 0
unfolding LeadsTo
state-no_units t w stack task kept o comes = sym comes.4 ∙ unwind-no_units 0 comes.0 (plain t w) 0

-- an answer is the end where no frame waits
state-end : (t : Reading) (w : World) (left : ℕ) (r : Result Answer Fault) (o : Outcome) → LeadsTo t w [] left (End r) o → o ≡ Out (plain t w) (Over (ended_of r)) left
unfolding LeadsTo
state-end t w left r o comes = sym comes.4 ∙ none comes.0 comes.2
  where
    none : (ps : List Pending) → AllWait t [] ps → unwind 0 ps (Out (plain t w) (Over (ended_of r)) left) ≡ Out (plain t w) (Over (ended_of r)) left
    none [] h = refl
    none (p ∷ ps) h = absurd h

-- the first task begins
state-first : (t : Reading) (old new : World) (task : Task) (left : ℕ) (next : Step Kept) → Begins task old new next → Reads t new → LeadsTo t new [] left next (reach say (plain t old) (task_of t task) [] left 0)
unfolding LeadsTo
state-first t old new task left next h reads =
    let job = task_of t task in
    let said = say (plain t old) job [] in (
      [],
      waiting job [] said,
      tt,
      step-waits t job [] said next new (h t reads).1,
      sym (reach-is say (plain t old) job [] left 0 ∙ step-coming t job [] said next new left 0 (h t reads).1),
    )

pub no-frames : (stack : List Kept) → length stack ≡ 0 → stack ≡ []
no-frames [] h = refl
no-frames (kept ∷ stack) h = absurd (omega arith)

-- the machine stays on its way
module _ (task : Task) (first : World) (units : ℕ) where
  -- where an answer goes to the frame on top
  resumed : (w new : World) (rest : List Kept) (kept : Kept) (r : Result Answer Fault) (left : ℕ) (next : Step Kept) → IsOnItsWay task first units w (rest ++ kept ∷ []) left (End r) → Resumes kept r w new next → LeavesOpen of_kept bodies_in (bodies_in kept) w new (Ok next) → IsOnItsWay task first units new rest left next
  resumed w new rest kept r left next way goes leaves = record {
    outcome = λ t reads.
        let o = way.outcome t (goes t reads).0 in
        (o.0, state-resume t w new rest kept r left next _ goes reads o.1);
    lasts = lasts-on first w new way.lasts leaves.0;
    bodies = let b = way.bodies in let l = leaves.1.1 in let s = sum_by_push bodies_in rest kept in omega (arith, b, l, s);
    frames = all-last w new leaves.0 _ (each-pop w of_kept rest kept way.frames).0;
    claims = leaves.1.0;
  }

  -- where an asked task begins above the row's frame
  began : (w new : World) (stack : List Kept) (asked : Task) (kept : Kept) (left rest depth : ℕ) (next : Step Kept) → left ≡ suc rest → depth ≡ suc (length stack) → IsOnItsWay task first units w stack left (Ask asked kept) → BeginsAt depth asked w new next → LeavesOpen of_kept bodies_in 0 w new (Ok next) → IsOnItsWay task first units new (stack ++ kept ∷ []) rest next
  began w new stack asked kept left rest depth next more deep way goes leaves =
      let on : IsOnItsWay task first units w stack (suc rest) (Ask asked kept) = subst (λ n. IsOnItsWay task first units w stack n (Ask asked kept)) more way in
      record {
        outcome = λ t reads.
            let o = on.outcome t (goes t reads).0 in
            (o.0, state-asked t w new stack asked kept rest depth next _ deep goes reads o.1);
        lasts = lasts-on first w new on.lasts leaves.0;
        bodies = let b = on.bodies in let l = leaves.1.1 in let s = sum_by_push bodies_in stack kept in omega (arith, b, l, s);
        frames = all-last w new leaves.0 _ (each-push w of_kept stack kept on.frames (all-rest w (of_task asked) (of_kept kept) on.claims));
        claims = leaves.1.0;
      }

  -- it has come to an end where no frame waits
  pub over : (w : World) (r : Result Answer Fault) (left : ℕ) → IsOnItsWay task first units w [] left (End r) → Reaches task first units w (code.Over r)
  over w r left way = λ t reads. let o = way.outcome t reads in (o.0, left, state-end t w left r _ o.1)

  -- or no unit is left
  spent : (w : World) (stack : List Kept) (asked : Task) (kept : Kept) → IsOnItsWay task first units w stack 0 (Ask asked kept) → Reaches task first units w code.NoUnits
  spent w stack asked kept way = λ t reads. let o = way.outcome t reads in (o.0, 0, state-no_units t w stack asked kept _ o.1)

-- a row asks, and what it keeps goes on top of the stack
pub waits-on : {E : Type 0} (Is : Step Kept → Type 0) (below stack : List Kept) (asked : Task) (kept : Kept) (o : Result Next E) → Is (Ask asked kept) → IfOk o (λ to. (to ≡ next.Ask asked) × (stack ≡ below ++ kept ∷ [])) → IfOk o (λ to. Comes Is below stack to)
waits-on Is below stack asked kept (Ok to) is h = (Ask asked kept, is, subst (IsTaken (Ask asked kept) below stack) (sym h.0) (refl, h.1))
waits-on Is below stack asked kept (Err e) is h = tt

-- a row ends
pub ends-there : (Is : Step Kept → Type 0) (stack : List Kept) (r : Result Answer Fault) → Is (End r) → Comes Is stack stack (next.End r)
ends-there Is stack r is = (End r, is, (refl, refl))

-- a step that is taken takes one turn more, or one frame
taken-more : (step : Step Kept) (below stack : List Kept) (to : Next) → IsTaken step below stack to → length stack + turns_more to ≡ length below + 1
taken-more (Ask asked kept) below stack (next.Ask task) h = let same = ap length h.1 in let longer = length-append below (kept ∷ []) in omega (arith, same, longer)
taken-more (Ask asked kept) below stack (next.End r) h = absurd h
taken-more (End r) below stack (next.Ask task) h = absurd h
taken-more (End r) below stack (next.End s) h = let same = ap length h.1 in omega (arith, same)

pub comes-more : (Is : Step Kept → Type 0) (below stack : List Kept) (to : Next) → Comes Is below stack to → length stack + turns_more to ≡ length below + 1
comes-more Is below stack to h = taken-more h.0 below stack to h.2

-- an asked task that stands too deep ends at once
pub limited-above : (depth : ℕ) (task : Task) (w : World) (stack : List Kept) → 1000 ≤ depth → Comes (IsFirstAbove depth task w w) stack stack (next.End (fault DepthLimit))
limited-above depth task w stack above =
    ends-there (IsFirstAbove depth task w w) stack (fault DepthLimit) ((λ low. absurd (omega (arith, low, above))), (λ more. (refl, refl)))

-- the machine stays on its way, where each step is taken
module _ (task : Task) (first : World) (units : ℕ) where
  -- a row waits for what it asked
  abbrev WaitsFor : World → List Kept → ℕ → Task → Type 0
  WaitsFor w stack left asked = (below : List Kept) × (kept : Kept) × (stack ≡ below ++ kept ∷ []) × IsOnItsWay task first units w below left (Ask asked kept)

  ended-by : (w : World) (stack : List Kept) (left : ℕ) (r : Result Answer Fault) (step : Step Kept) (below : List Kept) → IsTaken step below stack (next.End r) → IsOnItsWay task first units w below left step → IsOnItsWay task first units w stack left (End r)
  ended-by w stack left r (Ask asked kept) below taken way = absurd taken
  ended-by w stack left r (End s) below taken way =
      subst (λ ks. IsOnItsWay task first units w ks left (End r)) (sym taken.1) (subst (λ s. IsOnItsWay task first units w below left (End s)) (sym taken.0) way)

  waits-by : (w : World) (stack : List Kept) (left : ℕ) (asked : Task) (step : Step Kept) (below : List Kept) → IsTaken step below stack (next.Ask asked) → IsOnItsWay task first units w below left step → WaitsFor w stack left asked
  waits-by w stack left asked (Ask other kept) below taken way = (below, kept, taken.1, subst (λ a. IsOnItsWay task first units w below left (Ask a kept)) (sym taken.0) way)
  waits-by w stack left asked (End s) below taken way = absurd taken

  pub ended : (w : World) (stack : List Kept) (left : ℕ) (r : Result Answer Fault) → IsUnderWay task first units w stack left (next.End r) → IsOnItsWay task first units w stack left (End r)
  ended w stack left r way = ended-by w stack left r way.0 way.1 way.2 way.3

  waits : (w : World) (stack : List Kept) (left : ℕ) (asked : Task) → IsUnderWay task first units w stack left (next.Ask asked) → WaitsFor w stack left asked
  waits w stack left asked way = waits-by w stack left asked way.0 way.1 way.2 way.3

  pub under-way : (new : World) (stack : List Kept) (to : Next) → Comes (IsFirst task first new) [] stack to → IsUnderWay task first units new stack units to
  under-way new stack to h = (
    h.0,
    [],
    h.2,
    record {
      outcome = λ t reads. ((h.1.0 t reads).0, state-first t first new task units h.0 h.1.0 reads);
      lasts = h.1.1.0;
      bodies = let b = h.1.1.1.1 in omega (arith, b);
      frames = tt;
      claims = h.1.1.1.0;
    },
  )

  pub resumed-next : (w new : World) (rest stack : List Kept) (kept : Kept) (r : Result Answer Fault) (left : ℕ) (to : Next) → IsUnderWay task first units w (rest ++ kept ∷ []) left (next.End r) → Comes (IsNext kept r w new) rest stack to → IsUnderWay task first units new stack left to
  resumed-next w new rest stack kept r left to way h =
      (h.0, rest, h.2, resumed task first units w new rest kept r left h.0 (ended w (rest ++ kept ∷ []) left r way) h.1.0 h.1.1)

  pub began-next : (w new : World) (stack above : List Kept) (asked : Task) (left rest : ℕ) (to : Next) → left ≡ suc rest → IsUnderWay task first units w stack left (next.Ask asked) → Comes (IsFirstAbove (length stack) asked w new) stack above to → IsUnderWay task first units new above rest to
  began-next w new stack above asked left rest to more way h =
      let q = waits w stack left asked way in
      let same = ap length q.2 in
      let longer = length-append q.0 (q.1 ∷ []) in
      let deep : length stack ≡ suc (length q.0) = omega (arith, same, longer) in
      let begun = first-above (length stack) asked w new h.0 h.1 in
      (h.0, stack, h.2, subst (λ ks. IsOnItsWay task first units new ks rest h.0) (sym q.2) (began task first units w new q.0 asked q.1 left rest (length stack) h.0 more deep q.3 begun.0 begun.1))

  -- what is asked is all there
  pub asked-holds : (w : World) (stack : List Kept) (left : ℕ) (asked : Task) → IsUnderWay task first units w stack left (next.Ask asked) → AllHold w (of_task asked)
  asked-holds w stack left asked way = let q = waits w stack left asked way in all-first w (of_task asked) (of_kept q.1) q.3.claims

  pub spent-next : (w : World) (stack : List Kept) (asked : Task) → IsUnderWay task first units w stack 0 (next.Ask asked) → Reaches task first units w code.NoUnits
  spent-next w stack asked way = let q = waits w stack 0 asked way in spent task first units w q.0 asked q.1 q.3

  pub runs-on : (w : World) (stack : List Kept) (left : ℕ) (to : Next) → IsUnderWay task first units w stack left to → EndsDeep first w code.NoUnits
  runs-on w stack left to way = let b = way.3.bodies in omega (arith, b)

-- How rows of slices go on once there is a new slice.
use Rattle.proto_object.proofs.Below.{[], Some, refl, sym, ap, subst, ◌∙◌, ℤ, PyObjectRef, MapSubscript, MapAssSubscript, SlotEntry, Task, Ask, Asks, DoGetSlice, DoSetSlice, DoDelSlice, PlainWorld, Said, pass, slot_at, World, Reading, Reads, plain, task_of, Steps, entered, Ending, Pass, deleted, del_slice_by, get_slice_by, set_slice_by, with_slice, items_stands, items_job_say}
use Rattle.std.proofs.Common.{◌≡◌, ◌∷◌}
use Rattle.py_node.specs.declared.known.Known.TheVariants as known

-- an entry is asked of the object and of a new slice, whatever slot it was read in
module _ (t : Reading) (w new : World) (o s : PyObjectRef) (i j : ℤ) (e : SlotEntry) (asked : Task) (old : Reads t w)
    (made : (go : PlainWorld → PyObjectRef → Said) → with_slice (plain t w) i j go ≡ go (plain t new) s) where
  pub part-read : slot_at (plain t w) o MapSubscript ≡ Some e → task_of t asked ≡ entered e known.GetItem o (s ∷ [])
      → Reads t w × Steps (items_stands t) t (λ u. items_job_say u (DoGetSlice o i j)) (items_job_say (plain t w) (DoGetSlice o i j) []) (Ask asked Pass) new
  unfolding items_job_say
  part-read at is =
      let said : get_slice_by (plain t w) (slot_at (plain t w) o MapSubscript) o i j ≡ Asks (plain t new) [] (entered e known.GetItem o (s ∷ [])) =
      ap (λ f. get_slice_by (plain t w) f o i j) at ∙ made (λ u s. pass u (entered e known.GetItem o (s ∷ []))) in
      (old, subst (λ said. Steps (items_stands t) t (λ u. items_job_say u (DoGetSlice o i j)) said (Ask asked Pass) new) (sym said) (is, refl, λ u r more. refl))

  pub part-set : (v : PyObjectRef) → slot_at (plain t w) o MapAssSubscript ≡ Some e → task_of t asked ≡ entered e known.SetItem o (s ∷ v ∷ [])
      → Reads t w × Steps (items_stands t) t (λ u. items_job_say u (DoSetSlice o i j v)) (items_job_say (plain t w) (DoSetSlice o i j v) []) (Ask asked Ending) new
  unfolding items_job_say
  part-set v at is =
      let said : set_slice_by (plain t w) (slot_at (plain t w) o MapAssSubscript) o i j v ≡ Asks (plain t new) [] (entered e known.SetItem o (s ∷ v ∷ [])) =
      ap (λ f. set_slice_by (plain t w) f o i j v) at ∙ made (λ u s. pass u (entered e known.SetItem o (s ∷ v ∷ []))) in
      (old, subst (λ said. Steps (items_stands t) t (λ u. items_job_say u (DoSetSlice o i j v)) said (Ask asked Ending) new) (sym said) (is, refl, λ u r more. refl))

  pub part-deleted : slot_at (plain t w) o MapAssSubscript ≡ Some e → task_of t asked ≡ entered (deleted e) known.DelItem o (s ∷ [])
      → Reads t w × Steps (items_stands t) t (λ u. items_job_say u (DoDelSlice o i j)) (items_job_say (plain t w) (DoDelSlice o i j) []) (Ask asked Ending) new
  unfolding items_job_say
  part-deleted at is =
      let said : del_slice_by (plain t w) (slot_at (plain t w) o MapAssSubscript) o i j ≡ Asks (plain t new) [] (entered (deleted e) known.DelItem o (s ∷ [])) =
      ap (λ f. del_slice_by (plain t w) f o i j) at ∙ made (λ u s. pass u (entered (deleted e) known.DelItem o (s ∷ []))) in
      (old, subst (λ said. Steps (items_stands t) t (λ u. items_job_say u (DoDelSlice o i j)) said (Ask asked Ending) new) (sym said) (is, refl, λ u r more. refl))

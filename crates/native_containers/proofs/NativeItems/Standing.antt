-- How natives go on that kept the items that stood in an object at the start, or did not.
use Rattle.native_containers.proofs.Below.{◌∙◌, ap, Bool, List, [], Option, Some, None, refl, Vec, OfList, PyObjectRef, PySlice, PlainWorld, Bindings, Ended, Said, Asks, Answered, DoCollect, DoIndex, ToNative, ToProtocol, Reading, Sequence, Getting, Setting, Deleting, Extending, is_plain, slice_at, del_asked, del_item, extend, get_item, index_asked, is_number, item_asked, set_asked, set_item, stood, getter_of, item_stands, stood_told, item_job_say, Told}
use Rattle.std.proofs.Common.{◌≡◌, ◌∷◌, ◌++◌}
use Rattle.py_node.specs.declared.entry.ListNative.TheVariants as list
use Rattle.native_containers.specs.declared.native_items.get.Sequence.TheVariants as sequence

-- they go on as they would from the start
pub getting-alike : (s : Sequence) (o k : PyObjectRef) (stood : Option (Vec PyObjectRef)) (t : Reading) (kw : Bindings) (u : PlainWorld) (r : Ended) (more : Told) → item_job_say u (ToNative (getter_of s) (o ∷ k ∷ []) kw) (stood_told stood ++ Answered r ∷ more) ≡ item_stands t (Getting o stood) r u more
unfolding item_job_say
getting-alike sequence.Tuple o k None t kw u r more = refl
getting-alike sequence.Tuple o k (Some rs) t kw u r more = refl
getting-alike sequence.List o k None t kw u r more = refl
getting-alike sequence.List o k (Some rs) t kw u r more = refl

pub setting-alike : (o k v : PyObjectRef) (stood : Option (Vec PyObjectRef)) (t : Reading) (kw : Bindings) (u : PlainWorld) (r : Ended) (more : Told) → item_job_say u (ToNative (OfList list.SetItem) (o ∷ k ∷ v ∷ []) kw) (stood_told stood ++ Answered r ∷ more) ≡ item_stands t (Setting o k v stood) r u more
unfolding item_job_say
setting-alike o k v None t kw u r more = refl
setting-alike o k v (Some rs) t kw u r more = refl

pub deleting-alike : (o k : PyObjectRef) (stood : Option (Vec PyObjectRef)) (t : Reading) (kw : Bindings) (u : PlainWorld) (r : Ended) (more : Told) → item_job_say u (ToNative (OfList list.DelItem) (o ∷ k ∷ []) kw) (stood_told stood ++ Answered r ∷ more) ≡ item_stands t (Deleting o stood) r u more
unfolding item_job_say
deleting-alike o k None t kw u r more = refl
deleting-alike o k (Some rs) t kw u r more = refl

pub extending-alike : (o v : PyObjectRef) (stood : Option (Vec PyObjectRef)) (t : Reading) (kw : Bindings) (u : PlainWorld) (r : Ended) (more : Told) → item_job_say u (ToNative (OfList list.InplaceAdd) (o ∷ v ∷ []) kw) (stood_told stood ++ Answered r ∷ more) ≡ item_stands t (Extending o stood) r u more
unfolding item_job_say
extending-alike o v None t kw u r more = refl
extending-alike o v (Some rs) t kw u r more = refl

-- what is asked, by what was read before
module _ (u : PlainWorld) (o k v : PyObjectRef) (b : Bool) (s : Option (Vec PyObjectRef)) (is : stood u b o ≡ stood_told s) where
  place-asked : is_number u k ≡ b → index_asked u o k ≡ Asks u (stood_told s) (ToProtocol (DoIndex k))
  place-asked e = ap (λ b. Asks u (stood u b o) (ToProtocol (DoIndex k))) e ∙ ap (λ l. Asks u l (ToProtocol (DoIndex k))) is

  pub get-asked : (made : List PyObjectRef → Said) → slice_at u k ≡ None → is_number u k ≡ b → get_item u made o k [] ≡ Asks u (stood_told s) (ToProtocol (DoIndex k))
  get-asked made none e = ap (λ x. item_asked u made x o k) none ∙ place-asked e

  pub del-asked : slice_at u k ≡ None → is_number u k ≡ b → del_item u o k [] ≡ Asks u (stood_told s) (ToProtocol (DoIndex k))
  del-asked none e = ap (λ x. del_asked u x o k) none ∙ place-asked e

  pub set-asked : slice_at u k ≡ None → is_number u k ≡ b → set_item u o k v [] ≡ Asks u (stood_told s) (ToProtocol (DoIndex k))
  set-asked none e = ap (λ x. set_asked u x o k v) none ∙ place-asked e

  items-asked : is_plain u v ≡ b → Asks u (stood u (is_plain u v) o) (ToProtocol (DoCollect v)) ≡ Asks u (stood_told s) (ToProtocol (DoCollect v))
  items-asked e = ap (λ b. Asks u (stood u b o) (ToProtocol (DoCollect v))) e ∙ ap (λ l. Asks u l (ToProtocol (DoCollect v))) is

  pub set-part-asked : (part : PySlice) → slice_at u k ≡ Some part → is_plain u v ≡ b → set_item u o k v [] ≡ Asks u (stood_told s) (ToProtocol (DoCollect v))
  set-part-asked part some e = ap (λ x. set_asked u x o k v) some ∙ items-asked e

  pub extend-asked : is_plain u v ≡ b → extend u o v [] ≡ Asks u (stood_told s) (ToProtocol (DoCollect v))
  extend-asked e = items-asked e

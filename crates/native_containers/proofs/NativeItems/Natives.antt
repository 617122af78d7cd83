-- What the natives of tuples and of lists say that are alike.
use Rattle.native_containers.proofs.Below.{[], List, ap, sym, PyObjectRef, PlainWorld, Bindings, ToNative, Kind, with_own_and, Sequence, get_item, look_for, getter_of, made_as, searcher_of, item_job_say}
use Rattle.std.proofs.Common.{◌≡◌}
use Rattle.native_containers.specs.declared.native_items.get.Sequence.TheVariants as sequence
use Rattle.native_containers.specs.NativeItems.Rows.{kind_of}

pub getter-is : (s : Sequence) (k : Kind) → k ≡ kind_of s → (u : PlainWorld) (args : List PyObjectRef) (kw : Bindings) → item_job_say u (ToNative (getter_of s) args kw) [] ≡ with_own_and k u args kw (λ o a. get_item u (made_as s u) o a [])
unfolding item_job_say
getter-is sequence.Tuple k e u args kw = ap (λ k. with_own_and k u args kw (λ o a. get_item u (made_as sequence.Tuple u) o a [])) (sym e)
getter-is sequence.List k e u args kw = ap (λ k. with_own_and k u args kw (λ o a. get_item u (made_as sequence.List u) o a [])) (sym e)

pub searcher-is : (s : Sequence) (k : Kind) → k ≡ kind_of s → (u : PlainWorld) (args : List PyObjectRef) (kw : Bindings) → item_job_say u (ToNative (searcher_of s) args kw) [] ≡ with_own_and k u args kw (λ o x. look_for u o x [])
unfolding item_job_say
searcher-is sequence.Tuple k e u args kw = ap (λ k. with_own_and k u args kw (λ o x. look_for u o x [])) (sym e)
searcher-is sequence.List k e u args kw = ap (λ k. with_own_and k u args kw (λ o x. look_for u o x [])) (sym e)

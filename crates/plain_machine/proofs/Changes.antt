-- The changes of a plain world, computed on a small one: two objects of one class.
use Rattle.plain_machine.proofs.Below.{false, [], map, codes, Some, None, refl, Text, Class, AnObject, AText, no_members, Node, PlainWorld, ref, SetOwn, SetBases, SetName, SetClass, SetMember, SetDict, SetDatum, apply}
use Rattle.std.proofs.Common.{◌≡◌, ◌∷◌}

abbrev object : Node
object = record { class = 0; dict = None; members = no_members; datum = AnObject }

abbrev class : Class Text
class = record { name = codes "A"; number = 0; bases = []; attrs = (codes "y", ref 0) ∷ []; members = []; flags = 0; brings = false }

abbrev small : PlainWorld
small = record { nodes = object ∷ object ∷ []; classes = class ∷ []; vars = []; scopes = []; calls = [] }

-- an attribute that was set last is taken out
own-taken-out : apply (apply small (SetOwn 0 (codes "x") (Some (ref 1)))) (SetOwn 0 (codes "x") None) ≡ small
own-taken-out = refl

own-in-place : (apply small (SetOwn 0 (codes "y") (Some (ref 1)))).classes ≡ record class { attrs = (codes "y", ref 1) ∷ [] } ∷ []
own-in-place = refl

bases-set : (apply small (SetBases 0 (1 ∷ 2 ∷ []))).classes ≡ record class { bases = 1 ∷ 2 ∷ [] } ∷ []
bases-set = refl

name-set : (apply small (SetName 0 (codes "Z"))).classes ≡ record class { name = codes "Z" } ∷ []
name-set = refl

class-set : (apply small (SetClass (ref 1) 5)).nodes ≡ object ∷ record object { class = 5 } ∷ []
class-set = refl

-- places of one object don't touch each other
written : PlainWorld
written = apply (apply (apply small (SetMember (ref 1) (0, 0) (Some (ref 0)))) (SetMember (ref 1) (0, 1) (Some (ref 1)))) (SetMember (ref 1) (0, 0) None)

places-apart : (map (λ n. n.members 0 0) written.nodes ≡ None ∷ None ∷ []) × (map (λ n. n.members 0 1) written.nodes ≡ None ∷ Some (ref 1) ∷ [])
unfolding written
places-apart = (refl, refl)

dict-set : (apply small (SetDict (ref 0) (ref 1))).nodes ≡ record object { dict = Some (ref 1) } ∷ object ∷ []
dict-set = refl

datum-set : (apply small (SetDatum (ref 1) (AText (codes "t")))).nodes ≡ object ∷ record object { datum = AText (codes "t") } ∷ []
datum-set = refl

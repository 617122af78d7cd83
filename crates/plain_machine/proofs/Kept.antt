-- Each change that may be made keeps a sound world sound.
use Rattle.plain_machine.proofs.Below.{Some, None, PlainWorld, Change, MakeNode, MakeClass, Bind, SetOwn, SetBases, SetName, SetClass, SetMember, SetDict, SetDatum, apply, Allowed, IsSound}
use Rattle.plain_machine.proofs.KeptNodes.{made-kept, class-kept, member-kept, dict-kept, datum-kept}
use Rattle.plain_machine.proofs.KeptClasses.{new_class-kept, own-kept, own_out-kept, bases-kept, name-kept}
use Rattle.plain_machine.proofs.KeptVars.{bind-kept}

pub keeps-sound : (w : PlainWorld) (change : Change) → Allowed w change → IsSound w → IsSound (apply w change)
keeps-sound w (MakeNode c d) a s = made-kept w c d a s
keeps-sound w (MakeClass meta k) a s = new_class-kept w meta k a s
keeps-sound w (Bind x r) a s = bind-kept w x r a s
keeps-sound w (SetOwn c x None) a s = own_out-kept w c x s
keeps-sound w (SetOwn c x (Some r)) a s = own-kept w c x r a.1 s
keeps-sound w (SetBases c bs) a s = bases-kept w c bs a s
keeps-sound w (SetName c x) a s = name-kept w c x s
keeps-sound w (SetClass r c) a s = class-kept w r c a s
keeps-sound w (SetMember r p v) a s = member-kept w r p v a s
keeps-sound w (SetDict r d) a s = dict-kept w r d a s
keeps-sound w (SetDatum r d) a s = datum-kept w r d a s
